-- The walk over a list, entry by entry.
--
--   first_fits, entry_first, no_first     an entry at the front of a list, and none, by the length that stands there
--   entries_more   an entry at the front is the first entry
--   length_none, entries_none    there is none where the front is the end or a fault
--   walk_from t c   the totals t and those of the entries c, where nothing is left after them; or the refusal of what is left
--   saved_most     an entry is one saved entry at most
--   walk_start, no_totals     the walk from no entries at all
--   walk_more, walk_end, walk_fault    a step of the walk, by what is at the front
--   Walks, walks   a step past an entry, as the loop over a list meets it
--   stopped        what the walk gives where something is left
--   walk_totals, walk_count, walk_saved    what a walk to the end tells
--   entries_long, entries_most     an entry has 58 bytes or more
--   fault_range    the numbers of the faults
--   WalkRefused, walk_refused     what a walk to a fault tells
--   Added t u      u is t with one entry more, and at most one saved entry more
--   add_added      an entry more is one entry more, and one saved entry more at most
--   add_fits       an entry more, by counts that stop at the greatest number of 64 bits, where both have room
-- Assumes nothing.
use Rattle.std.specs.Prelude.{Some, None, Ok, Err}
use mathlib.Core.Path.{◌≡◌, refl, sym, ap, ap₂, ◌∙◌, subst}
use mathlib.Core.Bool.{Bool, true, false, cond}
use mathlib.Core.List.{List, [], ◌∷◌, map, foldr}
use Prim.Native.Nat.{ℕ, ◌+◌, ◌*◌, ◌/◌, ◌^◌, ◌≤◌, ◌<◌, max}
use native.Mathlib.Omega.{arith}
use lib.ListN.{length, take, drop, length-drop}
use lib.Seq.{length-take-le}
use Rattle.cut_lists.specs.All.{All}
use Rattle.cut_lists.specs.Pieces.{Cut, before}
use Rattle.cut_lists.proofs.CutLaws.{cut-none, cut_stop, cut_more, cut_induct, cut_all}
use Rattle.refusals.specs.declared.Refusal.{Refusal}
use Rattle.entries.specs.Entry.{status_of, file_size_of, is_saved, saved_count, is_counted, length_of}
use Rattle.entries.specs.Numbering.{keep, saved_of}
use Rattle.entries.specs.Walk.{Item, fault_of, fault_number, refusal_at, first_of, entries_of, totals_of, add_entry, saturating_add_entry, walked_to, walk_of}
use Rattle.entries.specs.declared.Entry.{Entry}
use Rattle.entries.specs.declared.Fault.{Fault}
use Rattle.entries.specs.declared.Fault.TheVariants.{Size, FileSize, Name}
use Rattle.entries.specs.declared.Totals.{Totals}
use Rattle.entries.specs.Walk.{Walked}
use Rattle.entries.proofs.EntryLaws.{length_sized, length_end, IsEntry, IsFault, is_fault}

pub entries_more : {s : List ℕ} {n status size : ℕ} → IsEntry s n status size → entries_of s ≡ before (take n s) (entries_of (drop n s))
entries_more {s} i =
    cut_more length_of s (omega (arith, i.low, i.high)) (omega (arith, i.low, i.length_is))
    ∙ ap (λ (k : ℕ). before (take k s) (entries_of (drop k s))) i.length_is

-- an entry at the front, by the length that stands there
pub first_fits : (s : List ℕ) {n : ℕ} → n ≡ length_of s → (n ≡ 0 → ⊥) → n ≤ length s
first_fits s is some = let sized = length_sized s (omega arith) in omega (arith, sized.2)

pub entry_first : (s : List ℕ) {n : ℕ} {e rest : List ℕ} → n ≡ length_of s → (n ≡ 0 → ⊥) → e ≡ take n s → rest ≡ drop n s
    → (entries_of s).pieces ≡ e ∷ (entries_of rest).pieces
entry_first s is some e_is rest_is = let sized = length_sized s (omega arith) in
    ap (λ (c : Cut). c.pieces) (cut_more length_of s (omega (arith, sized.1, sized.2)) (omega arith))
    ∙ ap (λ (k : ℕ). take k s ∷ (entries_of (drop k s)).pieces) (sym is)
    ∙ ap₂ (λ (e rest : List ℕ). e ∷ (entries_of rest).pieces) (sym e_is) (sym rest_is)

pub no_first : (s : List ℕ) {n : ℕ} → n ≡ length_of s → n ≡ 0 → (entries_of s).pieces ≡ []
no_first s is z = ap (λ (c : Cut). c.pieces) (cut_stop length_of s (sym is ∙ z))

-- no entry more: the item at the front is the end or a fault
pub length_none : (s : List ℕ) (i : Item) → i ≡ first_of s → ((e : Entry) → i ≡ Ok (Some e) → ⊥) → length_of s ≡ 0
length_none s (Ok (Some e)) is k = absurd (k e refl)
length_none s (Ok None) is k = length_end s is
length_none s (Err f) is k = (is_fault is).length_zero

pub entries_none : (s : List ℕ) (i : Item) → i ≡ first_of s → ((e : Entry) → i ≡ Ok (Some e) → ⊥) → (entries_of s).pieces ≡ []
entries_none s i is k = no_first s refl (length_none s i is k)

-- ---- totals

abbrev totals : ℕ → ℕ → ℕ → Totals
totals n m k = record { entries = n; saved = m; greatest = k }

abbrev plus : Totals → Totals → Totals
plus a b = totals (a.entries + b.entries) (a.saved + b.saved) (max a.greatest b.greatest)

same : {a b c d e f : ℕ} → a ≡ b → c ≡ d → e ≡ f → totals a c e ≡ totals b d f
same p q r = cc

plus_none : (t : Totals) → plus (totals 0 0 0) t ≡ t
plus_none t = same (omega arith) (omega arith) (omega arith)

abbrev greatest : List (List ℕ) → ℕ
greatest es = foldr max 0 (map (λ e. file_size_of e) es)

plus_saved : (b : Bool) (n : ℕ) (e : List ℕ) (es : List (List ℕ))
    → n + cond b 1 0 + length es ≡ n + length (cond b (e ∷ es) es)
plus_saved true n e es = omega arith
plus_saved false n e es = omega arith

plus-greatest : (b : Bool) (n : ℕ) (e : List ℕ) (es : List (List ℕ))
    → max (cond b (max n (file_size_of e)) n) (greatest es) ≡ max n (greatest (cond b (e ∷ es) es))
plus-greatest true n e es = omega arith
plus-greatest false n e es = refl

plus-entry : (t : Totals) (e : List ℕ) (es : List (List ℕ))
    → plus (add_entry t (status_of e) (file_size_of e)) (totals_of es) ≡ plus t (totals_of (e ∷ es))
unfolding add_entry
plus-entry t e es =
    same (omega arith) (plus_saved (is_saved (status_of e)) t.saved e (saved_of es))
    (plus-greatest (is_counted (status_of e)) t.greatest e (keep (λ e. is_counted (status_of e)) es))

pub saved_most : (status : ℕ) → saved_count status ≤ 1
saved_most status = by (is_saved status)
  where
    by : (b : Bool) → cond b 1 0 ≤ 1
    by true = omega arith
    by false = omega arith

-- what an entry more changes
pub record Added (t u : Totals) : Type 0 where
  pub entries_is : u.entries ≡ t.entries + 1
  pub saved_most : u.saved ≤ t.saved + 1

pub add_added : (t : Totals) (status size : ℕ) → Added t (add_entry t status size)
unfolding add_entry
add_added t status size = record { entries_is = refl; saved_most = omega (arith, saved_most status) }

pub add_fits : (t : Totals) (status size : ℕ) → t.entries + 1 < 2 ^ 64 → t.saved + 1 < 2 ^ 64
    → saturating_add_entry t status size ≡ add_entry t status size
unfolding add_entry saturating_add_entry
add_fits t status size entries_fit saved_fit = same (omega arith) (omega (arith, saved_most status)) refl

-- ---- the walk, step by step

unfoldable pub walk_from : Totals → Cut → Walked
walk_from t c = walked_to (plus t (totals_of c.pieces)) c.rest

pub walk_start : (s : List ℕ) → walk_from (totals 0 0 0) (entries_of s) ≡ walk_of s
unfolding walk_from walk_of
walk_start s = ap (λ (t : Totals). walked_to t (entries_of s).rest) (plus_none (totals_of (entries_of s).pieces))

-- the totals that derived code begins with
pub no_totals : (t : Totals) → (t.entries ≡ 0) × ((t.saved ≡ 0) × (t.greatest ≡ 0)) → t ≡ totals 0 0 0
no_totals t z = same z.0 z.1.0 z.1.1

pub walk_more : (t : Totals) {s : List ℕ} {n status size : ℕ} → IsEntry s n status size
    → walk_from (add_entry t status size) (entries_of (drop n s)) ≡ walk_from t (entries_of s)
unfolding walk_from
walk_more t {s} {n} {status} {size} i = let rest : Cut = entries_of (drop n s) in
    let e : List ℕ = take n s in
    ap₂ (λ (x y : ℕ). walk_from (add_entry t x y) rest) i.status_is i.size_is
    ∙ ap (λ (u : Totals). walked_to u rest.rest) (plus-entry t e rest.pieces)
    ∙ ap (walk_from t) (sym (entries_more i))

-- a step of the walk, from the totals t at s to the totals u at rest
pub record Walks (s rest : List ℕ) (t u : Totals) : Type 0 where
  pub length_is : length rest + 58 ≤ length s
  pub added : Added t u
  pub walk_is : walk_from u (entries_of rest) ≡ walk_from t (entries_of s)

pub walks : {s rest : List ℕ} {t u : Totals} {n status size : ℕ} → IsEntry s n status size → rest ≡ drop n s → u ≡ add_entry t status size
    → Walks s rest t u
walks {s} {t = t} {n} {status} {size} i rest_is u_is = record {
  length_is = omega (arith, i.low, i.high, ap length rest_is, length-drop n s);
  added = subst (Added t) (sym u_is) (add_added t status size);
  walk_is = ap₂ (λ (u : Totals) (q : List ℕ). walk_from u (entries_of q)) u_is rest_is ∙ walk_more t i;
}

pub walk_end : (t : Totals) {s : List ℕ} → s ≡ [] → walk_from t (entries_of s) ≡ Ok t
unfolding walk_from
walk_end t {s} e =
    ap (λ (l : List ℕ). walk_from t (entries_of l)) e ∙ ap (walk_from t) (cut-none length_of)
    ∙ ap Ok (same (omega arith) (omega arith) (omega arith))

pub stopped : (t : Totals) (s : List ℕ) → 0 < length s → walked_to t s ≡ Err (refusal_at (fault_of s) (t.entries + 1))
stopped t [] h = absurd (omega arith)
stopped t (b ∷ s) h = refl

pub walk_fault : (t : Totals) {s : List ℕ} {f : Fault} → IsFault s f → walk_from t (entries_of s) ≡ Err (refusal_at f (t.entries + 1))
unfolding walk_from
walk_fault t {s} i = let place : t.entries + 0 + 1 ≡ t.entries + 1 = omega arith in
    ap (walk_from t) (cut_stop length_of s i.length_zero) ∙ stopped _ s i.some
    ∙ ap₂ (λ (f : Fault) (p : ℕ). Err (refusal_at f p)) (sym i.fault_is) place

-- ---- a walk to the end

pub walk_totals : (s : List ℕ) {t : Totals} → walk_of s ≡ Ok t → t ≡ totals_of (entries_of s).pieces
unfolding walk_of
walk_totals s {t} e = by (entries_of s).rest e
  where
    by : (r : List ℕ) → walked_to (totals_of (entries_of s).pieces) r ≡ Ok t → t ≡ totals_of (entries_of s).pieces
    by [] e = cc
    by (b ∷ r) e = absurd (let z : ◌≡◌ {A = ℕ} 0 1 = cc in omega arith)

module _ (s : List ℕ) {t : Totals} (e : walk_of s ≡ Ok t) where
  pub walk_count : t.entries ≡ length (entries_of s).pieces
  walk_count = ap (λ (u : Totals). u.entries) (walk_totals s e)

  pub walk_saved : t.saved ≡ length (saved_of (entries_of s).pieces)
  walk_saved = ap (λ (u : Totals). u.saved) (walk_totals s e)

-- ---- a walk to a fault

pub entries_long : (s : List ℕ) → All (λ e. 58 ≤ length e) (entries_of s).pieces
entries_long = cut_all length_of (λ e. 58 ≤ length e) (λ s h k. let z = length_sized s k in omega (arith, z.1, length-take-le (length_of s) s z.2))

pub entries_most : (s : List ℕ) → length (entries_of s).pieces * 58 ≤ length s
entries_most =
    cut_induct length_of (λ s c. length c.pieces * 58 ≤ length s) (omega arith) (λ s e. omega arith)
    (λ s h k e. let z = length_sized s k in omega (arith, z.1, z.2, length-drop (length_of s) s))

pub fault_range : (f : Fault) → (16 ≤ fault_number f) × (fault_number f ≤ 18)
fault_range Size = (omega arith, omega arith)
fault_range FileSize = (omega arith, omega arith)
fault_range Name = (omega arith, omega arith)

-- the refusal of an entry of the list s
pub record WalkRefused (s : List ℕ) (r : Refusal) : Type 0 where
  pub low : 16 ≤ r.number
  pub high : r.number ≤ 18
  pub place_most : r.place ≤ length s / 58 + 1

pub walk_refused : (s : List ℕ) {r : Refusal} → walk_of s ≡ Err r → WalkRefused s r
unfolding walk_of
walk_refused s {r} e = by (entries_of s).rest e
  where
    by : (t : List ℕ) → walked_to (totals_of (entries_of s).pieces) t ≡ Err r → WalkRefused s r
    by [] e = absurd (let z : ◌≡◌ {A = ℕ} 0 1 = cc in omega arith)
    by (b ∷ t) e = let f : Fault = fault_of (b ∷ t) in
        let is : refusal_at f (length (entries_of s).pieces + 1) ≡ r = cc in
        let number : fault_number f ≡ r.number = ap (λ (r : Refusal). r.number) is in
        let place : length (entries_of s).pieces + 1 ≡ r.place = ap (λ (r : Refusal). r.place) is in
        let range = fault_range f in
        record { low = omega (arith, range.0); high = omega (arith, range.1); place_most = omega (arith, entries_most s) }
