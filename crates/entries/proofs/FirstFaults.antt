-- The refusal that the walk over a list gives is that of the first entry that breaks a rule.
--
--   sized_right       an entry of an even length, at least 58, may stand in a list that holds it
--   keeps_first, entries_keep      the entries that the walk takes keep every rule
--   rest_faulty       what is left after the entries is nothing, or begins with none
--   breaks_first      what is left and not empty breaks the rule that the walk names, first of all
--   breaks_number     its number is not 0
--   broken_first      and so is what the list begins with
--   kept_length       an entry that keeps every rule is the first of a list that it stands in front of
--   entries_kept      entries that keep every rule, in front of what begins with none, are the entries of the list
--   no_sizes          no entry has fewer than 58 bytes
--   first_refused, stray_bytes     the claims
-- Assumes nothing.
use Rattle.std.specs.Prelude.{Err}
use mathlib.Core.Path.{◌≡◌, refl, sym, ap, ap₂, ◌∙◌, subst}
use mathlib.Core.Bool.{Bool, true, false}
use mathlib.Core.List.{List, [], ◌∷◌, ◌++◌, append_assoc, flatten}
use Prim.Native.Nat.{ℕ, ◌+◌, ◌%◌, ◌≤◌, ◌<◌}
use native.Mathlib.Omega.{arith}
use lib.ListN.{length, take, drop, length-append, take-append-drop}
use lib.Seq.{length-take-le, take-append_seam, drop-append_seam}
use borrow.Author.Tests.{eq-eqb, le-leb}
use Rattle.computed_tests.proofs.Tests.{and_both}
use Rattle.cut_lists.specs.All.{All, all_none, all_more}
use Rattle.cut_lists.specs.Pieces.{Cut, before}
use Rattle.cut_lists.proofs.CutLaws.{cut_stop, cut_more, cut_induct, cut_joins, cut_all}
use Rattle.little_endian.proofs.Reading.{le_at-append}
use Rattle.refusals.specs.declared.Refusal.{Refusal}
use Rattle.entries.specs.Claim.{Keeps, Breaks, breaks_size, breaks_file_size, breaks_name, FirstFault, FirstRefused, StrayBytes}
use Rattle.entries.specs.Entry.{entry_size, file_size_of, name_of, length_of}
use Rattle.entries.specs.Entry.{name_allowed, file_size_allowed, entry_size_allowed, body_allowed, entry_allowed}
use Rattle.entries.specs.Walk.{fault_of, fault_number, refusal_at, first_of, entries_of, totals_of, walked_to, walk_of}
use Rattle.entries.proofs.EntryLaws.{sized, length_sized}

pub sized_right : (n m : ℕ) → n % 2 ≡ 0 → 58 ≤ n → n ≤ m → entry_size_allowed n m ≡ true
unfolding entry_size_allowed
sized_right n m even low high = simp (eq-eqb (n % 2) 0 even, le-leb 58 n low, le-leb n m high)

-- ---- the entries that the walk takes

pub keeps_first : (s : List ℕ) → 0 < length s → 0 < length_of s → Keeps (take (length_of s) s)
unfolding length_of entry_allowed body_allowed
keeps_first s some found = let right = length_sized s found in
    let n_is : length_of s ≡ entry_size s = simp right.0 in
    let e : List ℕ = take (entry_size s) s in
    let both = and_both (entry_size_allowed (entry_size s) (length s)) (body_allowed e) right.0 in
    let z = sized (entry_size s) (length s) both.0 in
    let size : length e ≡ entry_size s = length-take-le (entry_size s) s z.high in
    let body = and_both (file_size_allowed (file_size_of e)) (name_allowed (name_of e)) both.1 in
    let own : entry_size e ≡ entry_size s =
    sym (le_at-append 8 e (drop (entry_size s) s) 0 (omega (arith, z.low)))
    ∙ ap (λ (l : List ℕ). entry_size l) (take-append-drop (entry_size s) s) in
    rw n_is
    (record {
      fills = own ∙ sym size;
      size_right = rw size (sized_right (entry_size s) (entry_size s) z.even z.low (omega arith));
      file_size_right = body.0;
      name_right = body.1;
    })

pub entries_keep : (s : List ℕ) → All Keeps (entries_of s).pieces
entries_keep = cut_all length_of Keeps keeps_first

-- ---- what is left after them

rest_faulty : (s : List ℕ) → 0 < length (entries_of s).rest → length_of (entries_of s).rest ≡ 0
rest_faulty = cut_induct length_of (λ s c. 0 < length c.rest → length_of c.rest ≡ 0) (λ h. absurd (omega arith)) (λ s e h. e) (λ s h k e. e)

breaks_first : (s : List ℕ) → length_of s ≡ 0 → Breaks s (fault_number (fault_of s))
unfolding length_of entry_allowed body_allowed fault_of
breaks_first s e =
    by (entry_size_allowed (entry_size s) (length s)) (file_size_allowed (file_size_of (take (entry_size s) s))) (name_allowed (name_of (take (entry_size s) s)))
    refl refl refl
  where
    by : (a b c : Bool) → entry_size_allowed (entry_size s) (length s) ≡ a → file_size_allowed (file_size_of (take (entry_size s) s)) ≡ b
        → name_allowed (name_of (take (entry_size s) s)) ≡ c → Breaks s (fault_number (fault_of s))
    by false b c p q r = simp p (breaks_size p)
    by true false c p q r = simp (p, q) (breaks_file_size p q)
    by true true false p q r = simp (p, q) (breaks_name p q r)
    by true true true p q r = let z = sized (entry_size s) (length s) p in
        let n : entry_size s ≡ 0 = simp (p, q, r) at e in absurd (omega (arith, z.low))

-- and the rule is the one that the walk names
fault_broken : (s : List ℕ) {n : ℕ} → Breaks s n → (length_of s ≡ 0) × (fault_number (fault_of s) ≡ n)
unfolding length_of entry_allowed body_allowed fault_of
fault_broken s (breaks_size p) = (simp p, simp p)
fault_broken s (breaks_file_size p q) = (simp (p, q), simp (p, q))
fault_broken s (breaks_name p q r) = (simp (p, q, r), simp (p, q))

pub breaks_number : {s : List ℕ} {n : ℕ} → Breaks s n → n ≡ 0 → ⊥
breaks_number (breaks_size p) z = omega arith
breaks_number (breaks_file_size p q) z = omega arith
breaks_number (breaks_name p q r) z = omega arith

not_allowed : (s : List ℕ) {n : ℕ} → Breaks s n → entry_allowed s ≡ false
unfolding entry_allowed body_allowed
not_allowed s (breaks_size p) = simp p
not_allowed s (breaks_file_size p q) = simp (p, q)
not_allowed s (breaks_name p q r) = simp (p, q, r)

pub broken_first : (s : List ℕ) {n : ℕ} → 0 < length s → Breaks s n → (first_of s ≡ Err (fault_of s)) × (fault_number (fault_of s) ≡ n)
unfolding first_of
broken_first [] some b = absurd (omega arith)
broken_first (c ∷ s) some b = (simp (not_allowed (c ∷ s) b), (fault_broken (c ∷ s) b).1)

-- ---- entries in front

pub kept_length : {e : List ℕ} → Keeps e → (t : List ℕ) → (length_of (e ++ t) ≡ length e) × (58 ≤ length e)
unfolding length_of entry_allowed body_allowed
kept_length {e} k t = let z = sized (length e) (length e) k.size_right in
    let total : length (e ++ t) ≡ length e + length t = length-append e t in
    let own : entry_size (e ++ t) ≡ length e = le_at-append 8 e t 0 (omega (arith, z.low)) ∙ k.fills in
    let size = sized_right (length e) (length (e ++ t)) z.even z.low (omega arith) in
    (simp (own, size, take-append_seam e t, k.file_size_right, k.name_right), z.low)

entries_kept : {es : List (List ℕ)} → All Keeps es → (t : List ℕ) → length_of t ≡ 0
    → entries_of (flatten es ++ t) ≡ record { pieces = es; rest = t }
unfolding flatten
entries_kept all_none t z = cut_stop length_of t z
entries_kept (all_more {x = e} {xs = es} k ks) t z = let s : List ℕ = flatten es ++ t in
    let n = kept_length k s in
    let some : 0 < length (e ++ s) = omega (arith, length-append e s, n.1) in
    ap (λ (l : List ℕ). entries_of l) (append_assoc e (flatten es) t)
    ∙ cut_more length_of (e ++ s) some (omega (arith, n.0, n.1))
    ∙ ap (λ (k : ℕ). before (take k (e ++ s)) (entries_of (drop k (e ++ s)))) n.0
    ∙ ap₂ (λ (p q : List ℕ). before p (entries_of q)) (take-append_seam e s) (drop-append_seam e s)
    ∙ ap (before e) (entries_kept ks t z)

-- ---- the claims

refused_first : (s : List ℕ) (r : Refusal) → walk_of s ≡ Err r → FirstFault s r
unfolding walk_of
refused_first s r e = by (entries_of s).rest refl e
  where
    es : List (List ℕ)
    es = (entries_of s).pieces

    by : (t : List ℕ) → t ≡ (entries_of s).rest → walked_to (totals_of es) t ≡ Err r → FirstFault s r
    by [] z e = absurd (let z : ◌≡◌ {A = ℕ} 0 1 = cc in omega arith)
    by (b ∷ t) z e = let is : refusal_at (fault_of (b ∷ t)) (length es + 1) ≡ r = cc in
        let some : 0 < length (entries_of s).rest = omega (arith, ap length z) in
        let faulty : length_of (b ∷ t) ≡ 0 = ap length_of z ∙ rest_faulty s some in
        record {
          earlier = es;
          keep = entries_keep s;
          rest = b ∷ t;
          joined = ap (λ (l : List ℕ). flatten es ++ l) z ∙ cut_joins length_of s;
          some = omega arith;
          breaks = subst (λ (r : Refusal). Breaks (b ∷ t) r.number) is (breaks_first (b ∷ t) faulty);
          place_is = sym (ap (λ (r : Refusal). r.place) is);
        }

first_refuses : (s : List ℕ) (r : Refusal) → FirstFault s r → walk_of s ≡ Err r
unfolding walk_of
first_refuses s r f = let told = fault_broken f.rest f.breaks in
    let found : entries_of s ≡ record { pieces = f.earlier; rest = f.rest } =
    ap (λ (l : List ℕ). entries_of l) (sym f.joined) ∙ entries_kept f.keep f.rest told.0 in
    ap (λ (c : Cut). walked_to (totals_of c.pieces) c.rest) found
    ∙ by f.rest f.some told.1
  where
    by : (t : List ℕ) → 0 < length t → fault_number (fault_of t) ≡ r.number → walked_to (totals_of f.earlier) t ≡ Err r
    by [] h e = absurd (omega arith)
    by (b ∷ t) h e = ap₂ (λ (n p : ℕ). Err (record { number = n; place = p })) e (sym f.place_is)

pub first_refused : FirstRefused
first_refused s r = (refused_first s r, first_refuses s r)

pub no_sizes : (n m : ℕ) → m < 58 → entry_size_allowed n m ≡ false
no_sizes n m h = by (entry_size_allowed n m) refl
  where
    by : (b : Bool) → entry_size_allowed n m ≡ b → b ≡ false
    by true e = let z = sized n m e in absurd (omega (arith, z.low, z.high))
    by false e = refl

pub stray_bytes : StrayBytes
stray_bytes s some few = breaks_size (no_sizes (entry_size s) (length s) few)
