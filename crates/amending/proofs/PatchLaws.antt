-- What the call `amend` gives, from its plan and its writes.
--
--   room_parts       a room that holds a volume, part by part
--   patched_is       the writes make the amended volume, and leave the rest of the room
--   amend_refuses, amend_short, amend_over     what the call gives: refused by the tests, refused with 14, and the volume amended
-- Assumes nothing.
use Rattle.std.specs.Prelude.{Ok, Err}
use mathlib.Core.Path.{◌≡◌, refl, sym, ap, ap₂, ◌∙◌}
use mathlib.Core.List.{List, [], ◌∷◌, ◌++◌, append_assoc, append-nil, flatten}
use Prim.Native.Nat.{ℕ, suc, ◌+◌, ◌-◌, ◌≤◌, ◌<◌}
use native.Mathlib.Omega.{arith}
use lib.ListN.{length, take, drop, get_or, replicate, length-drop, take-append-drop}
use lib.Seq.{length-take-le}
use Rattle.codes.specs.declared.Code.{Code}
use Rattle.refusals.specs.Tests.{bare}
use Rattle.refusals.specs.declared.Refusal.{Refusal}
use Rattle.little_endian.specs.Bytes.{to_le}
use Rattle.lent_bytes.specs.Writing.{refused}
use Rattle.lent_bytes.proofs.PartLaws.{split}
use Rattle.lent_bytes.proofs.WritingLaws.{written_fits, written_short, unless_none, unless_refused}
use Rattle.md5_digest.specs.Digest.{md5}
use Rattle.entries.specs.Walk.{entries_of}
use Rattle.parity.proofs.Changes.{stretched}
use Rattle.par1_read.specs.Reading.{entries_in}
use Rattle.par1_rules.specs.Hashes.{set_hash}
use Rattle.par1_rules.specs.Layout.{list_size_of, data_size_of, list_of, data_of}
use Rattle.amending.specs.Amending.{Change, place_in, amended_list, amended_data, amended_size, weight_in, amended_body, amend_volume}
use Rattle.amending.specs.Call.{amend_of}
use Rattle.amending.specs.Plan.{plan_for, plan_of, patched}
use Rattle.amending.specs.declared.planning.Plan.{Plan}
use Rattle.amending.proofs.Amends.{five_parts}
use Rattle.amending.proofs.EntryPlaces.{split_entries, set_joined}
use Rattle.amending.proofs.FoundEntries.{Read, Found, length_list, length-amended}
use Rattle.amending.proofs.PlanLaws.{refusal_tells, plan_tells}
use Rattle.amending.proofs.Refusals.{amend_is}
use Rattle.amending.proofs.WriteLaws.{plan_with, written_parts}

-- ---- the parts of the room

nested : (a b c d e f l g area tail rest : List ℕ)
    → (a ++ (b ++ (c ++ (d ++ (e ++ (flatten (f ∷ l ∷ g ∷ []) ++ area)))))) ++ (tail ++ rest)
    ≡ flatten (a ∷ b ∷ c ∷ d ∷ e ∷ f ∷ l ∷ g ∷ area ∷ tail ∷ rest ∷ [])
unfolding flatten
nested a b c d e f l g area tail rest = simp (append_assoc, append-nil)

-- the list in one part, or in three
opened : (h m s l d r y : List ℕ) → flatten (h ∷ m ∷ s ∷ flatten (l ∷ d ∷ r ∷ []) ∷ y ∷ []) ≡ flatten (h ∷ m ∷ s ∷ l ∷ d ∷ r ∷ y ∷ [])
unfolding flatten
opened h m s l d r y = simp (append_assoc, append-nil)

module _ (rules : Code → ℕ → ℕ → ℕ) (c : Change) (d vol out : List ℕ) (n : ℕ) (is : Read vol) (at : Found vol c.file c.place d) (h : n ≤ length out)
    (held : take n out ≡ vol) where
  abbrev es : List (List ℕ)
  es = entries_in vol

  abbrev k : ℕ
  k = place_in es c.file

  abbrev m : ℕ
  m = amended_size d vol

  abbrev total : ℕ
  total = 96 + list_size_of vol + m

  abbrev tail : List ℕ
  tail = take (total - n) (drop n out)

  present : n ≡ 96 + list_size_of vol + data_size_of vol
  present = sym (length-take-le n out h) ∙ ap length held ∙ sym is.total

  room_parts : out
      ≡ flatten (take 16 vol ∷ take 16 (drop 16 vol) ∷ take 16 (drop 32 vol) ∷ take 40 (drop 48 vol) ∷ take 8 (drop 88 vol)
      ∷ flatten (take k es) ∷ get_or es k [] ∷ flatten (drop (suc k) es) ∷ data_of vol ∷ tail ∷ drop total out ∷ [])
  room_parts =
      let list : list_of vol ≡ flatten (flatten (take k es) ∷ get_or es k [] ∷ flatten (drop (suc k) es) ∷ []) =
      sym is.joined ∙ split_entries es k at.within in
      let at0 = split 16 0 vol in
      let at16 = split 16 16 vol in
      let at32 = split 16 32 vol in
      let at48 = split 40 48 vol in
      let at88 = split 8 88 vol in
      let at96 = split (list_size_of vol) 96 vol in
      let end : n + (total - n) ≡ total = omega (arith, present) in
      let past : drop n out ≡ tail ++ drop total out = split (total - n) n out ∙ ap (λ (j : ℕ). tail ++ drop j out) end in
      let front : vol ≡ take 16 vol ++ (take 16 (drop 16 vol) ++ (take 16 (drop 32 vol) ++ (take 40 (drop 48 vol) ++ (take 8 (drop 88 vol)
      ++ (list_of vol ++ data_of vol))))) = cc in
      sym (take-append-drop n out) ∙ ap₂ ◌++◌ (held ∙ front) past
      ∙ ap (λ (l : List ℕ). (take 16 vol ++ (take 16 (drop 16 vol) ++ (take 16 (drop 32 vol) ++ (take 40 (drop 48 vol) ++ (take 8 (drop 88 vol)
      ++ (l ++ data_of vol)))))) ++ (tail ++ drop total out)) list
      ∙ nested _ _ _ _ _ _ _ _ _ _ _

  patched_is : total ≤ length out
      → patched (plan_for rules c d vol) n c.old c.new d out ≡ amend_volume rules c d vol ++ drop total out
  unfolding amend_volume amended_body
  patched_is fits = let l : List ℕ = flatten (take k es) in
      let e : List ℕ = get_or es k [] in
      let r : List ℕ = flatten (drop (suc k) es) in
      let list : List ℕ = flatten (l ∷ d ∷ r ∷ []) in
      let area : List ℕ = data_of vol in
      let w : ℕ = weight_in rules c.file vol in
      let low = is.low in
      let numbers : List ℕ = take 40 (drop 48 vol) in
      let a_length : length (take 16 vol) ≡ 16 = length-take-le 16 vol (omega arith) in
      let c_length : length (take 16 (drop 16 vol)) ≡ 16 = length-take-le 16 (drop 16 vol) (omega (arith, length-drop 16 vol)) in
      let s_length : length (take 16 (drop 32 vol)) ≡ 16 = length-take-le 16 (drop 32 vol) (omega (arith, length-drop 32 vol)) in
      let m_length : length numbers ≡ 40 = length-take-le 40 (drop 48 vol) (omega (arith, length-drop 48 vol)) in
      let z_length : length (take 8 (drop 88 vol)) ≡ 8 = length-take-le 8 (drop 88 vol) (omega (arith, length-drop 88 vol)) in
      let list_is : list ≡ amended_list c.file d (list_of vol) = sym (set_joined es k at.within d) in
      let list_size_lem : list_size_of vol ≡ length list = sym (ap length list_is ∙ length_list vol is c d at) in
      let tail_size : length tail ≡ total - n = length-take-le (total - n) (drop n out) (omega (arith, length-drop n out)) in
      let grown : length tail ≡ m - length area = omega (arith, tail_size, present, is.data_length) in
      let data_size_lem : m ≡ length area + length tail = omega (arith, tail_size, present, is.data_length) in
      let before : n ≡ 96 + length list + length area = omega (arith, present, list_size_lem, is.data_length) in
      let inside : c.place ≤ length area + length tail = omega (arith, data_size_lem, at.place_inside) in
      let y_is : stretched w c.place c.old c.new (area ++ replicate (length tail) 0) ≡ amended_data w c m area =
      ap (λ (j : ℕ). stretched w c.place c.old c.new (area ++ replicate j 0)) grown in
      let hash_is : set_hash (entries_of list).pieces ≡ set_hash (entries_of (amended_list c.file d (list_of vol))).pieces =
      ap (λ (q : List ℕ). set_hash (entries_of q).pieces) list_is in
      let hash : List ℕ = set_hash (entries_of list).pieces in
      let size : List ℕ = to_le 8 (length area + length tail) in
      let y : List ℕ = stretched w c.place c.old c.new (area ++ replicate (length tail) 0) in
      let body_is : flatten (hash ∷ numbers ∷ size ∷ l ∷ d ∷ r ∷ y ∷ []) ≡ amended_body rules c d vol =
      sym (opened hash numbers size l d r y) ∙ five_parts hash_is refl (ap (to_le 8) (sym data_size_lem)) list_is y_is in
      ap₂ (λ (i j : ℕ). patched (plan_with (length l) c.place w i j) n c.old c.new d out) list_size_lem data_size_lem
      ∙ ap₂ (λ (j : ℕ) (t : List ℕ). patched (plan_with (length l) c.place w (length list) (length area + length tail)) j c.old c.new d t)
      before room_parts
      ∙ written_parts (take 16 vol) (take 16 (drop 16 vol)) (take 16 (drop 32 vol)) numbers (take 8 (drop 88 vol)) l e r area tail (drop total out) d
      c.old c.new w c.place a_length c_length s_length m_length z_length at.same_length inside
      ∙ ap (λ (b : List ℕ). flatten (take 16 vol ∷ md5 b ∷ b ∷ []) ++ drop total out) body_is

-- ---- the call

module _ (rules : Code → ℕ → ℕ → ℕ) (n : ℕ) (c : Change) (d out : List ℕ) (h : n ≤ length out) where
  pub amend_refuses : {r : Refusal} → plan_of rules c d (take n out) ≡ Err r → refused r out ≡ amend_of rules n c d out
  amend_refuses e = let told = refusal_tells rules c d (take n out) e in
      unless_refused (amend_volume rules c d (take n out)) out (sym told.0) told.1 refl ∙ sym (amend_is rules n c d out h refl)

  module _ {plan : Plan} (e : plan_of rules c d (take n out) ≡ Ok plan) where
    total_is : length (amend_volume rules c d (take n out)) ≡ plan.total
    total_is = let told = plan_tells rules c d (take n out) e in
        length-amended (take n out) told.read c d told.at rules ∙ sym (ap (λ (p : Plan). p.total) told.plan_is)

    pub amend_short : {r : Refusal} → r ≡ bare 14 → length out < plan.total → refused r out ≡ amend_of rules n c d out
    amend_short is short = let told = plan_tells rules c d (take n out) e in
        let s : List ℕ = amend_volume rules c d (take n out) in
        rw is (unless_none s out refl told.none (written_short s out (omega (arith, total_is))) ∙ sym (amend_is rules n c d out h refl))

    -- what the writes need
    pub plan_right : (n ≤ plan.total) × (plan.stretch_at ≤ plan.total) × (32 ≤ plan.total)
    plan_right = let told = plan_tells rules c d (take n out) e in
        let at = told.at.place_inside in
        let present : length (take n out) ≡ n = length-take-le n out h in
        (rw told.plan_is (omega (arith, told.read.total)), rw told.plan_is (omega arith), rw told.plan_is (omega arith))

    pub amend_over : {t : List ℕ} → plan.total ≤ length out → t ≡ patched plan n c.old c.new d out
        → (Ok plan.total, t) ≡ amend_of rules n c d out
    amend_over fits wrote = let told = plan_tells rules c d (take n out) e in
        let vol : List ℕ = take n out in
        let s : List ℕ = amend_volume rules c d vol in
        let is = told.plan_is in
        let size = length-amended vol told.read c d told.at rules in
        let patched_plan : patched plan n c.old c.new d out ≡ s ++ drop (length s) out =
        ap (λ (p : Plan). patched p n c.old c.new d out) is
        ∙ patched_is rules c d vol out n told.read told.at h refl (omega (arith, total_is)) ∙ ap (λ (j : ℕ). s ++ drop j out) (sym size) in
        unless_none s out refl told.none (written_fits s out (omega (arith, total_is)) (sym total_is) (wrote ∙ patched_plan))
        ∙ sym (amend_is rules n c d out h refl)
