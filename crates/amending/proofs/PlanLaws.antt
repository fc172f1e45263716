-- What the tests of an amendment find, as the code works it out.
--
--   span_is, was_is, numbered_is     the entry's part of the list, the entry and the test of its number, as the code finds them
--   TestsPassed, tests_passed        what the tests 10, 16 to 18 and 21, passed, tell
--   sized_short, sized_over          what `sized_plan` gives
--   parts_fit                        what it needs
--   plan_unread, plan_refused, plan_sized     what planning gives
--   refusal_tells, PlanTold, plan_tells       and what its answer tells
-- Assumes nothing.
use Rattle.std.specs.Prelude.{Ok, Err, Result}
use mathlib.Core.Path.{◌≡◌, refl, sym, ap, ap₂, ◌∙◌}
use mathlib.Core.Bool.{Bool, true, false, cond, ◌&&◌, false≢true}
use mathlib.Core.List.{List}
use Prim.Native.Nat.{ℕ, zero, suc, ◌+◌, ◌-◌, ◌≤◌, ◌<◌, max}
use native.Mathlib.Omega.{arith}
use lib.Dec.{leb, eqb}
use lib.ListN.{length, take, drop}
use borrow.Author.Tests.{eqb-true, eq-eqb, ne_eqb}
use Rattle.codes.specs.declared.Code.{Code}
use Rattle.refusals.specs.Limits.{max_volume_length}
use Rattle.refusals.specs.Tests.{bare, test, or_else}
use Rattle.refusals.specs.declared.Refusal.{Refusal}
use Rattle.refusals.proofs.TestLaws.{test_passed, or-none}
use Rattle.entries.specs.Entry.{file_size_of}
use Rattle.entries.specs.Walk.{entries_of}
use Rattle.parity.specs.Parity.{is_file}
use Rattle.par1.specs.Checking.{lone_refusal}
use Rattle.par1_read.specs.Reading.{entries_in, read_of}
use Rattle.par1_read.specs.declared.reading.Parts.{Parts}
use Rattle.par1_read.specs.Reading.{Reading}
use Rattle.par1_read.proofs.ReadingLaws.{refused_some}
use Rattle.par1_rules.specs.Layout.{volume_number_of, list_size_of, list_of}
use Rattle.par1_rules.specs.Rules.{length_allowed}
use Rattle.par1_rules.proofs.RuleLaws.{too_long, long_enough}
use Rattle.amending.specs.Amending.{Change, place_in, amended_size}
use Rattle.amending.specs.Call.{change_allowed, entry_in, file_allowed, change_refusal, amend_refusal}
use Rattle.amending.specs.Plan.{span_in, tests_refusal, PartsFit, sized_plan, plan_for, plan_of}
use Rattle.amending.specs.declared.finding.Span.{Span}
use Rattle.amending.specs.declared.planning.Plan.{Plan}
use Rattle.amending.proofs.Refusals.{change_passed}
use Rattle.amending.proofs.WriteLaws.{plan_with}
use Rattle.amending.proofs.EntryPlaces.{part_of_entries, from_within}
use Rattle.amending.proofs.FoundEntries.{Read, volume_read, Found, found, length-amended}

-- ---- the tests

module _ (vol : List ℕ) {p : Parts} (read : read_of vol ≡ Ok p) (f : ℕ) where
  -- the list, and the entry's part of it, as the code takes them
  module _ {list : List ℕ} {span : Span} (part : list ≡ take p.list_size (drop 96 vol))
      (found : span ≡ span_in (entries_of list).pieces (f - 1)) where
    list_is : list ≡ list_of vol
    list_is = part ∙ ap (λ (q : Parts). take q.list_size (drop 96 vol)) (volume_read vol read).1

    pub span_is : span ≡ span_in (entries_in vol) (f - 1)
    span_is = found ∙ ap (λ (l : List ℕ). span_in (entries_of l).pieces (f - 1)) list_is

    pub was_is : {was : List ℕ} → was ≡ take span.length (drop span.from list) → was ≡ entry_in f (entries_in vol)
    was_is taken = let es : List (List ℕ) = entries_in vol in
        taken ∙ ap₂ (λ (x : Span) (l : List ℕ). take x.length (drop x.from l)) span_is (list_is ∙ sym (volume_read vol read).0.joined)
        ∙ part_of_entries es (place_in es f)

  pub numbered_is : {numbered : Bool} → numbered ≡ (leb 1 p.number && is_file p.saved f) → numbered ≡ file_allowed f vol
  numbered_is e = e ∙ ap (λ (q : Parts). leb 1 q.number && is_file q.saved f) (volume_read vol read).1

  module _ (place old new : ℕ) (d : List ℕ) {r : Refusal}
      (is : r ≡ tests_refusal (file_allowed f vol) place old new (entry_in f (entries_in vol)) d) (none : r.number ≡ 0) where
    pub record TestsPassed : Type 0 where
      pub file_right : file_allowed f vol ≡ true
      pub lone : lone_refusal d ≡ 0
      pub change : change_allowed place old new (entry_in f (entries_in vol)) d ≡ true

    tests_passed : TestsPassed
    unfolding tests_refusal
    tests_passed = let ten = or-none (test 10 (file_allowed f vol) 0) _ (ap (λ (k : Refusal). k.number) (sym is) ∙ none) in
        let lone = or-none (lone_refusal d) _ ten.1 in
        record {
          file_right = (test_passed 10 (file_allowed f vol) 0 (omega arith) ten.0).0;
          lone = lone.0;
          change = (test_passed 21 (change_allowed place old new (entry_in f (entries_in vol)) d) 0 (omega arith) lone.1).0;
        }

-- ---- what planning gives

-- the tests before 1 decide where one of them holds
decided : (a : Bool) (l : ℕ) (b : Bool) (y : ℕ) → ((or_else (test 10 a 0) (or_else l (bare (test 21 b 0)))).number ≡ 0 → ⊥)
    → or_else (test 10 a 0) (or_else l (bare (test 21 b y))) ≡ or_else (test 10 a 0) (or_else l (bare (test 21 b 0)))
decided false l b y h = refl
decided true (suc l) b y h = refl
decided true zero false y h = refl
decided true zero true y h = absurd (h refl)

-- and 1, where none does
by_length : (b : Bool) (x : Plan)
    → cond (eqb (bare (test 1 b 0)).number 0) (Ok x) (Err (bare (test 1 b 0))) ≡ cond b (Ok x) (Err (bare 1))
by_length true x = refl
by_length false x = refl

module _ (rules : Code → ℕ → ℕ → ℕ) (p : Parts) (from file place size : ℕ) {m : ℕ} (e : m ≡ max p.data_size size) where
  pub sized_short : {r : Refusal} → r ≡ bare 1 → max_volume_length < 96 + p.list_size + m → Err r ≡ sized_plan rules p from file place size
  unfolding sized_plan
  sized_short is h = simp (is, too_long (96 + p.list_size + max p.data_size size) (omega arith))

  pub sized_over : {w : ℕ} → w ≡ rules p.code file p.number → 96 + p.list_size + m ≤ max_volume_length
      → Ok (plan_with from place w p.list_size m) ≡ sized_plan rules p from file place size
  unfolding sized_plan
  sized_over is h =
      simp (long_enough (96 + p.list_size + max p.data_size size) (omega arith) (omega arith))
      (ap₂ (λ (x y : ℕ). Ok (plan_with from place x p.list_size y)) is e)

module _ (rules : Code → ℕ → ℕ → ℕ) (c : Change) (d vol : List ℕ) where
  -- from the refusal by the tests
  abbrev answer : Refusal → Result Plan Refusal
  answer k = cond (eqb k.number 0) (Ok (plan_for rules c d vol)) (Err k)

  pub plan_unread : {r : Refusal} → read_of vol ≡ Err r → Err r ≡ plan_of rules c d vol
  unfolding plan_of
  plan_unread {r} e = simp (e, ne_eqb r.number 0 (refused_some vol e))

  module _ {p : Parts} (read : read_of vol ≡ Ok p) {r : Refusal}
      (is : r ≡ tests_refusal (file_allowed c.file vol) c.place (length c.old) (length c.new) (entry_in c.file (entries_in vol)) d) where
    pub plan_refused : (r.number ≡ 0 → ⊥) → Err r ≡ plan_of rules c d vol
    unfolding plan_of tests_refusal change_refusal
    plan_refused some = let e : List ℕ = entry_in c.file (entries_in vol) in
        let same : change_refusal rules c d vol ≡ r =
        decided (file_allowed c.file vol) (lone_refusal d) (change_allowed c.place (length c.old) (length c.new) e d) _
        (λ z. some (ap (λ (k : Refusal). k.number) is ∙ z)) ∙ sym is in
        sym (ap (λ (k : Reading). answer (amend_refusal rules c d vol k)) read ∙ ap answer same ∙ simp (ne_eqb r.number 0 some))

    module _ (none : r.number ≡ 0) where
      passed : TestsPassed vol read c.file c.place (length c.old) (length c.new) d is none
      passed = tests_passed vol read c.file c.place (length c.old) (length c.new) d is none

      at : Found vol c.file c.place d
      at =
          found vol (volume_read vol read).0 c.file c.place (length c.old) (length c.new) d
          passed.file_right passed.lone passed.change

      pub parts_fit : {from : ℕ} → from ≡ (span_in (entries_in vol) (c.file - 1)).from → PartsFit p from c.file c.place (file_size_of d)
      parts_fit {from} start = let is = (volume_read vol read).0 in
          let parts = (volume_read vol read).1 in
          let es : List (List ℕ) = entries_in vol in
          let size : p.list_size ≡ list_size_of vol = ap (λ (q : Parts). q.list_size) parts in
          let number : p.number ≡ volume_number_of vol = ap (λ (q : Parts). q.number) parts in
          record {
            list_fits = omega (arith, is.total, is.high);
            entry_inside = omega (arith, from_within es (place_in es c.file), ap length is.joined, is.list_length);
            place_inside = at.place_inside;
            file_small = at.file_small;
            number_small = omega (arith, at.number_small);
          }

      pub plan_sized : {from : ℕ} → from ≡ (span_in (entries_in vol) (c.file - 1)).from
          → sized_plan rules p from c.file c.place (file_size_of d) ≡ plan_of rules c d vol
      unfolding plan_of sized_plan change_refusal
      plan_sized {from} start = let is = (volume_read vol read).0 in
          let total : ℕ = 96 + list_size_of vol + amended_size d vol in
          let same : change_refusal rules c d vol ≡ bare (test 1 (length_allowed total) 0) =
          simp (passed.file_right, passed.lone, passed.change)
          (ap (λ (n : ℕ). bare (test 1 (length_allowed n) 0)) (length-amended vol is c d at rules)) in
          ap₂ (λ (q : Parts) (n : ℕ). sized_plan rules q n c.file c.place (file_size_of d)) (volume_read vol read).1 start
          ∙ sym (ap (λ (k : Reading). answer (amend_refusal rules c d vol k)) read ∙ ap answer same
          ∙ by_length (length_allowed total) (plan_for rules c d vol))

  -- ---- what its answer tells

  pub refusal_tells : {r : Refusal} → plan_of rules c d vol ≡ Err r
      → (amend_refusal rules c d vol (read_of vol) ≡ r) × (r.number ≡ 0 → ⊥)
  unfolding plan_of
  refusal_tells {r} e = by (eqb (amend_refusal rules c d vol (read_of vol)).number 0) refl e
    where
      by : (b : Bool) → eqb (amend_refusal rules c d vol (read_of vol)).number 0 ≡ b
          → cond b (Ok (plan_for rules c d vol)) (Err (amend_refusal rules c d vol (read_of vol))) ≡ Err r
          → (amend_refusal rules c d vol (read_of vol) ≡ r) × (r.number ≡ 0 → ⊥)
      by true z e = absurd (let z : ◌≡◌ {A = ℕ} 0 1 = cc in omega arith)
      by false z e = let same : amend_refusal rules c d vol (read_of vol) ≡ r = cc in
          (same, λ n. false≢true (sym z ∙ eq-eqb _ 0 (ap (λ (k : Refusal). k.number) same ∙ n)))

  pub record PlanTold (plan : Plan) : Type 0 where
    pub none : (amend_refusal rules c d vol (read_of vol)).number ≡ 0
    pub plan_is : plan ≡ plan_for rules c d vol
    pub read : Read vol
    pub at : Found vol c.file c.place d

  accepted_found : (k : Reading) → read_of vol ≡ k → (amend_refusal rules c d vol k).number ≡ 0 → Read vol × Found vol c.file c.place d
  accepted_found (Err r) e z = absurd (refused_some vol e z)
  accepted_found (Ok p) e z = let is = (volume_read vol e).0 in
      let t = change_passed rules c d vol z in
      (is, found vol is c.file c.place (length c.old) (length c.new) d t.file_right t.lone t.change)

  pub plan_tells : {plan : Plan} → plan_of rules c d vol ≡ Ok plan → PlanTold plan
  unfolding plan_of
  plan_tells {plan} e = by (eqb (amend_refusal rules c d vol (read_of vol)).number 0) refl e
    where
      by : (b : Bool) → eqb (amend_refusal rules c d vol (read_of vol)).number 0 ≡ b
          → cond b (Ok (plan_for rules c d vol)) (Err (amend_refusal rules c d vol (read_of vol))) ≡ Ok plan → PlanTold plan
      by true z e = let none = eqb-true _ 0 z in
          let both = accepted_found (read_of vol) refl none in
          record { none = none; plan_is = cc; read = both.0; at = both.1 }
      by false z e = absurd (let z : ◌≡◌ {A = ℕ} 0 1 = cc in omega arith)
