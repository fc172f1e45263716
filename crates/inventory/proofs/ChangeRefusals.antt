-- Which changes are refused, and by which test (document 01, "The sheet"; document 02, 2026-10, 2026-13).
--
--   decides_not               a test that fails where something is found
--   range_back, range_decides     test 10
--   code_found, code_back, aside_found, aside_back, done_found, done_back     tests 29, 27 and 11, both ways
--   chained                   the step's number is that of the tests one after another
--   change_told               the model's number of a change is that of the first test that holds
--   change_refused_for, change_refused     the claim over any rules, and at those of the two codes
-- Assumes nothing.
use mathlib.Core.Path.{◌≡◌, refl, sym, ap, ◌∙◌, subst}
use mathlib.Core.Bool.{Bool, true, false, not, ◌||◌, true≢false, false≢true}
use mathlib.Core.List.{[], ◌∷◌}
use Prim.Native.Nat.{ℕ}
use native.Mathlib.Omega.{arith}
use borrow.Author.Tests.{not-true}
use Rattle.codes.specs.Codes.{same}
use Rattle.codes.specs.declared.Code.{Code}
use Rattle.codes.proofs.CodeLaws.{same_itself, same_only}
use Rattle.parity.specs.Coefficient.{rule_of}
use Rattle.recovery.specs.Recoverable.{State}
use Rattle.refusals.specs.Order.{First}
use Rattle.refusals.specs.Tests.{test}
use Rattle.refusals.proofs.OrderLaws.{Decides, passes, fails, decides_by, Told, none, some, told_end, told_test, told_first}
use Rattle.inventory.specs.Model.{Change, add_file, remove_file, add_volume, remove_volume, quarantine, release, number_of}
use Rattle.inventory.specs.Model.{change, numbered, Gives}
use Rattle.inventory.specs.Steps.{in_range, of_other_code, while_quarantined, already, change_number}
use Rattle.inventory.specs.Claim.{size_in, state_after, ChangeRefusedFor, ChangeRefused, ChangeFails, out_of_range, other_code, in_quarantine}
use Rattle.inventory.specs.Claim.{file_present, file_missing, volume_present, volume_missing, not-present, not_in_quarantine}
use Rattle.inventory.proofs.ChangeNumbers.{model_number}
use Rattle.inventory.proofs.Representation.{meets}
use Rattle.inventory.proofs.RangeRefusals.{range_exactly}
use Rattle.inventory.proofs.Condition.{calls_sound}

decides_not : (b : Bool) {P : Type 0} → (b ≡ true → P) → (P → b ≡ true) → Decides (not b) P
decides_not true to back = fails refl (to refl)
decides_not false to back = passes refl (λ p. false≢true (back p))

neither : (a b : Bool) → not (a || b) ≡ true → (a ≡ false) × (b ≡ false)
neither true b e = absurd (false≢true e)
neither false true e = absurd (false≢true e)
neither false false e = (refl, refl)

module _ (t : State) where
  range_back : (c : Change) (j : ℕ) → ChangeFails t c j 10 → in_range c t.n j ≡ false
  range_back c j (out_of_range o) = (range_exactly t.n c j).1 o

  range_decides : (c : Change) (j : ℕ) → Decides (in_range c t.n j) (ChangeFails t c j 10)
  range_decides c j = decides_by (in_range c t.n j) (λ e f. true≢false (sym e ∙ range_back c j f)) (λ e. out_of_range ((range_exactly t.n c j).0 e))

  code_found : (c : Change) (j : ℕ) → of_other_code c t.code ≡ true → ChangeFails t c j 29
  unfolding of_other_code
  code_found add_file j e = absurd (false≢true e)
  code_found remove_file j e = absurd (false≢true e)
  code_found (add_volume d) j e = other_code (λ z. true≢false (sym (same_itself d) ∙ ap (same d) z ∙ not-true (same d t.code) e))
  code_found remove_volume j e = absurd (false≢true e)
  code_found quarantine j e = absurd (false≢true e)
  code_found release j e = absurd (false≢true e)

  code_back : (c : Change) (j : ℕ) → ChangeFails t c j 29 → of_other_code c t.code ≡ true
  unfolding of_other_code
  code_back add_file j x = elim x [ ]
  code_back remove_file j x = elim x [ ]
  code_back remove_volume j x = elim x [ ]
  code_back quarantine j x = elim x [ ]
  code_back release j x = elim x [ ]
  code_back (add_volume d) j (other_code h) = by (same d t.code) refl
    where
      by : (b : Bool) → same d t.code ≡ b → not b ≡ true
      by true e = absurd (h (same_only d t.code e))
      by false e = refl

  aside_found : (c : Change) (j : ℕ) → while_quarantined c t.quarantined j ≡ true → ChangeFails t c j 27
  unfolding while_quarantined
  aside_found add_file j e = absurd (false≢true e)
  aside_found remove_file j e = absurd (false≢true e)
  aside_found (add_volume d) j e = in_quarantine e
  aside_found remove_volume j e = absurd (false≢true e)
  aside_found quarantine j e = absurd (false≢true e)
  aside_found release j e = absurd (false≢true e)

  aside_back : (c : Change) (j : ℕ) → ChangeFails t c j 27 → while_quarantined c t.quarantined j ≡ true
  unfolding while_quarantined
  aside_back add_file j x = elim x [ ]
  aside_back remove_file j x = elim x [ ]
  aside_back (add_volume d) j (in_quarantine e) = e
  aside_back remove_volume j x = elim x [ ]
  aside_back quarantine j x = elim x [ ]
  aside_back release j x = elim x [ ]

  done_found : (c : Change) (j : ℕ) → already c t.files t.volumes t.quarantined j ≡ true → ChangeFails t c j 11
  unfolding already
  done_found add_file j e = file_present e
  done_found remove_file j e = file_missing (not-true (t.files j) e)
  done_found (add_volume d) j e = volume_present e
  done_found remove_volume j e = let both = neither (t.volumes j) (t.quarantined j) e in volume_missing both.0 both.1
  done_found quarantine j e = not-present (not-true (t.volumes j) e)
  done_found release j e = not_in_quarantine (not-true (t.quarantined j) e)

  done_back : (c : Change) (j : ℕ) → ChangeFails t c j 11 → already c t.files t.volumes t.quarantined j ≡ true
  unfolding already
  done_back add_file j (file_present e) = e
  done_back remove_file j (file_missing e) = ap not e
  done_back (add_volume d) j (volume_present e) = e
  done_back remove_volume j (volume_missing e f) = simp (e, f)
  done_back quarantine j (not-present e) = ap not e
  done_back release j (not_in_quarantine e) = ap not e

chained : (ranged other aside done : Bool)
    → change_number ranged other aside done ≡ test 10 ranged (test 29 (not other) (test 27 (not aside) (test 11 (not done) 0)))
unfolding change_number
chained false other aside done = refl
chained true true aside done = refl
chained true false true done = refl
chained true false false true = refl
chained true false false false = refl

change_told : (t : State) (c : Change) (j : ℕ) → Told (ChangeFails t c j) (10 ∷ 29 ∷ 27 ∷ 11 ∷ []) (number_of t c j)
change_told t c j =
    subst (Told (ChangeFails t c j) (10 ∷ 29 ∷ 27 ∷ 11 ∷ [])) (sym (model_number t c j ∙ chained ranged other aside done))
    (told_test 10 (λ z. omega arith) (range_decides t c j)
    (λ one. told_test 29 (λ z. omega arith) (decides_not other (code_found t c j) (code_back t c j))
    (λ two. told_test 27 (λ z. omega arith) (decides_not aside (aside_found t c j) (aside_back t c j))
    (λ three. told_test 11 (λ z. omega arith) (decides_not done (done_found t c j) (done_back t c j)) (λ four. told_end)))))
  where
    ranged : Bool
    ranged = in_range c t.n j

    other : Bool
    other = of_other_code c t.code

    aside : Bool
    aside = while_quarantined c t.quarantined j

    done : Bool
    done = already c t.files t.volumes t.quarantined j

pub change_refused_for : (rules : Code → ℕ → ℕ → ℕ) → ChangeRefusedFor rules
unfolding Gives
change_refused_for rules d n sizes cs s reached c j k e step = (λ h. some_first (change_told t c j) h, λ m f. same ∙ (told_first (change_told t c j) f).0)
  where
    t : State
    t = state_after d n sizes cs

    same : k ≡ number_of t c j
    same = let g : numbered k ≡ numbered (number_of t c j) =
        (meets rules (size_in sizes) t s (change c j) (numbered k) e (calls_sound rules d n sizes reached.accepted cs reached.replies s reached.run).1 step).0 in cc

    some_first : Told (ChangeFails t c j) (10 ∷ 29 ∷ 27 ∷ 11 ∷ []) (number_of t c j) → (k ≡ 0 → ⊥) → First (ChangeFails t c j) (10 ∷ 29 ∷ 27 ∷ 11 ∷ []) k
    some_first (none z nowhere) h = absurd (h (same ∙ z))
    some_first (some h f) l = subst (First (ChangeFails t c j) (10 ∷ 29 ∷ 27 ∷ 11 ∷ [])) (sym same) f

pub change_refused : ChangeRefused
change_refused = change_refused_for rule_of
