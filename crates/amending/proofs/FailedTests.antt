-- The tests 10 and 21 in the document's words.
--
--   missing_told, missing_not, missing_decides     test 10: what it tells, not passed and passed; it fails where there is no such file
--   wrong_told, wrong_not, wrong_decides           test 21: the same; it fails where the change is wrong
-- Assumes nothing.
use mathlib.Core.Path.{◌≡◌, refl, sym, ap₂, ◌∙◌}
use mathlib.Core.Bool.{Bool, true, false, ◌&&◌, false≢true}
use mathlib.Core.List.{List}
use Prim.Native.Nat.{ℕ, ◌+◌, ◌-◌, ◌<◌}
use native.Mathlib.Decide.{dec_lt}
use native.Mathlib.Omega.{arith}
use lib.Dec.{leb, eqb}
use lib.ListN.{length}
use borrow.Author.Tests.{leb-true, le-leb, eqb-true, eq-eqb}
use Rattle.computed_tests.proofs.Tests.{and_both}
use Rattle.lent_bytes.specs.Equal.{equal}
use Rattle.lent_bytes.proofs.EqualLaws.{equal-same, equal_true}
use Rattle.entries.specs.Entry.{status_of, file_size_of, name_of}
use Rattle.entries.specs.Numbering.{saved_of}
use Rattle.parity.proofs.Files.{is_file_in, is_file_inside}
use Rattle.refusals.proofs.OrderLaws.{Decides, decides_by}
use Rattle.par1_read.specs.Reading.{entries_in}
use Rattle.par1_rules.specs.Layout.{volume_number_of}
use Rattle.amending.specs.Amending.{Change}
use Rattle.amending.specs.Call.{stretch_allowed, change_allowed, file_allowed}
use Rattle.amending.specs.Claim.{NoSuchFile, in_index, number_none, number_high}
use Rattle.amending.specs.Claim.{WrongChange, neither_kind, another_name, another_status, another_size}
use Rattle.amending.proofs.ChangeTests.{stretch_kind, no_kind, change_told, change_passes}

-- ---- 10

module _ (f : ℕ) (vol : List ℕ) where
  missing_told : file_allowed f vol ≡ false → NoSuchFile f vol
  missing_told e = by (dec_lt 0 (volume_number_of vol)) (dec_lt 0 f) (dec_lt (length (saved_of (entries_in vol))) f)
    where
      by : Dec (0 < volume_number_of vol) → Dec (0 < f) → Dec (length (saved_of (entries_in vol)) < f) → NoSuchFile f vol
      by (no h) low high = in_index (omega arith)
      by (yes v) (no h) high = number_none (omega arith)
      by (yes v) (yes low) (yes h) = number_high h
      by (yes v) (yes low) (no h) =
          let right : file_allowed f vol ≡ true =
          ap₂ (λ (a b : Bool). a && b) (le-leb 1 (volume_number_of vol) v) (is_file_in (length (saved_of (entries_in vol))) f low (omega arith)) in
          absurd (false≢true (sym e ∙ right))

  missing_not : file_allowed f vol ≡ true → NoSuchFile f vol → ⊥
  missing_not e (in_index z) = let low = leb-true 1 (volume_number_of vol) (and_both (leb 1 (volume_number_of vol)) _ e).0 in omega arith
  missing_not e (number_none z) =
      let range = is_file_inside (length (saved_of (entries_in vol))) f (and_both (leb 1 (volume_number_of vol)) _ e).1 in omega (arith, range.0)
  missing_not e (number_high h) =
      let range = is_file_inside (length (saved_of (entries_in vol))) f (and_both (leb 1 (volume_number_of vol)) _ e).1 in omega (arith, range.1)

  pub missing_decides : Decides (file_allowed f vol) (NoSuchFile f vol)
  missing_decides = decides_by (file_allowed f vol) missing_not missing_told

-- ---- 21

module _ (c : Change) (e d : List ℕ) where
  wrong_told : change_allowed c.place (length c.old) (length c.new) e d ≡ false → WrongChange c e d
  wrong_told wrong =
      by (stretch_allowed (file_size_of e) c.place (length c.old) (length c.new)) (equal (name_of d) (name_of e))
      (eqb (status_of d) (status_of e)) (eqb (file_size_of d) (file_size_of e + (length c.new - length c.old))) refl refl refl refl
    where
      by : (s n t z : Bool) → stretch_allowed (file_size_of e) c.place (length c.old) (length c.new) ≡ s
          → equal (name_of d) (name_of e) ≡ n → eqb (status_of d) (status_of e) ≡ t
          → eqb (file_size_of d) (file_size_of e + (length c.new - length c.old)) ≡ z → WrongChange c e d
      by false n t z stretch name status size =
          let both = no_kind (file_size_of e) c.place (length c.old) (length c.new) stretch in neither_kind both.0 both.1
      by true false t z stretch name status size = another_name (λ same. false≢true (sym name ∙ equal-same same))
      by true true false z stretch name status size = another_status (λ same. false≢true (sym status ∙ eq-eqb _ _ same))
      by true true true false stretch name status size = another_size (λ same. false≢true (sym size ∙ eq-eqb _ _ same))
      by true true true true stretch name status size =
          let right = change_passes c.place (length c.old) (length c.new) e d
          (record { stretch = stretch; name = equal_true _ _ name; status = eqb-true _ _ status; size = eqb-true _ _ size }) in
          absurd (false≢true (sym wrong ∙ right))

  wrong_not : change_allowed c.place (length c.old) (length c.new) e d ≡ true → WrongChange c e d → ⊥
  wrong_not t (neither_kind no-inside no_end) =
      stretch_kind (file_size_of e) c.place (length c.old) (length c.new)
      (change_told c.place (length c.old) (length c.new) e d t).stretch no-inside no_end
  wrong_not t (another_name h) = h (change_told c.place (length c.old) (length c.new) e d t).name
  wrong_not t (another_status h) = h (change_told c.place (length c.old) (length c.new) e d t).status
  wrong_not t (another_size h) = h (change_told c.place (length c.old) (length c.new) e d t).size

  pub wrong_decides : Decides (change_allowed c.place (length c.old) (length c.new) e d) (WrongChange c e d)
  wrong_decides = decides_by (change_allowed c.place (length c.old) (length c.new) e d) wrong_not wrong_told
