-- md5sum text of files that differ in marks only.
--
--   fitting_same, text_same     whether the names fit, and the lines
--   refusal_same                which line of a text is at fault
--   answers-same                what an import answers
--   export_same, import_same    the calls
-- Assumes nothing.
use Rattle.std.specs.Prelude.{Ok, Err}
use mathlib.Core.Path.{◌≡◌, refl, ap, ap₂, fun_ext}
use mathlib.Core.Bool.{Bool, cond, ◌&&◌, ◌||◌}
use mathlib.Core.List.{List, [], ◌∷◌, ◌++◌, map}
use Prim.Native.Nat.{ℕ, ◌+◌}
use lib.Dec.{ltb}
use lib.ListN.{length, take, get_or}
use Rattle.computed_tests.specs.Lists.{first_below}
use Rattle.cut_lists.specs.Pieces.{Cut}
use Rattle.md5sum_text.specs.Export.{line_for, export_text, all_fitting, export_refusal, export_into}
use Rattle.md5sum_text.specs.Import.{any, is_listed, has_other, is_again, again_in, shape_refusal, text_refusal, answer_for, import_refusal, import_into}
use Rattle.md5sum_text.specs.Lines.{lines_of}
use Rattle.md5sum_text.specs.Names.{is_fitting, is_named}
use Rattle.par1_read.specs.Reading.{read_of}
use Rattle.par1_read.specs.Reading.{Reading}
use Rattle.refusals.specs.Tests.{bare, test}
use Rattle.refusals.specs.declared.Refusal.{Refusal}
use Rattle.checked_mark.specs.Marks.{Pairs, pairs_none, pairs_more, EntryAlike, AlikeButMarks}
use Rattle.checked_mark.proofs.EntryMarks.{md5-same, name_same}
use Rattle.checked_mark.proofs.FileMarks.{entries_alike, read_same}

module _ {e g : List ℕ} (a : EntryAlike e g) where
  line_same : line_for e ≡ line_for g
  unfolding line_for
  line_same = simp (md5-same a, name_same a)

  fits_same : is_fitting e ≡ is_fitting g
  fits_same = simp (name_same a)

  named_same : (l : List ℕ) → is_named l e ≡ is_named l g
  unfolding is_named
  named_same l = simp (name_same a)

  answer_same : (ls : List (List ℕ)) → answer_for ls e ≡ answer_for ls g
  unfolding answer_for
  answer_same [] = refl
  answer_same (l ∷ ls) = simp (named_same l, md5-same a, answer_same ls)

fitting_same : {es gs : List (List ℕ)} → Pairs EntryAlike es gs → all_fitting es ≡ all_fitting gs
fitting_same pairs_none = refl
fitting_same (pairs_more a ps) = ap₂ ◌&&◌ (fits_same a) (fitting_same ps)

text_same : {es gs : List (List ℕ)} → Pairs EntryAlike es gs → export_text es ≡ export_text gs
unfolding export_text
text_same pairs_none = refl
text_same (pairs_more a ps) = ap₂ (λ (s t : List ℕ). s ++ t) (line_same a) (text_same ps)

listed_same : (l : List ℕ) {es gs : List (List ℕ)} → Pairs EntryAlike es gs → is_listed es l ≡ is_listed gs l
unfolding any
listed_same l pairs_none = refl
listed_same l (pairs_more a ps) = ap₂ ◌||◌ (named_same a l) (listed_same l ps)

pub refusal_same : {es gs : List (List ℕ)} → Pairs EntryAlike es gs → (c : Cut) → text_refusal es c ≡ text_refusal gs c
unfolding text_refusal again_in is_again
refusal_same {es} {gs} ps c = ap (λ (test : ℕ → Bool). by (first_below (length c.pieces) test)) (fun_ext again)
  where
    by : ℕ → Refusal
    by = λ k. cond (ltb k (length c.pieces)) (record { number = 23; place = k + 1 }) (shape_refusal (length c.pieces) c.rest)

    again : (k : ℕ) → is_again es c.pieces k ≡ is_again gs c.pieces k
    again k = ap (λ (b : Bool). b && has_other (take k c.pieces) (get_or c.pieces k [])) (listed_same (get_or c.pieces k []) ps)

pub answers-same : (ls : List (List ℕ)) {es gs : List (List ℕ)} → Pairs EntryAlike es gs → map (answer_for ls) es ≡ map (answer_for ls) gs
answers-same ls pairs_none = refl
answers-same ls (pairs_more a ps) = ap₂ (λ (n : ℕ) (ns : List ℕ). n ∷ ns) (answer_same a ls) (answers-same ls ps)

-- ---- the calls

module _ {f g : List ℕ} (a : AlikeButMarks f g) where
  export_refusal_lem : (r : Reading) → export_refusal r f ≡ export_refusal r g
  export_refusal_lem (Ok p) = ap (λ (b : Bool). bare (test 24 b 0)) (fitting_same (entries_alike a))
  export_refusal_lem (Err r) = refl

  pub export_same : (out : List ℕ) → export_into f out ≡ export_into g out
  unfolding export_into
  export_same out = simp (read_same a, export_refusal_lem (read_of g), text_same (entries_alike a))

  import_refusal_lem : (r : Reading) (s : List ℕ) → import_refusal r f s ≡ import_refusal r g s
  import_refusal_lem (Ok p) s = refusal_same (entries_alike a) (lines_of s)
  import_refusal_lem (Err r) s = refl

  pub import_same : (s out : List ℕ) → import_into f s out ≡ import_into g s out
  unfolding import_into
  import_same s out = simp (read_same a, import_refusal_lem (read_of g) s, answers-same (lines_of s).pieces (entries_alike a))
