-- What the calls give, from what reading the file gives.
--
--   read_entries                     the entries of an accepted file
--   export_unread, export_unfit, export_fit     an export, by what the tests found
--   text_again, text_rest, shape_some, shape_none     the refusal of a text, by what its lines are
--   import_unread, import_faulty, import_right  an import, by what the tests found
-- Assumes nothing.
use Rattle.std.specs.Prelude.{Ok, Err}
use mathlib.Core.Path.{◌≡◌, refl, sym, ap, ◌∙◌}
use mathlib.Core.Bool.{Bool, true, false}
use mathlib.Core.List.{List, [], ◌∷◌, map}
use Prim.Native.Nat.{ℕ, ◌+◌, ◌≤◌, ◌<◌}
use native.Mathlib.Omega.{arith}
use borrow.Author.Tests.{lt-ltb, le-ltb}
use lib.ListN.{length, take, drop}
use Rattle.refusals.specs.Tests.{bare, test}
use Rattle.refusals.specs.declared.Refusal.{Refusal}
use Rattle.lent_bytes.specs.Writing.{refused, written}
use Rattle.lent_bytes.specs.Writing.{Writing}
use Rattle.lent_bytes.proofs.WritingLaws.{unless_none, unless_refused}
use Rattle.cut_lists.specs.Pieces.{Cut}
use Rattle.entries.specs.Walk.{entries_of}
use Rattle.par1_read.specs.Reading.{entries_in, read_of}
use Rattle.par1_read.specs.declared.reading.Parts.{Parts}
use Rattle.par1_read.specs.Reading.{Reading}
use Rattle.par1_read.proofs.ReadingLaws.{read_list, refused_some}
use Rattle.md5sum_text.specs.Lines.{lines_of}
use Rattle.md5sum_text.specs.Export.{export_text, all_fitting, export_refusal, export_into}
use Rattle.md5sum_text.specs.Import.{again_in, shape_refusal, text_refusal, answer_for, import_refusal, import_into}

-- ---- an accepted file

pub read_entries : (f : List ℕ) {p : Parts} → read_of f ≡ Ok p → {list : List ℕ} → list ≡ take p.list_size (drop 96 f)
    → (entries_of list).pieces ≡ entries_in f
read_entries f read e = ap (λ (l : List ℕ). (entries_of l).pieces) (e ∙ read_list f read)

-- ---- exports

module _ (f out : List ℕ) where
  pub export_unread : {r : Refusal} → read_of f ≡ Err r → refused r out ≡ export_into f out
  unfolding export_into
  export_unread {r} e = unless_refused (export_text (entries_in f)) out {n = r} (sym (ap (λ (q : Reading). export_refusal q f) e)) (refused_some f e) refl

  module _ {p : Parts} (read : read_of f ≡ Ok p) where
    tests : {b : Bool} → all_fitting (entries_in f) ≡ b → bare (test 24 b 0) ≡ export_refusal (read_of f) f
    tests e = ap (λ (b : Bool). bare (test 24 b 0)) (sym e) ∙ sym (ap (λ (q : Reading). export_refusal q f) read)

    pub export_unfit : all_fitting (entries_in f) ≡ false → refused (bare 24) out ≡ export_into f out
    unfolding export_into
    export_unfit e = unless_refused (export_text (entries_in f)) out {n = bare 24} (tests e) (λ z. omega arith) refl

    pub export_fit : {w : Writing × List ℕ} → all_fitting (entries_in f) ≡ true → w ≡ written (export_text (entries_in f)) out → w ≡ export_into f out
    unfolding export_into
    export_fit e is = unless_none (export_text (entries_in f)) out {n = bare 0} (tests e) refl is

-- ---- texts

module _ (es : List (List ℕ)) (c : Cut) {k : ℕ} (again : k ≡ again_in es c.pieces) where
  pub text_again : k < length c.pieces → text_refusal es c ≡ record { number = 23; place = k + 1 }
  unfolding text_refusal
  text_again h = simp (sym again, lt-ltb k (length c.pieces) h)

  pub text_rest : length c.pieces ≤ k → text_refusal es c ≡ shape_refusal (length c.pieces) c.rest
  unfolding text_refusal
  text_rest h = simp (sym again, le-ltb k (length c.pieces) h)

pub shape_some : (n : ℕ) (s : List ℕ) → 0 < length s → shape_refusal n s ≡ record { number = 22; place = n + 1 }
shape_some n [] h = absurd (omega arith)
shape_some n (b ∷ s) h = refl

pub shape_none : (n : ℕ) (s : List ℕ) → length s ≡ 0 → shape_refusal n s ≡ bare 0
shape_none n [] h = refl
shape_none n (b ∷ s) h = absurd (omega arith)

-- ---- imports

module _ (f s out : List ℕ) where
  abbrev answers : List ℕ
  answers = map (answer_for (lines_of s).pieces) (entries_in f)

  pub import_unread : {r : Refusal} → read_of f ≡ Err r → refused r out ≡ import_into f s out
  unfolding import_into
  import_unread {r} e = unless_refused answers out {n = r} (sym (ap (λ (q : Reading). import_refusal q f s) e)) (refused_some f e) refl

  module _ {p : Parts} (read : read_of f ≡ Ok p) {r : Refusal} (is : r ≡ text_refusal (entries_in f) (lines_of s)) where
    as_read : r ≡ import_refusal (read_of f) f s
    as_read = is ∙ sym (ap (λ (q : Reading). import_refusal q f s) read)

    pub import_faulty : (r.number ≡ 0 → ⊥) → refused r out ≡ import_into f s out
    unfolding import_into
    import_faulty h = unless_refused answers out {n = r} as_read h refl

    pub import_right : {w : Writing × List ℕ} → r.number ≡ 0 → w ≡ written (map (answer_for (lines_of s).pieces) (entries_in f)) out → w ≡ import_into f s out
    unfolding import_into
    import_right z e = unless_none answers out {n = r} as_read z e
