-- The outcomes of the calls.
--
--   Outcome, outcome          what a call that writes gives, by its tests and its room
--   ExportView, export_view   what an export gives, by what reading gives and by the names
--   ImportView, import_view   what an import gives, by what reading gives and by the text
-- Assumes nothing.
use Rattle.std.specs.Prelude.{Ok, Err}
use mathlib.Core.Path.{◌≡◌, refl, subst}
use mathlib.Core.Bool.{Bool, true, false, cond}
use mathlib.Core.List.{List, map}
use Prim.Native.Nat.{ℕ, zero, suc, ◌≤◌, ◌<◌}
use native.Mathlib.Omega.{arith}
use borrow.Author.Tests.{leb-true, leb-false}
use lib.Dec.{leb}
use lib.ListN.{length}
use Rattle.refusals.specs.Tests.{bare}
use Rattle.refusals.specs.declared.Refusal.{Refusal}
use Rattle.lent_bytes.specs.Writing.{refused, accepted, written}
use Rattle.lent_bytes.specs.Writing.{Writing}
use Rattle.par1_read.specs.Reading.{entries_in, read_of}
use Rattle.par1_read.specs.declared.reading.Parts.{Parts}
use Rattle.par1_read.specs.Reading.{Reading}
use Rattle.md5sum_text.specs.Lines.{lines_of}
use Rattle.md5sum_text.specs.Export.{export_text, all_fitting, export_into}
use Rattle.md5sum_text.specs.Import.{text_refusal, answer_for, import_into}
use Rattle.md5sum_text.proofs.CallLaws.{export_unread, export_unfit, export_fit, import_unread, import_faulty, import_right}

-- ---- bytes that are written where they fit

pub data Outcome (s out : List ℕ) : Writing × List ℕ → Type 0 where
  fits : length s ≤ length out → Outcome s out (accepted s out)
  short : length out < length s → Outcome s out (refused (bare 14) out)

pub outcome : (s out : List ℕ) → Outcome s out (written s out)
unfolding written
outcome s out = by (leb (length s) (length out)) refl
  where
    by : (b : Bool) → leb (length s) (length out) ≡ b → Outcome s out (cond b (accepted s out) (refused (bare 14) out))
    by true e = fits (leb-true (length s) (length out) e)
    by false e = short (leb-false (length s) (length out) e)

-- ---- exports

pub data ExportView (f out : List ℕ) : Writing × List ℕ → Type 0 where
  export_refuses : {r : Refusal} → read_of f ≡ Err r → ExportView f out (refused r out)
  export_unfits : {p : Parts} → read_of f ≡ Ok p → all_fitting (entries_in f) ≡ false → ExportView f out (refused (bare 24) out)
  exports : {p : Parts} {w : Writing × List ℕ} → read_of f ≡ Ok p → all_fitting (entries_in f) ≡ true
      → Outcome (export_text (entries_in f)) out w → ExportView f out w

pub export_view : (f out : List ℕ) → ExportView f out (export_into f out)
export_view f out = by (read_of f) refl
  where
    by : (q : Reading) → read_of f ≡ q → ExportView f out (export_into f out)
    by (Err r) e = subst (ExportView f out) (export_unread f out e) (export_refuses e)
    by (Ok p) e = tested (all_fitting (entries_in f)) refl
      where
        tested : (b : Bool) → all_fitting (entries_in f) ≡ b → ExportView f out (export_into f out)
        tested true z = subst (ExportView f out) (export_fit f out e z refl) (exports e z (outcome (export_text (entries_in f)) out))
        tested false z = subst (ExportView f out) (export_unfit f out e z) (export_unfits e z)

-- ---- imports

abbrev pub answers_in : List ℕ → List ℕ → List ℕ
answers_in f s = map (answer_for (lines_of s).pieces) (entries_in f)

pub data ImportView (f s out : List ℕ) : Writing × List ℕ → Type 0 where
  import_refuses : {r : Refusal} → read_of f ≡ Err r → ImportView f s out (refused r out)
  import_faults : {p : Parts} → read_of f ≡ Ok p → ((text_refusal (entries_in f) (lines_of s)).number ≡ 0 → ⊥)
      → ImportView f s out (refused (text_refusal (entries_in f) (lines_of s)) out)
  imports : {p : Parts} {w : Writing × List ℕ} → read_of f ≡ Ok p → (text_refusal (entries_in f) (lines_of s)).number ≡ 0
      → Outcome (answers_in f s) out w → ImportView f s out w

pub import_view : (f s out : List ℕ) → ImportView f s out (import_into f s out)
import_view f s out = by (read_of f) refl
  where
    by : (q : Reading) → read_of f ≡ q → ImportView f s out (import_into f s out)
    by (Err r) e = subst (ImportView f s out) (import_unread f s out e) (import_refuses e)
    by (Ok p) e = tested (text_refusal (entries_in f) (lines_of s)).number refl
      where
        tested : (n : ℕ) → (text_refusal (entries_in f) (lines_of s)).number ≡ n → ImportView f s out (import_into f s out)
        tested zero z = subst (ImportView f s out) (import_right f s out e refl z refl) (imports e z (outcome (answers_in f s) out))
        tested (suc n) z = let some : (text_refusal (entries_in f) (lines_of s)).number ≡ 0 → ⊥ = λ q. omega arith in
            subst (ImportView f s out) (import_faulty f s out e refl some) (import_faults e some)
