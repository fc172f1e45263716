-- The comparison, by what the two readings are.
--
--   comparison_refused    the first file is refused
--   comparison_refused_2  the second file alone is
--   comparison_accepted   neither is
--   data_part             the data of an accepted file, as code takes it
-- Assumes nothing.
use Rattle.std.specs.Prelude.{Ok, Err}
use mathlib.Core.Path.{◌≡◌, refl, sym, ap, ap₂, ◌∙◌}
use mathlib.Core.List.{List, ◌++◌}
use Prim.Native.Nat.{ℕ, ◌+◌}
use native.Mathlib.Omega.{arith}
use lib.ListN.{length, take, drop, length-drop}
use lib.Seq.{take_all}
use Rattle.refusals.specs.declared.Refusal.{Refusal}
use Rattle.par1_rules.specs.Layout.{list_size_of, data_of}
use Rattle.par1_read.specs.Reading.{entries_in, read_of}
use Rattle.par1_read.specs.declared.reading.Parts.{Parts}
use Rattle.par1_read.specs.Reading.{Reading}
use Rattle.par1_read.proofs.ReadingLaws.{read_tells}
use Rattle.comparing.specs.Lines.{text_of}
use Rattle.comparing.specs.Differences.{head_lines, entry_lines}
use Rattle.comparing.specs.Runs.{run_lines}
use Rattle.comparing.specs.Comparing.{refusal_lines, lines_by, lines_of, comparison_of}
use Rattle.comparing.proofs.TextLaws.{text_append}

module _ (f g : List ℕ) where
  comparison_by : {r q : Reading} → read_of f ≡ r → read_of g ≡ q → comparison_of f g ≡ text_of (lines_by r q f g)
  unfolding comparison_of lines_of
  comparison_by e d = ap₂ (λ (r q : Reading). text_of (lines_by r q f g)) e d

  pub comparison_refused : {r : Refusal} → read_of f ≡ Err r
      → comparison_of f g ≡ text_of (refusal_lines 1 (read_of f)) ++ text_of (refusal_lines 2 (read_of g))
  comparison_refused {r} e =
      comparison_by e refl ∙ text_append (refusal_lines 1 (Err r)) (refusal_lines 2 (read_of g))
      ∙ ap (λ (r : Reading). text_of (refusal_lines 1 r) ++ text_of (refusal_lines 2 (read_of g))) (sym e)

  pub comparison_refused_2 : {p : Parts} {r : Refusal} → read_of f ≡ Ok p → read_of g ≡ Err r
      → comparison_of f g ≡ text_of (refusal_lines 2 (read_of g))
  comparison_refused_2 e d = comparison_by e d ∙ ap (λ (q : Reading). text_of (refusal_lines 2 q)) (sym d)

  pub comparison_accepted : {p q : Parts} → read_of f ≡ Ok p → read_of g ≡ Ok q
      → comparison_of f g
      ≡ text_of (head_lines f g) ++ (text_of (entry_lines 1 (entries_in f) (entries_in g)) ++ text_of (run_lines (data_of f) (data_of g)))
  comparison_accepted e d =
      comparison_by e d ∙ text_append (head_lines f g) _
      ∙ ap (λ (t : List ℕ). text_of (head_lines f g) ++ t) (text_append (entry_lines 1 (entries_in f) (entries_in g)) _)

pub data_part : (f : List ℕ) {p : Parts} → read_of f ≡ Ok p → take (length f) (drop p.data_start f) ≡ data_of f
data_part f {p} e = let told = read_tells f p e in
    let start : p.data_start ≡ 96 + list_size_of f =
    ap (λ (p : Parts). p.data_start) told.parts_are ∙ told.tests.header.layout.data_start_lem in
    ap (λ (i : ℕ). take (length f) (drop i f)) start ∙ take_all (length f) (data_of f) (omega (arith, length-drop (96 + list_size_of f) f))
