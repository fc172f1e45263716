-- `par1_read::read` meets its contract: the header refuses the file, or its list, its digests and the walk decide.
-- Assumes nothing.
use Rattle.std.proofs.lemmas.Result.{err_from_is_err_and}
use mathlib.Core.Path.{sym, ap, ◌∙◌}
use Prim.Native.Nat.{ℕ}
use native.Mathlib.Omega.{arith}
use lib.ListN.{take, drop}
use Rattle.lent_bytes.proofs.PartLaws.{part_to_end}
use Rattle.md5_digest.specs.Digest.{md5}
use Rattle.refusals.proofs.TestLaws.{told_ok}
use Rattle.par1_read.proofs.ReadingLaws.{header_passed, header_refused, read_as}
use Rattle.par1_read.proofs.reading.read.Goals as goal

pub returns-in_err-header_tests : goal.returns-in_err-header_tests
returns-in_err-header_tests c =
    let p = err_from_is_err_and c.from_residual.result c.from_residual.ensures.1 in rw (p.1, p.2) (sym (header_refused _ c.in_err-header_tests.ensures))

pub slice_bounds-digest-count : goal.slice_bounds-digest-count
slice_bounds-digest-count c = omega (arith, (header_passed _ _ (told_ok _ c.in_ok-header_tests.ensures)).size.low)

pub slice_bounds-digest-start : goal.slice_bounds-digest-start
slice_bounds-digest-start c = omega (arith, (header_passed _ _ (told_ok _ c.in_ok-header_tests.ensures)).size.low)

pub returns : goal.returns
returns c = let f = c.args.file.now in let list = c.part-list.ensures ∙ ap (λ (k : ℕ). take k (drop 96 f)) c.read64-list_size.ensures in
    let control = c.digest-digest.ensures ∙ ap md5 (part_to_end f 32) in
    c.read_from.ensures ∙ read_as f list control c.of_set-set.ensures c.walk.ensures
