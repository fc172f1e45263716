-- `lent_bytes::write` meets its contract.
-- Assumes nothing.
use mathlib.Core.Path.{refl, ap, ◌∙◌}
use Rattle.lent_bytes.specs.Writing.{with_number}
use Rattle.lent_bytes.proofs.StoreLaws.{sets_over}
use Rattle.lent_bytes.proofs.WritingLaws.{written_fits, written_short}
use Rattle.lent_bytes.proofs.write.Goals as goal

pub returns-then-out-bytes : goal.returns-then-out-bytes
returns-then-out-bytes c = ap with_number (written_short _ _ c.if-out-bytes.true)

pub returns : goal.returns
returns c = let a = c.args in let fits = c.if-out-bytes.false in let over = c.put.ensures ∙ sets_over a.out.now a.bytes.now fits in
    ap with_number (written_fits a.bytes.now a.out.now fits refl over)
