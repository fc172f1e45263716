-- `catalog::rows::rows_at` meets its contract.
-- Assumes nothing.
use mathlib.Core.Path.{ap, ◌∙◌}
use native.Mathlib.Omega.{arith}
use lib.ListN.{length, take, length-drop}
use Rattle.catalog.specs.Catalog.{rows_in}
use Rattle.catalog.proofs.RowLaws.{chunks-rows}
use Rattle.lent_bytes.proofs.PartLaws.{part_to_end}
use Rattle.catalog.proofs.rows.rows_at.Goals as goal

pub returns : goal.returns
returns c =
    let b = c.args.bytes.now in
    let part = part_to_end b c.args.at in
    ap (take c.args.count) c.as_chunks.ensures.front
    ∙ chunks-rows c.args.count _ _ (omega (arith, ap length part, length-drop c.args.at b))
    ∙ ap (rows_in c.args.count) part
