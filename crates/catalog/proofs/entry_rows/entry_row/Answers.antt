-- `catalog::entry_rows::entry_row` meets its contract.
-- Assumes nothing.
use mathlib.Core.Path.{ap, ◌∙◌}
use lib.ListN.{length}
use Rattle.catalog.proofs.ListLaws.{hash_length}
use Rattle.catalog.proofs.entry_rows.entry_row.Goals as goal

pub row_of-requires : goal.row_of-requires
row_of-requires c = ap length c.md5_of.ensures ∙ hash_length c.args.entry.now c.requires.1
