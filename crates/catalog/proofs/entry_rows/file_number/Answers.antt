-- `catalog::entry_rows::file_number` meets its contract.
-- Assumes nothing.
use mathlib.Core.Path.{sym, ◌∙◌}
use Rattle.catalog.proofs.entry_rows.file_number.Goals as goal

pub returns-then-is_saved : goal.returns-then-is_saved
returns-then-is_saved c = simp (sym c.is_saved.ensures ∙ c.if-is_saved.true)

pub returns-else-is_saved : goal.returns-else-is_saved
returns-else-is_saved c = simp (sym c.is_saved.ensures ∙ c.if-is_saved.false)
