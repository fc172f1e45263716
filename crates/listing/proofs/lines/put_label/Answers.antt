-- `listing::lines::put_label` meets its contract.
-- Assumes nothing.
use mathlib.Core.Path.{sym, ◌∙◌}
use Rattle.listing.specs.Lines.{label}
use Rattle.listing.proofs.lines.put_label.Goals as goal

pub returns-then-is_saved : goal.returns-then-is_saved
unfolding label
returns-then-is_saved c = simp (sym c.is_saved.ensures ∙ c.if-is_saved.true) c.put_decimal.ensures

pub returns-else-is_saved : goal.returns-else-is_saved
unfolding label
returns-else-is_saved c = simp (sym c.is_saved.ensures ∙ c.if-is_saved.false) c.put.ensures
