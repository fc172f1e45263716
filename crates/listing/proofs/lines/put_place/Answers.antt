-- `listing::lines::put_place` meets its contract.
-- Assumes nothing.
use mathlib.Core.Path.{sym, ◌∙◌}
use native.Mathlib.Omega.{arith}
use Rattle.text.proofs.WriterLaws.{puts_nil}
use Rattle.listing.specs.Lines.{place_field}
use Rattle.listing.proofs.lines.put_place.Goals as goal

pub returns-then-is_placed : goal.returns-then-is_placed
unfolding place_field
returns-then-is_placed c = simp (sym c.is_placed.ensures ∙ c.if-is_placed.true) c.put_field.ensures

pub returns-else-is_placed : goal.returns-else-is_placed
unfolding place_field
returns-else-is_placed c = simp (sym c.is_placed.ensures ∙ c.if-is_placed.false) (puts_nil _ (omega arith))
