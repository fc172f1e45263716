-- `replay::first_line::open_line` meets its contract.
-- Assumes nothing.
use Rattle.std.proofs.Common.{rules, tests}
use mathlib.Core.Path.{ap, ◌∙◌}
use native.Mathlib.Omega.{arith}
use Rattle.inventory.proofs.Outcomes.{returned, returned_number}
use Rattle.replay.proofs.Openings.{some, many, opened, line_opened, line_other}
use Rattle.replay.proofs.first_line.open_line.Goals as goal

pub returns-then-count-gt-MOST : goal.returns-then-count-gt-MOST
returns-then-count-gt-MOST c = let n = c.in-Some.ensures in ap returned (many _ _ n c.if-count-gt-MOST.true) ∙ line_opened _ n.shape

pub returns-in_default : goal.returns-in_default
returns-in_default c = line_other _ c.in_default.ensures

pub slice_bounds-open-count : goal.slice_bounds-open-count
slice_bounds-open-count c = omega (arith, some _ _ c.in-Some.ensures)

pub slice_bounds-open-start : goal.slice_bounds-open-start
slice_bounds-open-start c = omega (arith, some _ _ c.in-Some.ensures)

pub returns : goal.returns
returns c = let n = c.in-Some.ensures in
    returned_number _ _ c.«open».ensures c.map_err.ensures.cases (λ r k p. search (rules, tests)) ∙ ap returned (opened _ _ n c.if-count-gt-MOST.false)
    ∙ line_opened _ n.shape
