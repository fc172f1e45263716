-- `replay::events::next` meets its contract.
-- Assumes nothing.
use mathlib.Core.Path.{sym, ◌∙◌}
use native.Mathlib.Omega.{arith}
use Rattle.replay.proofs.EventLaws.{next_end, next_unended, inside_log, next_other, next_here}
use Rattle.replay.proofs.events.next.Goals as goal

pub returns-then-log-from : goal.returns-then-log-from
returns-then-log-from c = c.last.ensures ∙ next_end _ _ _ c.if-log-from.true

pub returns-then-length-eq0 : goal.returns-then-length-eq0
returns-then-length-eq0 c = c.last-then-length-eq0.ensures
    ∙ next_unended _ _ _ c.if-log-from.false (sym c.line_length-length.ensures ∙ c.if-length-eq0.true)

pub overflow_add-end : goal.overflow_add-end
overflow_add-end c = omega (arith, inside_log _ _ _ c.line_length-length.ensures c.if-log-from.false)

pub slice_bounds-line-end : goal.slice_bounds-line-end
slice_bounds-line-end c = omega (arith, inside_log _ _ _ c.line_length-length.ensures c.if-log-from.false)

pub returns-then-not-is_event_line : goal.returns-then-not-is_event_line
returns-then-not-is_event_line c = c.last-then-not-is_event_line.ensures
    ∙ next_other _ _ _ c.line_length-length.ensures c.if-log-from.false c.if-length-eq0.false c.args.inventory
    (sym c.is_event_line.ensures ∙ c.if-not-is_event_line.true)

pub returns : goal.returns
returns c = c.taken.ensures _ c.changed.ensures
    ∙ next_here _ _ _ c.line_length-length.ensures c.if-log-from.false c.if-length-eq0.false c.args.inventory
    (sym c.is_event_line.ensures ∙ c.if-not-is_event_line.false)
