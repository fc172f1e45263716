-- `list_scan::push` meets its contract: the two cases of whether there is room.
-- Assumes nothing.
use mathlib.Core.Bool.{not}
use mathlib.Core.Path.{ap}
use Rattle.std.proofs.Common.{sym, ◌∙◌}
use borrow.Author.Tests.{not-true, not-false}
use Rattle.list_scan.specs.Room.{pushed}
use Rattle.list_scan.proofs.RoomLaws.{pushed_room}
use Rattle.list_scan.proofs.push.Goals as goal

pub returns-then-not-has_room : goal.returns-then-not-has_room
unfolding pushed
returns-then-not-has_room c = simp (sym c.has_room.ensures ∙ not-true _ (ap not c.if-not-has_room.true))

pub after-requires : goal.after-requires
after-requires c = sym c.has_room.ensures ∙ not-false _ (ap not c.if-not-has_room.false)

pub returns : goal.returns
returns c = c.after.ensures ∙ sym (pushed_room _ _ (sym c.has_room.ensures ∙ not-false _ (ap not c.if-not-has_room.false)))
