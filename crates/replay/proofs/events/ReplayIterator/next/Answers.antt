-- `replay::events::ReplayIterator::next` meets its contract.
-- Assumes nothing.
use mathlib.Core.Path.{refl, sym, ap, ◌∙◌}
use mathlib.Core.Bool.{Bool, cond}
use lib.ListN.{length}
use Rattle.replay.proofs.ReplayLaws.{told_progress}
use Rattle.replay.proofs.events.ReplayIterator.next.Goals as goal
use Rattle.replay.proofs.events.ReplayIterator.next.Goals.{then-event, else-event}

pub returns-clause-goes : goal.returns-clause-goes
returns-clause-goes c = let r = c.args.self.now in let e = c.next-event.result in
    told_progress _ _ _ {r = r} e _ c.next-event.ensures c.told.ensures refl refl (sym c.place.ensures) elim c.if-event.branch [
      | then-event w ↦ w.from-is ∙ ap (λ (b : Bool). cond b (length r.log.now) e.from) (sym w.if-event.true)
      | else-event w ↦ w.from-is ∙ ap (λ (b : Bool). cond b (length r.log.now) e.from) (sym w.if-event.false)
    ]
