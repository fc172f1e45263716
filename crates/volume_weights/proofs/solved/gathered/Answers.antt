-- `volume_weights::solved::gathered` meets its contract.
-- Assumes nothing.
use Rattle.std.proofs.Common.{◌≡◌, ℕ, List, sym, ap, ◌∙◌, arith, get_or}
use lib.Seq.{get_or-take}
use Rattle.number_sets.specs.Sets.{inserted}
use Rattle.number_sets.proofs.Gathering.{gathered_none, gathered_more, gathered-same}
use Rattle.volume_weights.proofs.solved.gathered.Goals as goal
use Rattle.volume_weights.proofs.solved.gathered.Goals.{then-solvable, else-solvable}

pub loop-p-init : goal.loop-p-init
loop-p-init c = gathered_none _ _ _

pub loop-p-preserved : goal.loop-p-preserved
loop-p-preserved c = let l = c.loop-p in let a = c.args in let s = a.columns.now in let items = c.files-file-items in
    let file : get_or items.result.now l.p 0 ≡ get_or s.files l.p 0 = ap (λ (fs : List ℕ). get_or fs l.p 0) items.ensures.is ∙ get_or-take s.width s.files l.p 0 (omega arith) in
    elim c.if-solvable.branch [
      | then-solvable w ↦ w.set-is ∙ w.insert-more.ensures ∙ ap (λ (f : ℕ). inserted f l.set) (w.from.ensures ∙ file)
          ∙ gathered_more _ (λ k. get_or s.files k 0) _ l.p l.set l.invariant (sym c.solvable.ensures ∙ w.if-solvable.true)
      | else-solvable w ↦ w.set-is ∙ gathered-same _ (λ k. get_or s.files k 0) _ l.p l.set l.invariant (sym c.solvable.ensures ∙ w.if-solvable.false)
    ]
