-- `par1_rules::hashes::of_set` meets its contract: no entry yet, an entry more, and all of them.
-- Assumes nothing.
use mathlib.Core.Path.{◌∙◌}
use Rattle.par1_rules.proofs.HashLaws.{pushed_over, set-start}
use Rattle.par1_rules.proofs.hashes.of_set.Goals as goal

pub loop-entry-init : goal.loop-entry-init
loop-entry-init c = cc (set-start c.into_iter-entry-iterator.result)

pub loop-entry-preserved : goal.loop-entry-preserved
unfolding pushed_over
loop-entry-preserved c = rw (c.with_entry-hash.ensures, c.status_of.ensures, c.md5_of.ensures) (rw c.in-Some.ensures.steps at c.loop-entry.invariant)

pub returns : goal.returns
unfolding pushed_over
returns c = c.finish.ensures ∙ rw c.in-None.ensures.steps.0 at c.loop-entry.invariant
