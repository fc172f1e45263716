-- `running_read::push` meets its contract.
-- Assumes nothing.
use mathlib.Core.Bool.{not}
use mathlib.Core.Path.{◌≡◌, sym, ap, ◌∙◌}
use mathlib.Core.Bool.{true}
use borrow.Author.Tests.{not-true, not-false}
use Rattle.running_read.specs.declared.RunningRead.{RunningRead}
use Rattle.running_read.specs.Running.{counts_of, is_open}
use Rattle.running_read.proofs.OpenLaws.{tested, open_short}
use Rattle.running_read.proofs.PushLaws.{push_open, push_refused}
use Rattle.running_read.proofs.push.Goals as goal

pub returns-then-not-is_open : goal.returns-then-not-is_open
returns-then-not-is_open c = sym (push_refused _ _ (tested _ c.counts_of.ensures c.is_open.ensures ∙ not-true c.is_open.result (ap not c.if-not-is_open.true)))

pub extended-requires : goal.extended-requires
extended-requires c = open_short _ (let h : is_open (counts_of c.args.job) ≡ true = tested _ c.counts_of.ensures c.is_open.ensures ∙ not-false c.is_open.result (ap not c.if-not-is_open.false) in h)

pub returns : goal.returns
returns c = ap (λ (j : RunningRead). record { number = 0; next = j }) c.extended.ensures ∙ sym (push_open _ _ (let h : is_open (counts_of c.args.job) ≡ true = tested _ c.counts_of.ensures c.is_open.ensures ∙ not-false c.is_open.result (ap not c.if-not-is_open.false) in h))
