-- `running_read::end` meets its contract.
-- Assumes nothing.
use Rattle.std.specs.Prelude.{Err}
use mathlib.Core.Bool.{not}
use mathlib.Core.Path.{sym, ap, ap₂, ◌∙◌}
use borrow.Author.Tests.{not-true, not-false}
use Rattle.refusals.specs.declared.Refusal.{Refusal}
use Rattle.par1_read.specs.Reading.{Reading}
use Rattle.running_read.specs.declared.RunningRead.{RunningRead}
use Rattle.running_read.proofs.OpenLaws.{tested}
use Rattle.running_read.proofs.PushLaws.{end_open, end_refused}
use Rattle.running_read.proofs.end.Goals as goal

pub returns-then-not-is_open : goal.returns-then-not-is_open
returns-then-not-is_open c = let j = c.args.job in let shut = tested j c.counts_of.ensures c.is_open.ensures ∙ not-true c.is_open.result (ap not c.if-not-is_open.true) in
    ap (λ (r : Refusal). record { reading = Err r; next = j }) c.bare.ensures ∙ sym (end_refused j shut)

pub returns : goal.returns
returns c = let j = c.args.job in let opened = tested j c.counts_of.ensures c.is_open.ensures ∙ not-false c.is_open.result (ap not c.if-not-is_open.false) in
    ap₂ (λ (r : Reading) (k : RunningRead). record { reading = r; next = k }) c.reading_of.ensures c.over.ensures
    ∙ sym (end_open j opened)
