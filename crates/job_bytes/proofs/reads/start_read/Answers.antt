-- `job_bytes::reads::start_read` meets its contract.
-- Assumes nothing.
use mathlib.Core.Path.{ap, ◌∙◌}
use Rattle.running_read.specs.declared.RunningRead.{RunningRead}
use Rattle.job_bytes.specs.Reads.{read_stored}
use Rattle.job_bytes.proofs.reads.start_read.Goals as goal

pub returns : goal.returns
returns c = c.store.ensures ∙ ap (λ (j : RunningRead). read_stored 0 j c.args.out.now) c.start.ensures
