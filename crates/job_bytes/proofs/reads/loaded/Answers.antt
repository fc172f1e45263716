-- `job_bytes::reads::loaded` meets its contract.
-- Assumes nothing.
use mathlib.Core.Path.{sym, ap, ◌∙◌}
use Rattle.running_read.specs.Running.{over_of}
use Rattle.job_bytes.proofs.ReadLaws.{read_of, read_none}
use Rattle.job_bytes.proofs.reads.loaded.Goals as goal

pub returns-then-bytes-ne-LENGTH : goal.returns-then-bytes-ne-LENGTH
returns-then-bytes-ne-LENGTH c = c.over.ensures ∙ ap over_of c.start.ensures ∙ sym (read_none _ c.if-bytes-ne-LENGTH.true)

pub returns : goal.returns
returns c = c.read_in.ensures ∙ sym (read_of _ c.if-bytes-ne-LENGTH.false)
