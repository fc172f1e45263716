-- `md5::digest` meets its contract.
-- Assumes nothing.
use Rattle.std.proofs.Common.{ap, ◌∙◌}
use Rattle.md5_digest.specs.declared.Md5.{Md5}
use Rattle.md5_digest.specs.Running.{pushed, finished}
use Rattle.md5_digest.proofs.Running.{whole_digest}
use Rattle.md5_digest.proofs.digest.Goals as goal

pub returns : goal.returns
returns c = let m = c.args.bytes.now in c.finish.ensures
    ∙ ap finished (c.push.ensures ∙ ap (λ (h : Md5). pushed h m) c.new.ensures)
    ∙ whole_digest m
