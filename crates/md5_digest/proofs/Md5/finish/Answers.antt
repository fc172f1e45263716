-- `md5_digest::Md5::finish` meets its contract.
-- Assumes nothing.
use Rattle.std.proofs.Common.{ap, ◌∙◌}
use Rattle.md5_digest.specs.Digest.{output}
use Rattle.md5_digest.specs.Running.{finished}
use Rattle.md5_digest.proofs.Output.{output_stores, output_alone}
use Rattle.md5_digest.proofs.Md5.finish.Goals as goal

pub returns : goal.returns
unfolding finished
returns c = let w = c.end-words.result in
    output_stores w _ c.write32.ensures c.write32-2.ensures c.write32-3.ensures c.write32-4.ensures ∙ output_alone w ∙ ap output c.end-words.ensures
