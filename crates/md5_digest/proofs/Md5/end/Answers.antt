-- `md5_digest::Md5::end` meets its contract.
-- Assumes nothing.
use Rattle.std.proofs.Common.{List, ℕ, ◌+◌, ◌++◌, take, ap, ◌∙◌}
use Rattle.md5_blocks.specs.Blocks.{all_blocks}
use Rattle.md5_digest.specs.declared.Md5.{Md5}
use Rattle.md5_digest.specs.Padding.{zeros}
use Rattle.md5_digest.specs.Running.{waiting, pushed}
use Rattle.md5_digest.proofs.PaddingLaws.{padding_is}
use Rattle.md5_digest.proofs.Md5.end.Goals as goal

pub returns : goal.returns
unfolding pushed zeros
returns c = let s = c.args.self in ap (λ (h : Md5). h.words) c.push.ensures
    ∙ ap (λ (p : List ℕ). all_blocks s.words (waiting s ++ p)) (ap (take (zeros s.total + 9)) c.write64.ensures ∙ padding_is s.total)
