-- `md5_digest::Md5::push` meets its contract.
-- Assumes nothing.
use Rattle.std.proofs.Common.{◌≡◌, ◌∙◌, refl, length, rules}
use Rattle.md5_digest.proofs.Running.{push_short, push_long}
use Rattle.md5_digest.proofs.Md5.push.Goals as goal

pub returns-then-bytes-at : goal.returns-then-bytes-at
returns-then-bytes-at c = let h = c.args.self in let tailed : length h.tail ≡ 64 = search rules in
    push_short h c.args.bytes.now tailed c.fill-waiting.ensures refl c.if-bytes-at.true c.fill-tail.ensures

pub returns : goal.returns
returns c = let h = c.args.self in let tailed : length h.tail ≡ 64 = search rules in let cut = c.split_at.ensures in
    push_long h c.args.bytes.now tailed c.fill-waiting.ensures refl c.split_at.result.0.now c.split_at.result.1.now c.remainder-last.result.now
    cut.front_len cut.by_index.0 c.fill.ensures (c.remainder-last.ensures ∙ c.chunks_exact.ensures.remainder) c.fill-2.ensures c.after_blocks.ensures
