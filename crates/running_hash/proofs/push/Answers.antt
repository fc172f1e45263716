-- `running_hash::push` meets its contract.
-- Assumes nothing.
use mathlib.Core.Path.{sym, ap, ◌∙◌}
use Rattle.md5_digest.specs.declared.Md5.{Md5}
use Rattle.running_hash.specs.Hash.{running, outcome}
use Rattle.running_hash.proofs.HashLaws.{push_open, push_over}
use Rattle.running_hash.proofs.push.Goals as goal

pub returns-then-hash-ne0 : goal.returns-then-hash-ne0
returns-then-hash-ne0 c = let a = c.args in sym (push_over a.hash a.bytes.now c.if-hash-ne0.true)

pub returns : goal.returns
returns c = let a = c.args in ap (λ (s : Md5). outcome 0 (running s)) c.push.ensures ∙ sym (push_open a.hash a.bytes.now c.if-hash-ne0.false)
