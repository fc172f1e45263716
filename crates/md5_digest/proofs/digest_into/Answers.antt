-- `md5::digest_into` meets its contract.
-- Assumes nothing.
use Rattle.std.proofs.Common.{ℕ, List, ap, ◌∙◌}
use Rattle.lent_bytes.specs.Writing.{written, with_number}
use Rattle.md5_digest.proofs.digest_into.Goals as goal

pub returns : goal.returns
returns c = let a = c.args in c.write.ensures ∙ ap (λ (d : List ℕ). with_number (written d a.out.now)) c.digest-found.ensures
