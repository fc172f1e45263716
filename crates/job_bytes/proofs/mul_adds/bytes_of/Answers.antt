-- `job_bytes::mul_adds::bytes_of` meets its contract.
-- Assumes nothing.
use mathlib.Core.Path.{ap, ◌∙◌}
use Prim.Native.Nat.{ℕ}
use Rattle.little_endian.specs.Bytes.{numbers, to_le}
use mathlib.Core.List.{[], ◌∷◌}
use Rattle.job_bytes.specs.MulAdds.{mul_add_bytes}
use Rattle.job_bytes.proofs.mul_adds.bytes_of.Goals as goal

pub returns : goal.returns
unfolding mul_add_bytes numbers to_le
returns c = let job = c.args.job in c.write_numbers.ensures ∙ ap (λ (m : ℕ). numbers (job.weight ∷ job.position ∷ m ∷ [])) c.mark.ensures
