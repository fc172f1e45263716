-- `job_bytes::reads::md5_at` meets its contract.
-- Assumes nothing.
use Prim.Native.Nat.{◌+◌}
use native.Mathlib.Omega.{arith}
use Rattle.job_bytes.proofs.ReadLaws.{copied}
use Rattle.job_bytes.proofs.reads.md5_at.Goals as goal

pub overflow_add-at : goal.overflow_add-at
overflow_add-at c = omega (arith, c.requires)

pub overflow_add-at-2 : goal.overflow_add-at-2
overflow_add-at-2 c = omega (arith, c.requires)

pub returns : goal.returns
returns c = let a = c.args in let tail = copied 64 (a.at + 16) a.bytes.now (omega (arith, c.requires)) c.part.ensures c.put.ensures in cc
