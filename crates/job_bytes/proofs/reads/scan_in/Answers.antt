-- `job_bytes::reads::scan_in` meets its contract.
-- Assumes nothing.
use native.Mathlib.Omega.{arith}
use Rattle.job_bytes.proofs.ReadLaws.{copied}
use Rattle.job_bytes.proofs.reads.scan_in.Goals as goal

pub md5_at-hash-requires : goal.md5_at-hash-requires
md5_at-hash-requires c = omega (arith, c.requires)

pub returns : goal.returns
returns c = let head = copied 56 192 c.args.bytes.now (omega (arith, c.requires)) c.part.ensures c.put.ensures in cc
