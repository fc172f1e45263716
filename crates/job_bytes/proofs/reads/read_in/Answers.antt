-- `job_bytes::reads::read_in` meets its contract.
-- Assumes nothing.
use native.Mathlib.Omega.{arith}
use Rattle.job_bytes.proofs.ReadLaws.{copied}
use Rattle.job_bytes.specs.Reads.{read_job_in}
use Rattle.job_bytes.proofs.reads.read_in.Goals as goal

pub md5_at-control-requires : goal.md5_at-control-requires
md5_at-control-requires c = omega (arith, c.requires)

pub returns : goal.returns
unfolding read_job_in
returns c = let header = copied 96 8 c.args.bytes.now (omega (arith, c.requires)) c.part.ensures c.put.ensures in cc
