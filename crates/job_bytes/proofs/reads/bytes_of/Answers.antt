-- `job_bytes::reads::bytes_of` meets its contract.
-- Assumes nothing.
use Rattle.job_bytes.proofs.ReadLaws.{Sized, read_stored_lem}
use borrow.Author.Rules.{rules}
use Rattle.job_bytes.proofs.reads.bytes_of.Goals as goal

pub returns : goal.returns
returns c = read_stored_lem c.args.job (let h : Sized c.args.job = record { header = search rules; control = search rules; head = search rules; hash = search rules } in h) c.mark.ensures c.write64.ensures c.put.ensures
    c.put_md5.ensures c.put_scan.ensures c.write64-2.ensures
