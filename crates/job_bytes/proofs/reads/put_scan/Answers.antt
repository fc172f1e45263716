-- `job_bytes::reads::put_scan` meets its contract.
-- Assumes nothing.
use mathlib.Core.Path.{◌≡◌}
use lib.ListN.{length}
use Rattle.job_bytes.proofs.ReadLaws.{scan_stored}
use borrow.Author.Rules.{rules}
use Rattle.job_bytes.proofs.reads.put_scan.Goals as goal

pub returns : goal.returns
returns c = scan_stored _ c.args.scan (let h : length c.args.scan.head ≡ 56 = search rules in h) (let h : length c.args.scan.hash.tail ≡ 64 = search rules in h) c.name_mark.ensures c.put.ensures
    c.write_numbers.ensures c.put_md5.ensures
