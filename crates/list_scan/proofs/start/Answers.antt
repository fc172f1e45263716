-- `list_scan::start` meets its contract.
-- Assumes nothing.
use Rattle.entries.proofs.WalkLaws.{no_totals}
use Rattle.list_scan.specs.Scan.{scan_start}
use Rattle.list_scan.proofs.start.Goals as goal

pub returns : goal.returns
unfolding scan_start
returns c = rw (c.start.ensures, no_totals c.default.result c.default.ensures, c.new.ensures)
