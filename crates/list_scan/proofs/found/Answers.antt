-- `list_scan::found` meets its contract.
-- Assumes nothing.
use mathlib.Core.Path.{refl}
use Rattle.list_scan.specs.Found.{found_of}
use Rattle.list_scan.proofs.FoundLaws.{found_refused}
use Rattle.list_scan.proofs.found.Goals as goal

pub returns-then-scan-eq0 : goal.returns-then-scan-eq0
unfolding found_of
returns-then-scan-eq0 c = simp c.if-scan-eq0.true

pub returns : goal.returns
returns c = let sc = c.args.scan in found_refused sc c.if-scan-eq0.false c.fault_at-fault.ensures
    refl c.at.ensures
