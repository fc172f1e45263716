-- `md5_blocks::rounds::shift` meets its contract.
-- Assumes nothing.
use Rattle.std.proofs.Common.{◌≡◌, ◌/◌, arith}
use Rattle.md5_blocks.proofs.Rows.{shift_is}
use Rattle.md5_blocks.proofs.rounds.shift.Goals.{in-0, in-1, in-2, in_default}
use Rattle.md5_blocks.proofs.rounds.shift.Goals as goal

pub returns : goal.returns
returns c = let is = shift_is c.args.j c.requires in
    elim c.match-j-div16.branch [
      | in-0 w ↦ rw w.shifts-is (rw w.in-0.is at is)
      | in-1 w ↦ rw w.shifts-is (rw w.in-1.is at is)
      | in-2 w ↦ rw w.shifts-is (rw w.in-2.is at is)
      | in_default w ↦ (let last : c.args.j / 16 ≡ 3 = omega arith in rw w.shifts-is (rw last at is))
    ]
