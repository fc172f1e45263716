-- `md5_blocks::rounds::auxiliary` meets its contract.
-- Assumes nothing.
use Rattle.std.proofs.Common.{◌≡◌, suc, ◌-◌, arith}
use Rattle.md5_blocks.specs.Rounds.{aux_f, aux_g, aux_h, aux_i}
use Rattle.md5_blocks.proofs.rounds.auxiliary.Goals as goal

pub returns-in-0 : goal.returns-in-0
unfolding aux_f
returns-in-0 c = rw c.in-0.is

pub returns-in-1 : goal.returns-in-1
unfolding aux_g
returns-in-1 c = rw c.in-1.is

pub returns-in-2 : goal.returns-in-2
unfolding aux_h
returns-in-2 c = rw c.in-2.is

pub returns-in_default : goal.returns-in_default
unfolding aux_i
returns-in_default c = let past : c.args.round ≡ suc (suc (suc (c.args.round - 3))) = omega arith in rw past
