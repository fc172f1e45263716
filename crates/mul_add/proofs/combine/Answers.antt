-- `mul_add::combine` meets its contract: a choice for each bit.
-- Assumes nothing.
use Rattle.mul_add.proofs.Bits.{eight_choices}
use Rattle.mul_add.proofs.combine.Goals as goal

pub returns : goal.returns
returns c = eight_choices c.args.x c.args.multiples.now c.if_high.ensures c.if_high-2.ensures c.if_high-3.ensures c.if_high-4.ensures
    c.if_high-5.ensures c.if_high-6.ensures c.if_high-7.ensures c.if_high-8.ensures
