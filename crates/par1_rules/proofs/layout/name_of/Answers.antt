-- `par1_rules::layout::name_of` meets its contract.
-- Assumes nothing.
use mathlib.Core.Path.{◌∙◌}
use native.Mathlib.Omega.{arith}
use lib.ListN.{length, drop, length-drop}
use lib.Seq.{take_all}
use Rattle.par1_rules.proofs.layout.name_of.Goals as goal

pub returns : goal.returns
returns c = let e = c.args.entry.now in c.part.ensures ∙ take_all (length e) (drop 56 e) (omega (arith, length-drop 56 e))
