-- `volume_weights::add_terms` meets its contract: the weight 0 adds nothing.
-- Assumes nothing.
use Rattle.std.proofs.Common.{ℕ, sym, ap, ◌∙◌, arith, replicate}
use Rattle.mul_add.specs.MulAdd.{mul_add}
use Rattle.mul_add.proofs.MulAdds.{mul_add_zero}
use Rattle.parity.specs.Coefficient.{rule_of}
use Rattle.volume_weights.specs.Weights.{row_of}
use Rattle.volume_weights.proofs.add_terms.Goals as goal

pub returns-else-weight-ne0 : goal.returns-else-weight-ne0
returns-else-weight-ne0 c = let a = c.args in let row = row_of (rule_of a.code) a.present (replicate 4 0) a.volume in
    sym (ap (λ (w : ℕ). mul_add w row a.sums.now) (omega (arith, c.if-weight-ne0.false)) ∙ mul_add_zero row a.sums.now)
