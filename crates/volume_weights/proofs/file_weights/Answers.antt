-- `volume_weights::file_weights` meets its contract.
-- Assumes nothing.
use Rattle.std.proofs.Common.{◌≡◌, ℕ, ap, ◌∙◌, arith}
use Rattle.computed_tests.proofs.Lists.{list_below_is}
use Rattle.parity.specs.Coefficient.{rule_of}
use Rattle.volume_weights.specs.Weights.{file_weight}
use Rattle.volume_weights.proofs.Steps.{weighted_none, weighted_more}
use Rattle.volume_weights.proofs.file_weights.Goals as goal

pub loop-v-init : goal.loop-v-init
loop-v-init c = weighted_none (rule_of c.args.code) c.args.present c.args.weights.now

pub loop-v-preserved : goal.loop-v-preserved
loop-v-preserved c = let l = c.loop-v in let a = c.args in weighted_more (rule_of a.code) a.present a.weights.now l.v l.sums _ l.invariant (rw c.from.ensures at c.add_terms.ensures)

pub returns : goal.returns
returns c = let l = c.loop-v in let a = c.args in let e : l.v ≡ a.rows = omega arith in
    list_below_is 255 (file_weight (rule_of a.code) a.present a.weights.now a.rows) l.sums l.invariant.full
    (λ i b. l.invariant.each i b ∙ ap (λ (m : ℕ). file_weight (rule_of a.code) a.present a.weights.now m i) e)
