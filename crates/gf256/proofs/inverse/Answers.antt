-- `gf256::inverse` meets its contract: 0 is refused, and the inverse of any other byte is its power 254.
-- Assumes nothing.
use Rattle.std.specs.Prelude.{Ok}
use mathlib.Core.Path.{◌∙◌, sym, ap}
use native.Mathlib.Omega.{arith}
use borrow.Author.Tests.{eq-eqb, ne_eqb}
use borrow.Author.Rules.{rules}
use Rattle.gf256.specs.Answer.{inverse_answer}
use Rattle.gf256.proofs.Inverses.{inverse-power}
use Rattle.gf256.proofs.inverse.Goals as goal

pub returns-then-a-eq0 : goal.returns-then-a-eq0
unfolding inverse_answer
returns-then-a-eq0 c = simp (eq-eqb _ _ c.if-a-eq0.true)

pub returns : goal.returns
unfolding inverse_answer
returns c = let a = c.args.a in simp (ne_eqb _ _ c.if-a-eq0.false)
    (ap Ok (c.power.ensures ∙ sym (inverse-power a (search rules) (omega (arith, c.if-a-eq0.false)))))
