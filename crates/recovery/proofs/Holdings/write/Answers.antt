-- `recovery::Holdings::write` meets its contract.
-- Assumes nothing.
use mathlib.Core.Path.{◌≡◌, ap, ◌∙◌}
use mathlib.Core.List.{List}
use Prim.Native.Nat.{ℕ, ◌<◌, ◌-◌}
use Rattle.parity.specs.Coefficient.{rule_of}
use Rattle.volume_weights.specs.Weights.{file_weight}
use native.Mathlib.Omega.{arith}
use borrow.Author.Rules.{rules}
use lib.ListN.{length, get_or}
use Rattle.computed_tests.proofs.Lists.{list_below_at}
use Rattle.recovery.proofs.Written.{written_parts}
use Rattle.recovery.proofs.Holdings.write.Goals as goal

pub returns : goal.returns
returns c = let a = c.args in let sums = c.file_weights-sums.result in
    let long : length sums ≡ 255 = search rules in
    let in_sums : (i : ℕ) → i < 255 → get_or sums i 0 ≡ file_weight (rule_of a.self.code) a.self.files a.weights.now (255 - a.self.n) i =
    λ i l. ap (λ (zs : List ℕ). get_or zs i 0) c.file_weights-sums.ensures ∙ list_below_at 255 _ i l in
    rw (c.put-2.ensures, c.put.ensures, c.from-n.ensures)
    (written_parts a.self.n sums a.weights.now a.out.now (omega arith) long (search rules) c.requires _ _ in_sums)
