-- `little_endian::read_numbers` meets its contract.
-- Assumes nothing.
use mathlib.Core.Path.{◌≡◌, refl, sym, ap, ◌∙◌}
use Prim.Native.Nat.{ℕ, ◌-◌}
use native.Mathlib.Nat.{sub-zero}
use native.Mathlib.Omega.{arith}
use mathlib.Core.List.{◌++◌, append-nil}
use lib.ListN.{length, take, length-set}
use lib.Seq.{take_all}
use Rattle.little_endian.specs.Bytes.{numbers_at}
use Rattle.little_endian.proofs.NumberLists.{read_more}
use Rattle.little_endian.proofs.read_numbers.Goals as goal

pub loop-number-init : goal.loop-number-init
loop-number-init c = let a = c.args in (omega arith, refl, ap (λ (k : ℕ). numbers_at k a.s.now a.at) (sub-zero (length a.numbers.now)))

pub loop-number-preserved : goal.loop-number-preserved
loop-number-preserved c = let r = c.read64 in let l = c.loop-number in let a = c.args in let more =
    read_more (length a.numbers.now) a.s.now l.numbers l.number-index l.place _ l.invariant.1 (omega arith) (omega arith)
    r.ensures c.saturating_add-place.ensures in
    (omega arith, length-set l.numbers l.number-index r.result ∙ l.invariant.1, more ∙ l.invariant.2)

pub shape_of-numbers : goal.shape_of-numbers
shape_of-numbers c = c.loop-number.invariant.1

pub returns : goal.returns
unfolding numbers_at
returns c = let l = c.loop-number in let a = c.args in let none : length a.numbers.now - l.number-index ≡ 0 = omega arith in
    sym (take_all l.number-index l.numbers (omega arith)) ∙ sym (append-nil (take l.number-index l.numbers))
    ∙ ap (λ (k : ℕ). take l.number-index l.numbers ++ numbers_at k a.s.now l.place) (sym none) ∙ l.invariant.2
