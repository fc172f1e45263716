-- `little_endian::write_numbers` meets its contract.
-- Assumes nothing.
use mathlib.Core.Path.{refl, sym, ap, ◌∙◌}
use Prim.Native.Nat.{ℕ}
use native.Mathlib.Omega.{arith}
use mathlib.Core.List.{List}
use lib.ListN.{length, drop_of_length-le}
use lib.Seq.{sets, length-sets}
use Rattle.little_endian.specs.Bytes.{numbers as numbers_of}
use Rattle.little_endian.proofs.NumberLists.{write_more}
use Rattle.little_endian.proofs.write_numbers.Goals as goal

pub loop-number-init : goal.loop-number-init
loop-number-init c = (omega arith, refl, refl)

pub loop-number-preserved : goal.loop-number-preserved
loop-number-preserved c = let w = c.write64 in let l = c.loop-number in let a = c.args in let more = write_more l.out a.numbers.now l.number-index l.place _ (omega arith) (omega arith) w.ensures c.saturating_add-place.ensures in
    (omega arith, ap length w.ensures ∙ simp length-sets l.invariant.1, more ∙ l.invariant.2)

pub shape_of-out : goal.shape_of-out
shape_of-out c = c.loop-number.invariant.1

pub returns : goal.returns
unfolding numbers_of
returns c = let l = c.loop-number in let ns = c.args.numbers.now in sym (ap (λ (r : List ℕ). sets l.out l.place (numbers_of r)) (drop_of_length-le ns {i = l.number-index} (omega arith))) ∙ l.invariant.2
