-- `md5sum_text::lines::is_other` meets its contract.
-- Assumes nothing.
use mathlib.Core.Path.{sym, ap, ◌∙◌}
use mathlib.Core.Bool.{not}
use mathlib.Core.List.{List}
use Prim.Native.Nat.{ℕ}
use native.Mathlib.Omega.{arith}
use Rattle.lent_bytes.specs.Equal.{equal}
use Rattle.entries.specs.Entry.{units_of}
use Rattle.md5sum_text.proofs.lines.is_other.Goals as goal

pub overflow_sub-length : goal.overflow_sub-length
overflow_sub-length c = omega (arith, c.requires)

pub returns-then-units_are : goal.returns-then-units_are
returns-then-units_are c = let a = c.args in
    let named = sym (c.units_are.ensures ∙ ap (equal (units_of a.name.now)) c.part.ensures) ∙ c.if-units_are.true in
    simp named (ap not (c.same.ensures ∙ ap (λ (l : List ℕ). equal l a.sum.now) c.part-then-units_are.ensures))

pub returns-else-units_are : goal.returns-else-units_are
returns-else-units_are c =
    let named = sym (c.units_are.ensures ∙ ap (equal (units_of c.args.name.now)) c.part.ensures) ∙ c.if-units_are.false in simp named c.if-units_are.false
