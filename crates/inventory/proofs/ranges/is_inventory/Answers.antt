-- `inventory::ranges::is_inventory` meets its contract.
-- Assumes nothing.
use mathlib.Core.Path.{◌≡◌, sym, ◌∙◌}
use mathlib.Core.Bool.{Bool, ◌&&◌, and_assoc}
use Prim.Native.Nat.{◌-◌}
use Rattle.computed_tests.specs.Numbers.{one_to}
use Rattle.number_sets.specs.Sets.{within, apart}
use Rattle.inventory.specs.Steps.{is_inventory}
use Rattle.inventory.proofs.Outcomes.{first_fails, first_holds}
use Rattle.inventory.proofs.ranges.is_inventory.Goals as goal
use Rattle.inventory.proofs.ranges.is_inventory.Goals.{then-one_to, else-one_to, then-within, else-within, then-within-2, else-within-2, then-within-3, else-within-3}

-- the tests one after another, as the definition has them
in_a_row : (a b c d e f v w x y : Bool) → v ≡ (a && b) → w ≡ (v && c) → x ≡ (w && d) → y ≡ (x && e)
    → (y && f) ≡ (a && (b && (c && (d && (e && f)))))
in_a_row a b c d e f v w x y p q r s = simp (s, r, q, p, and_assoc)

pub returns-then-within-4 : goal.returns-then-within-4
unfolding is_inventory
returns-then-within-4 c = first_holds c.if-within-3.value _ _ c.if-within-4.true c.apart.ensures ∙ (let s = c.args.s in let b = within s.n s.files in let d = within s.n s.nonempty in let m = within (255 - s.n) s.volumes in let q = within (255 - s.n) s.quarantined in
    in_a_row (one_to 254 s.n) b d m q (apart s.volumes s.quarantined) _ _ _ c.if-within-3.value
    (elim c.if-one_to.branch [
      | then-one_to w ↦ first_holds _ b _ (sym c.one_to.ensures ∙ w.if-one_to.true) (w.value-is ∙ w.within.ensures)
      | else-one_to w ↦ w.value-is ∙ w.if-one_to.false ∙ first_fails _ b (sym c.one_to.ensures ∙ w.if-one_to.false)
    ])
    (elim c.if-within.branch [
      | then-within w ↦ first_holds _ d _ w.if-within.true (w.value-is ∙ w.within-then-within.ensures)
      | else-within w ↦ w.value-is ∙ w.if-within.false ∙ first_fails _ d w.if-within.false
    ])
    (elim c.if-within-2.branch [
      | then-within-2 w ↦ first_holds _ m _ w.if-within-2.true (w.value-is ∙ w.within-then-within-2.ensures)
      | else-within-2 w ↦ w.value-is ∙ w.if-within-2.false ∙ first_fails _ m w.if-within-2.false
    ])
    (elim c.if-within-3.branch [
      | then-within-3 w ↦ first_holds _ q _ w.if-within-3.true (w.value-is ∙ w.within-then-within-3.ensures)
      | else-within-3 w ↦ w.value-is ∙ w.if-within-3.false ∙ first_fails _ q w.if-within-3.false
    ]))

pub returns-else-within-4 : goal.returns-else-within-4
unfolding is_inventory
returns-else-within-4 c = c.if-within-4.false ∙ first_fails c.if-within-3.value _ c.if-within-4.false ∙ (let s = c.args.s in let b = within s.n s.files in let d = within s.n s.nonempty in let m = within (255 - s.n) s.volumes in let q = within (255 - s.n) s.quarantined in
    in_a_row (one_to 254 s.n) b d m q (apart s.volumes s.quarantined) _ _ _ c.if-within-3.value
    (elim c.if-one_to.branch [
      | then-one_to w ↦ first_holds _ b _ (sym c.one_to.ensures ∙ w.if-one_to.true) (w.value-is ∙ w.within.ensures)
      | else-one_to w ↦ w.value-is ∙ w.if-one_to.false ∙ first_fails _ b (sym c.one_to.ensures ∙ w.if-one_to.false)
    ])
    (elim c.if-within.branch [
      | then-within w ↦ first_holds _ d _ w.if-within.true (w.value-is ∙ w.within-then-within.ensures)
      | else-within w ↦ w.value-is ∙ w.if-within.false ∙ first_fails _ d w.if-within.false
    ])
    (elim c.if-within-2.branch [
      | then-within-2 w ↦ first_holds _ m _ w.if-within-2.true (w.value-is ∙ w.within-then-within-2.ensures)
      | else-within-2 w ↦ w.value-is ∙ w.if-within-2.false ∙ first_fails _ m w.if-within-2.false
    ])
    (elim c.if-within-3.branch [
      | then-within-3 w ↦ first_holds _ q _ w.if-within-3.true (w.value-is ∙ w.within-then-within-3.ensures)
      | else-within-3 w ↦ w.value-is ∙ w.if-within-3.false ∙ first_fails _ q w.if-within-3.false
    ]))
