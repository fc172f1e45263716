-- `recovery::Holdings::with_empty` meets its contract. The invariant: the missing empty ones of the first `i` files are in the set.
-- Assumes nothing.
use mathlib.Core.Path.{◌≡◌, refl, ap, ap₂, ◌∙◌}
use mathlib.Core.Bool.{Bool, true, false, not, ◌&&◌}
use Prim.Native.Nat.{ℕ, suc, ◌+◌}
use native.Mathlib.Numerals.{add-one}
use Rattle.number_sets.specs.Sets.{member, inserted}
use Rattle.number_sets.proofs.Gathering.{gathered_none, gathered_more, gathered-same}
use Rattle.recovery.specs.Answers.{is_empty}
use Rattle.recovery.proofs.Holdings.with_empty.Goals as goal
use Rattle.recovery.proofs.Holdings.with_empty.Goals.{then-not-has+then-not-has-2, else-not-has, else-not-has-via-then-not-has+else-not-has-2, else-not-has-via-else-not-has}

pub loop-i-init : goal.loop-i-init
loop-i-init c = gathered_none _ _ _

pub loop-i-preserved : goal.loop-i-preserved
loop-i-preserved c = let l = c.loop-i in let a = c.args.self in
    let file : c.from-file.result + 1 ≡ suc l.i = ap (λ (k : ℕ). k + 1) c.from-file.ensures ∙ add-one l.i in
    let tested : (x y : Bool) → member a.files (suc l.i) ≡ x → member a.nonempty (suc l.i) ≡ y → is_empty a.files a.nonempty l.i ≡ (not x && not y) =
    λ x y e f. ap₂ (λ (x y : Bool). not x && not y) e f in
    elim c.if-not-has.branch [
      | then-not-has+then-not-has-2 w ↦ w.set-is ∙ w.insert-more.ensures ∙ ap (λ (k : ℕ). inserted k l.set) file
          ∙ gathered_more _ suc _ l.i l.set l.invariant (tested false false (cc file) (cc file))
      | else-not-has w ↦ w.set-is ∙ gathered-same _ suc _ l.i l.set l.invariant (elim w.else-not-has.branch [
        | else-not-has-via-then-not-has+else-not-has-2 w' ↦ tested false true (cc file) (cc file)
        | else-not-has-via-else-not-has w' ↦ tested true _ (cc file) refl
      ])
    ]
