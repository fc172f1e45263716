-- `inventory::Inventory::open` meets its contract.
-- Assumes nothing.
use mathlib.Core.Path.{◌≡◌, refl, sym, ap, ◌∙◌}
use mathlib.Core.List.{List}
use Prim.Native.Nat.{ℕ, ◌≤◌}
use native.Mathlib.Nat.{not-suc-le-zero}
use native.Mathlib.Omega.{arith}
use borrow.Author.Rules.{rules}
use lib.ListN.{get_or, replicate}
use Rattle.std.specs.Prelude.{Ok, Err}
use Rattle.number_sets.proofs.Ranges.{one_more}
use Rattle.inventory.specs.Steps.{handed_back, nonempty_of}
use Rattle.inventory.proofs.Outcomes.{open_out_of_range, open_miscounted, open_too_large, open_accepted, nonempty_more, nonempty_same}
use Rattle.inventory.proofs.Inventory.open.Goals as goal
use Rattle.inventory.proofs.Inventory.open.Goals.{then-size-gt0, else-size-gt0}
use Rattle.inventory.proofs.Inventory.open.Goals.{then-not-one_to-via-then-not-one_to, then-not-one_to-via-else-not-one_to+then-sizes-n}

pub returns-then-not-one_to : goal.returns-then-not-one_to
returns-then-not-one_to c = let a = c.args in elim c.then-not-one_to.branch [
  | then-not-one_to-via-then-not-one_to w ↦ ap Err c.refused_opening.ensures ∙ ap handed_back (open_out_of_range a.code a.n a.sizes.now (sym c.one_to.ensures ∙ w.if-not-one_to.true))
  | then-not-one_to-via-else-not-one_to+then-sizes-n w ↦ ap Err c.refused_opening.ensures ∙ ap handed_back (open_miscounted a.code a.n a.sizes.now w.if-sizes-n.true)
]

pub loop-k-init : goal.loop-k-init
unfolding nonempty_of
loop-k-init c = (refl, λ j l. absurd (not-suc-le-zero l))

pub loop-k-preserved : goal.loop-k-preserved
loop-k-preserved c = let l = c.loop-k in let sizes = c.args.sizes.now in (
  elim c.if-size-gt0.branch [
    | then-size-gt0 w ↦ w.nonempty-is ∙ w.insert-more.ensures ∙ nonempty_more sizes l.nonempty l.k l.invariant.0 (search rules)
    | else-size-gt0 w ↦ w.nonempty-is ∙ nonempty_same sizes l.nonempty l.k l.invariant.0 (search rules)
  ],
  one_more (λ j. get_or sizes j 0 ≤ 16777216) l.k l.invariant.1 (search rules),
)

pub returns-then-size-gt-MAX_FILE_SIZE : goal.returns-then-size-gt-MAX_FILE_SIZE
returns-then-size-gt-MAX_FILE_SIZE c = let l = c.loop-k in let a = c.args in
    ap Err c.refused_opening-then-size-gt-MAX_FILE_SIZE.ensures
    ∙ ap handed_back (open_too_large a.code a.n a.sizes.now (sym c.one_to.ensures ∙ c.if-not-one_to.false) c.if-sizes-n.false l.k (omega arith) (search rules))

pub returns : goal.returns
returns c = let l = c.loop-k in let a = c.args in let e : l.k ≡ a.n = omega arith in
    ap (λ (ws : List ℕ).
    Ok (record { n = a.n; files = replicate 4 0; volumes = replicate 4 0; nonempty = ws; quarantined = replicate 4 0; code = a.code }))
    (l.invariant.0 ∙ ap (nonempty_of a.sizes.now) e)
    ∙ ap handed_back (open_accepted a.code a.n a.sizes.now (sym c.one_to.ensures ∙ c.if-not-one_to.false) c.if-sizes-n.false (rw e at l.invariant.1))
