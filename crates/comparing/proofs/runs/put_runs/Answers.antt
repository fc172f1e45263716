-- `comparing::runs::put_runs` meets its contract. The loop's invariant: the lines on the runs from the position on are to be put.
-- Assumes nothing.
use mathlib.Core.Path.{◌≡◌, sym, ap}
use Prim.Native.Nat.{ℕ, ◌≤◌, ◌<◌, ◌-◌, max}
use native.Mathlib.Omega.{arith}
use lib.ListN.{length}
use Rattle.text.proofs.WriterLaws.{remains_all, remains_less, remains_none}
use mathlib.Core.List.{List, ◌∷◌, map, flatten}
use mathlib.Core.Bool.{not}
use Rattle.comparing.specs.Lines.{text_of}
use Rattle.comparing.specs.Runs.{Run, run_of, run_line, run_lines, runs_of, runs_from, differs, FirstFrom}
use Rattle.comparing.proofs.RunLaws.{runs_next, runs_none}
use Rattle.comparing.proofs.runs.put_runs.Goals as goal

-- the next run, by what the code's two scans find
next : (a b : List ℕ) (n from : ℕ) {first end : ℕ} → n ≡ max (length a) (length b) → FirstFrom (differs a b) (max (length a) (length b)) from first → first < n
    → (end ≤ max (length a) (length b)) × FirstFrom (λ p. not (differs a b p)) (max (length a) (length b)) first end
    → (first < end) × (runs_from (differs a b) (n - from) from ≡ run_of first (end - 1) ∷ runs_from (differs a b) (n - end) end)
next a b n from e f h g = runs_next (differs a b) n from (rw (sym e) at f) h (omega arith) (rw (sym e) at g.1)

pub loop-n-init : goal.loop-n-init
unfolding run_lines runs_of
loop-n-init c = let a = c.args.a.now in let b = c.args.b.now in let all : c.max-n.result - 0 ≡ max (length a) (length b) = omega (arith, c.max-n.ensures) in
    (c.max-n.ensures, rw all (remains_all _ _ (omega arith)))

pub returns-then-n-first : goal.returns-then-n-first
unfolding flatten
returns-then-n-first c = let l = c.loop-n in let first = rw (sym l.invariant.0) at c.difference_from-first.ensures in
    remains_none l.invariant.1 (ap (λ (rs : List Run). text_of (map (λ r. run_line r) rs)) (runs_none _ _ l.from first c.if-n-first.true))

pub overflow_sub-end : goal.overflow_sub-end
overflow_sub-end c = let i = next c.args.a.now c.args.b.now _ c.loop-n.from c.loop-n.invariant.0 c.difference_from-first.ensures c.if-n-first.false c.agreement_from-end.ensures in
    omega (arith, i.0)

pub loop-n-smaller : goal.loop-n-smaller
loop-n-smaller c = let i = next c.args.a.now c.args.b.now _ c.loop-n.from c.loop-n.invariant.0 c.difference_from-first.ensures c.if-n-first.false c.agreement_from-end.ensures in
    omega (arith, i.0, c.difference_from-first.ensures.low, c.agreement_from-end.ensures.0)

pub loop-n-preserved : goal.loop-n-preserved
unfolding flatten
loop-n-preserved c = let l = c.loop-n in let i = next c.args.a.now c.args.b.now _ l.from l.invariant.0 c.difference_from-first.ensures c.if-n-first.false c.agreement_from-end.ensures in
    (l.invariant.0, remains_less l.invariant.1 (ap (λ (rs : List Run). text_of (map (λ r. run_line r) rs)) i.1) c.put_run.ensures)
