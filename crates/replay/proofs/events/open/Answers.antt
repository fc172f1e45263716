-- `replay::events::open` meets its contract.
-- Assumes nothing.
use mathlib.Core.Path.{◌≡◌, refl, sym, ap, ◌∙◌, subst}
use mathlib.Core.Logic.{◌≢◌}
use mathlib.Core.Bool.{false}
use mathlib.Core.List.{List}
use Prim.Native.Nat.{ℕ, ◌≤◌, ◌-◌, ◌+◌}
use native.Mathlib.Omega.{arith}
use lib.ListN.{length, take, length-take}
use Rattle.std.proofs.lemmas.Result.{err_from_is_err_and}
use Rattle.text.specs.TextLines.{line_length}
use Rattle.text.proofs.ScanLaws.{line_most}
use Rattle.inventory.specs.Steps.{outcome}
use Rattle.replay.specs.Log.{body_of}
use Rattle.replay.specs.declared.events.Event.{Event}
use Rattle.replay.specs.Events.{GoesOn}
use Rattle.replay.specs.FirstLine.{opened_line}
use Rattle.replay.proofs.EventLaws.{part_body, opening_long, opening-none, opening_goes, opening_refused, goes_on_at}
use Rattle.replay.proofs.events.open.Goals as goal

-- the first line, which is ended
inside : (log : List ℕ) (n : ℕ) → n ≡ line_length log → n ≤ length log
inside log n e = omega (arith, e, line_most log)

unended : (log : List ℕ) (n : ℕ) → n ≡ line_length log → n ≢ 0 → line_length log ≢ 0
unended log n e q z = q (e ∙ z)

body : (log : List ℕ) (n : ℕ) → n ≡ line_length log → n ≢ 0 → take (n - 1) log ≡ body_of (take (line_length log) log)
body log n e q = let z = unended log n e q in
    ap (λ (m : ℕ). take m log) (let k : n - 1 ≡ 0 + line_length log - 1 - 0 = omega arith in k)
    ∙ part_body log 0 (omega arith) (omega (arith, z))

pub returns-then-log-gt-MAX_LISTED_LENGTH : goal.returns-then-log-gt-MAX_LISTED_LENGTH
returns-then-log-gt-MAX_LISTED_LENGTH c = sym (opening_long _ c.if-log-gt-MAX_LISTED_LENGTH.true)

pub returns-then-from-eq0 : goal.returns-then-from-eq0
returns-then-from-eq0 c = sym (opening-none _ c.if-log-gt-MAX_LISTED_LENGTH.false (sym c.line_length-from.ensures ∙ c.if-from-eq0.true))

pub slice_bounds-open_line-end : goal.slice_bounds-open_line-end
slice_bounds-open_line-end c = simp length-take (omega (arith, inside _ _ c.line_length-from.ensures))

pub returns-in_err-inventory : goal.returns-in_err-inventory
returns-in_err-inventory c = let log = c.args.log.now in let n = c.line_length-from.ensures in
    let p = err_from_is_err_and c.from_residual.result c.from_residual.ensures.1 in
    rw (p.1, p.2) (opening_refused log c.if-log-gt-MAX_LISTED_LENGTH.false (unended log _ n c.if-from-eq0.false)
    (c.in_err-inventory.ensures ∙ ap opened_line (body log _ n c.if-from-eq0.false)))

pub returns : goal.returns
returns c = let log = c.args.log.now in let n = c.line_length-from.ensures in
    subst (λ (e : Event). (e.over ≡ false) × GoesOn log e record { log = c.args.log; from = c.line_length-from.result; inventory = c.in_ok-inventory.inventory })
    (opening_goes log c.if-log-gt-MAX_LISTED_LENGTH.false (unended log _ n c.if-from-eq0.false) _ n
    (c.in_ok-inventory.ensures ∙ ap opened_line (body log _ n c.if-from-eq0.false)))
    (refl, goes_on_at log (outcome c.in_ok-inventory.inventory 0) _ refl refl)
