-- `replay::first_line::read_numbers` meets its contract. The invariant: the words so far are numbers, which are read.
-- Assumes nothing.
use Rattle.std.proofs.Common.{rules, tests}
use mathlib.Core.Path.{sym, ap, ◌∙◌, subst}
use mathlib.Core.List.{List, [], ◌∷◌, map-append}
use Prim.Native.Nat.{ℕ, ◌+◌, min}
use lib.ListN.{set}
use lib.Dec.{eqb}
use Rattle.std.proofs.lemmas.Iterator.Consumers.{YieldsList-at, YieldsList-turn, YieldsList-end}
use Rattle.std.proofs.lemmas.Iterator.Splits.{YieldsList-from_slice_split}
use Rattle.text.specs.Buffer.{usize_max}
use Rattle.text.specs.Decimal.{value_of}
use Rattle.replay.proofs.FirstLineLaws.{not_first, Reads, reads_none, reads_more, reads_all, Stored, stored, unstored}
use Rattle.replay.proofs.first_line.read_numbers.Goals as goal
use Rattle.replay.proofs.first_line.read_numbers.Goals.{then-count-lt-MOST, else-count-lt-MOST}

pub loop-word-init : goal.loop-word-init
loop-word-init c = reads_none

pub returns-then-not-is_decimal : goal.returns-then-not-is_decimal
returns-then-not-is_decimal c = let l = c.loop-word in
    let turn = YieldsList-turn
    (YieldsList-at c.into_iter-word-iterator.ensures.into_iter_gives
    (YieldsList-from_slice_split _ (λ b. eqb b 32) c.args.line.now c.split-word-items.ensures.rest c.split-word-items.ensures.done c.split-word-items.ensures.closure (λ x r q k. search (rules, tests))))
    l.yielded _ l.yielded_by _ _ c.in-Some.word c.in-Some.is c.next.ensures.steps in
    not_first _ _ _ turn.0 turn.1 (sym c.is_decimal.ensures ∙ c.if-not-is_decimal.true)

pub loop-word-preserved : goal.loop-word-preserved
loop-word-preserved c = let l = c.loop-word in let w = c.in-Some.word in
    let there : Stored l.values l.count (min (value_of w.now) usize_max) c.if-count-lt-MOST.values = elim c.if-count-lt-MOST.branch [
      | then-count-lt-MOST z ↦ stored l.values l.count _ _ l.invariant.long z.if-count-lt-MOST.true (z.values-is ∙ ap (set l.values l.count) z.value_of.ensures)
      | else-count-lt-MOST z ↦ unstored l.values l.count _ _ l.invariant.long z.if-count-lt-MOST.false z.values-is
    ] in
    subst (λ (ws : List (List ℕ)). Reads ws (l.count + 1) c.if-count-lt-MOST.values) (sym (map-append (λ w. w.now) l.yielded (w ∷ [])))
    (reads_more _ l.count l.values l.invariant w.now (sym c.is_decimal.ensures ∙ c.if-not-is_decimal.false) _ there)

pub returns : goal.returns
returns c = let l = c.loop-word in
    let end = YieldsList-end
    (YieldsList-at c.into_iter-word-iterator.ensures.into_iter_gives
    (YieldsList-from_slice_split _ (λ b. eqb b 32) c.args.line.now c.split-word-items.ensures.rest c.split-word-items.ensures.done c.split-word-items.ensures.closure (λ x r q k. search (rules, tests))))
    l.yielded _ l.yielded_by _ _ c.in-None.is c.next.ensures.steps in
    reads_all _ _ _ _ end.0 l.invariant
