-- `catalog::checking::read_entries` meets its contract.
-- Assumes nothing.
use mathlib.Core.Path.{sym, ◌∙◌}
use native.Mathlib.Omega.{arith}
use lib.ListN.{drop_of_length-le}
use Rattle.catalog.proofs.CheckLaws.{entered_start, entered_end, entered_stop, entered_more, entered_same}
use Rattle.catalog.proofs.checking.read_entries.Goals as goal
use Rattle.catalog.proofs.checking.read_entries.Goals.{then-number-ne0, else-number-ne0}

pub loop-row-init : goal.loop-row-init
loop-row-init c = (omega arith, entered_start c.args.rows.now)

pub returns-then-not-entry_allowed : goal.returns-then-not-entry_allowed
returns-then-not-entry_allowed c =
    let l = c.loop-row in
    sym (entered_stop l.saved l.greatest _ _ c.loop-row-test.true c.number_of-number.ensures c.size_of-size.ensures (sym c.if-not-entry_allowed.ensures))
    ∙ l.invariant.1

pub loop-row-preserved : goal.loop-row-preserved
loop-row-preserved c =
    let l = c.loop-row in
    let right = sym c.if-not-entry_allowed.ensures in
    elim c.if-number-ne0.branch [
      | then-number-ne0 w ↦ (
        omega (arith, l.invariant.0),
        entered_more l.saved l.greatest _ _ c.loop-row-test.true c.number_of-number.ensures c.size_of-size.ensures right w.if-number-ne0.true
            w.saved-is (w.greatest-is ∙ w.max-greatest.ensures) ∙ l.invariant.1,
      )
      | else-number-ne0 w ↦ (
        omega (arith, l.invariant.0),
        entered_same l.saved l.greatest _ _ c.loop-row-test.true c.number_of-number.ensures c.size_of-size.ensures right w.if-number-ne0.false
            w.saved-is w.greatest-is ∙ l.invariant.1,
      )
    ]

pub returns : goal.returns
returns c =
    let l = c.loop-row in
    c.then_some.ensures ∙ entered_end l.saved l.greatest (drop_of_length-le c.args.rows.now (omega arith)) ∙ l.invariant.1
