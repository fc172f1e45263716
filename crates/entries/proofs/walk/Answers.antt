-- `entries::walk` meets its contract. The loop's invariant: the walk over what remains, from the totals so far, is the whole walk.
-- Assumes nothing.
use Rattle.std.specs.Prelude.{Some, Ok, Err}
use mathlib.Core.Path.{◌≡◌, sym, ap, ◌∙◌}
use native.Mathlib.Omega.{arith}
use mathlib.Core.List.{List}
use Prim.Native.Nat.{ℕ, ◌+◌, ◌-◌, ◌^◌, ◌<◌}
use lib.ListN.{length, take, drop}
use Rattle.lent_bytes.proofs.PartLaws.{part_to_end}
use Rattle.entries.specs.Walk.{first_of, saturating_add_entry}
use Rattle.entries.specs.declared.Entry.{Entry}
use Rattle.entries.specs.declared.Totals.{Totals}
use Rattle.entries.proofs.EntryLaws.{is_end, is_entry, is_fault}
use Rattle.entries.proofs.WalkLaws.{add_fits, walk_start, no_totals, walk_end, walk_fault, Walks, walks}
use Rattle.entries.proofs.walk.Goals as goal

pub loop-entry-init : goal.loop-entry-init
loop-entry-init c = rw (no_totals c.default-totals.result c.default-totals.ensures) (omega arith, omega arith, walk_start c.args.list.now)

module _ (s : List ℕ) {t u : Totals} {e : Entry} (i : Ok (Some e) ≡ first_of s) (sum : u ≡ saturating_add_entry t e.status e.size) where
  step : t.entries + length s < 2 ^ 64 → t.saved + length s < 2 ^ 64 → Walks s (take (length s - e.length) (drop e.length s)) t u
  step entries_fit saved_fit = let here = is_entry i in
      walks here (part_to_end s e.length)
      (sum ∙ add_fits t e.status e.size (omega (arith, here.low, here.high)) (omega (arith, here.low, here.high)))

pub slice_bounds-rest-count : goal.slice_bounds-rest-count
slice_bounds-rest-count c = (is_entry (ap Ok (sym c.in-Ok-Some.field-0-is) ∙ c.in-Ok-Some.ensures)).high

pub slice_bounds-rest-start : goal.slice_bounds-rest-start
slice_bounds-rest-start c = (is_entry (ap Ok (sym c.in-Ok-Some.field-0-is) ∙ c.in-Ok-Some.ensures)).high

pub loop-entry-smaller : goal.loop-entry-smaller
loop-entry-smaller c = omega (arith, (step _ (ap Ok (sym c.in-Ok-Some.field-0-is) ∙ c.in-Ok-Some.ensures) c.add.ensures (omega arith) (omega arith)).length_is)

pub loop-entry-preserved : goal.loop-entry-preserved
loop-entry-preserved c = let l = c.loop-entry in
    let w = step _ (ap Ok (sym c.in-Ok-Some.field-0-is) ∙ c.in-Ok-Some.ensures) c.add.ensures (omega arith) (omega arith) in
    (omega (arith, w.length_is, w.added.entries_is), omega (arith, w.length_is, w.added.saved_most), w.walk_is ∙ l.invariant.2)

pub returns-in-Ok-None : goal.returns-in-Ok-None
returns-in-Ok-None c = let l = c.loop-entry in sym (walk_end l.totals (is_end (ap Ok (sym c.in-Ok-None.field-0-is) ∙ c.in-Ok-None.ensures))) ∙ l.invariant.2

pub returns-in-Err : goal.returns-in-Err
returns-in-Err c = let l = c.loop-entry in let refused = walk_fault l.totals (is_fault c.in-Err.ensures) in
    ap Err c.at.ensures ∙ sym refused ∙ l.invariant.2
