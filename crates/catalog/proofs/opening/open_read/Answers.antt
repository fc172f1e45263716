-- `catalog::opening::open_read` meets its contract.
-- Assumes nothing.
use mathlib.Core.Path.{ap, ◌∙◌}
use Prim.Native.Nat.{ℕ}
use native.Mathlib.Omega.{arith}
use lib.ListN.{length}
use mathlib.Core.List.{List}
use Rattle.catalog.proofs.ReadLaws.{told}
use Rattle.catalog.proofs.CallLaws.{open_many, open_short, open_over}
use Rattle.entries.specs.Walk.{entries_of}
use Rattle.catalog.proofs.opening.open_read.Goals as goal

pub returns-then-parts-gt-MAX_ENTRIES : goal.returns-then-parts-gt-MAX_ENTRIES
returns-then-parts-gt-MAX_ENTRIES c = open_many c.args.file.now c.args.out.now c.requires c.if-parts-gt-MAX_ENTRIES.true c.bare.ensures

pub returns-then-out-total : goal.returns-then-out-total
returns-then-out-total c = open_short c.args.file.now c.args.out.now c.requires c.if-parts-gt-MAX_ENTRIES.false c.if-out-total.true c.bare-then-out-total.ensures

pub put_rows-requires : goal.put_rows-requires
put_rows-requires c = let t = told c.args.file.now c.requires in
    let es = ap (λ (q : List ℕ). length (entries_of q).pieces) (c.part-list.ensures ∙ t.list_is) in
    omega (arith, es, t.entries_are, c.put_head.auto.out, c.if-out-total.false)

pub returns : goal.returns
returns c = open_over c.args.file.now c.args.out.now c.requires c.if-parts-gt-MAX_ENTRIES.false c.if-out-total.false c.part-list.ensures
    c.put_head.ensures c.put_rows.ensures
