-- `entries::first` meets its contract: each test in its order, by the law for what it found.
-- Assumes nothing.
use mathlib.Core.Bool.{not}
use mathlib.Core.Path.{◌≡◌, sym, ap, ◌∙◌}
use Prim.Native.Nat.{ℕ}
use native.Mathlib.Omega.{arith}
use lib.ListN.{length, take, length-take}
use mathlib.Core.List.{List}
use mathlib.Core.Bool.{true}
use Rattle.entries.specs.Entry.{file_size_allowed, entry_size_allowed, name_allowed}
use Rattle.entries.proofs.EntryLaws.{some_left, Sized, sized, first_end, first_size, first_file_size, first_name, first_entry}
use borrow.Author.Tests.{eqb-true, not-true, not-false, le-leb, lt-leb}
use Rattle.lent_bytes.proofs.PartLaws.{part_to_end}
use lib.Seq.{length-take-le}
use Rattle.entries.proofs.first.Goals as goal

pub returns-then-is_empty : goal.returns-then-is_empty
returns-then-is_empty c = sym (first_end _ (eqb-true _ _ (sym c.is_empty.ensures ∙ c.if-is_empty.true)))

pub returns-then-not-entry_size_allowed : goal.returns-then-not-entry_size_allowed
returns-then-not-entry_size_allowed c = let s = c.args.list.now in sym (first_size s (some_left _ (sym c.is_empty.ensures ∙ c.if-is_empty.false)) c.read64-entry_size.ensures
    (sym c.entry_size_allowed.ensures ∙ not-true _ (ap not c.if-not-entry_size_allowed.true)))

pub slice_bounds-entry-end : goal.slice_bounds-entry-end
slice_bounds-entry-end c = simp length-take (omega (arith, (let h : Sized c.read64-entry_size.result (length c.args.list.now) = sized _ _ (let h : entry_size_allowed c.read64-entry_size.result (length c.args.list.now) ≡ true = sym c.entry_size_allowed.ensures ∙ not-false _ (ap not c.if-not-entry_size_allowed.false) in h) in h).high))

pub returns-then-size-gt-MAX_FILE_SIZE : goal.returns-then-size-gt-MAX_FILE_SIZE
returns-then-size-gt-MAX_FILE_SIZE c = let s = c.args.list.now in sym (first_file_size s (some_left _ (sym c.is_empty.ensures ∙ c.if-is_empty.false)) c.read64-entry_size.ensures (let h : entry_size_allowed c.read64-entry_size.result (length c.args.list.now) ≡ true = sym c.entry_size_allowed.ensures ∙ not-false _ (ap not c.if-not-entry_size_allowed.false) in h)
    (ap file_size_allowed (sym c.file_size_of-size.ensures) ∙ lt-leb _ _ c.if-size-gt-MAX_FILE_SIZE.true))

pub slice_bounds-name_allowed-count : goal.slice_bounds-name_allowed-count
slice_bounds-name_allowed-count c = let z = (let h : Sized c.read64-entry_size.result (length c.args.list.now) = sized _ _ (let h : entry_size_allowed c.read64-entry_size.result (length c.args.list.now) ≡ true = sym c.entry_size_allowed.ensures ∙ not-false _ (ap not c.if-not-entry_size_allowed.false) in h) in h) in simp length-take (omega (arith, z.high, z.low))

pub slice_bounds-name_allowed-start : goal.slice_bounds-name_allowed-start
slice_bounds-name_allowed-start c = let z = (let h : Sized c.read64-entry_size.result (length c.args.list.now) = sized _ _ (let h : entry_size_allowed c.read64-entry_size.result (length c.args.list.now) ≡ true = sym c.entry_size_allowed.ensures ∙ not-false _ (ap not c.if-not-entry_size_allowed.false) in h) in h) in simp length-take (omega (arith, z.high, z.low))

pub returns-then-not-name_allowed : goal.returns-then-not-name_allowed
returns-then-not-name_allowed c = let s = c.args.list.now in let name = c.name_allowed.ensures ∙ ap (λ (l : List ℕ). name_allowed l) (part_to_end (take c.read64-entry_size.result s) 56) in
    sym (first_name s (some_left _ (sym c.is_empty.ensures ∙ c.if-is_empty.false)) c.read64-entry_size.ensures (let h : entry_size_allowed c.read64-entry_size.result (length c.args.list.now) ≡ true = sym c.entry_size_allowed.ensures ∙ not-false _ (ap not c.if-not-entry_size_allowed.false) in h)
    (ap file_size_allowed (sym c.file_size_of-size.ensures) ∙ le-leb _ _ c.if-size-gt-MAX_FILE_SIZE.false) (sym name ∙ not-true _ (ap not c.if-not-name_allowed.true)))

pub returns : goal.returns
returns c = let s = c.args.list.now in let n = c.read64-entry_size.result in let name = c.name_allowed.ensures ∙ ap (λ (l : List ℕ). name_allowed l) (part_to_end (take n s) 56) in
    let found =
    first_entry s (some_left _ (sym c.is_empty.ensures ∙ c.if-is_empty.false)) c.read64-entry_size.ensures (let h : entry_size_allowed c.read64-entry_size.result (length c.args.list.now) ≡ true = sym c.entry_size_allowed.ensures ∙ not-false _ (ap not c.if-not-entry_size_allowed.false) in h)
    (ap file_size_allowed (sym c.file_size_of-size.ensures) ∙ le-leb _ _ c.if-size-gt-MAX_FILE_SIZE.false) (sym name ∙ not-false _ (ap not c.if-not-name_allowed.false)) in
    let size : n ≡ length (take n s) = sym (length-take-le n s (let h : Sized c.read64-entry_size.result (length c.args.list.now) = sized _ _ (let h : entry_size_allowed c.read64-entry_size.result (length c.args.list.now) ≡ true = sym c.entry_size_allowed.ensures ∙ not-false _ (ap not c.if-not-entry_size_allowed.false) in h) in h).high) in
    sym (found ∙ cc (size, c.status_of-status.ensures, c.file_size_of-size.ensures))
