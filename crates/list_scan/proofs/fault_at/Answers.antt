-- `list_scan::fault_at` meets its contract: the rules in their order.
-- Assumes nothing.
use mathlib.Core.Bool.{not}
use mathlib.Core.Path.{ap}
use Rattle.std.proofs.Common.{◌≡◌, cond, sym, ◌∙◌, le-leb}
use borrow.Author.Tests.{not-true, not-false, lt-leb}
use Rattle.entries.specs.Entry.{file_size_allowed}
use Rattle.entries.specs.declared.Fault.TheVariants.{FileSize, Name}
use Rattle.list_scan.specs.Found.{fault_at}
use Rattle.list_scan.proofs.fault_at.Goals as goal

pub returns-then-not-entry_size_allowed : goal.returns-then-not-entry_size_allowed
unfolding fault_at
returns-then-not-entry_size_allowed c = simp (sym c.read64.ensures, sym c.entry_size_allowed.ensures ∙ not-true _ (ap not c.if-not-entry_size_allowed.true))

pub returns-then-file_size_of-gt-MAX_FILE_SIZE : goal.returns-then-file_size_of-gt-MAX_FILE_SIZE
unfolding fault_at
returns-then-file_size_of-gt-MAX_FILE_SIZE c = simp ((let h : let a = c.args in fault_at a.head.now a.at ≡ cond (file_size_allowed c.file_size_of.result) Name FileSize = simp (sym c.read64.ensures, sym c.entry_size_allowed.ensures ∙ not-false _ (ap not c.if-not-entry_size_allowed.false), sym c.file_size_of.ensures) in h), lt-leb _ _ c.if-file_size_of-gt-MAX_FILE_SIZE.true)

pub returns : goal.returns
unfolding fault_at
returns c = simp ((let h : let a = c.args in fault_at a.head.now a.at ≡ cond (file_size_allowed c.file_size_of.result) Name FileSize = simp (sym c.read64.ensures, sym c.entry_size_allowed.ensures ∙ not-false _ (ap not c.if-not-entry_size_allowed.false), sym c.file_size_of.ensures) in h), le-leb _ _ c.if-file_size_of-gt-MAX_FILE_SIZE.false)
