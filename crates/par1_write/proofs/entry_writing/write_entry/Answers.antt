-- `par1_write::write_entry` meets its contract: refused by the tests, refused for the room, and written.
-- Assumes nothing.
use Rattle.std.proofs.lemmas.Result.{err_from_is_err_and}
use mathlib.Core.Path.{refl}
use borrow.Author.Tests.{leb-true, leb-false}
use Rattle.refusals.proofs.TestLaws.{told_ok, told_err}
use Rattle.par1_write.proofs.EntryWritingLaws.{entry-refused, entry_short, entry-over}
use Rattle.par1_write.proofs.entry_writing.write_entry.Goals as goal

pub returns-in_err-entry_tests : goal.returns-in_err-entry_tests
returns-in_err-entry_tests c = let p = err_from_is_err_and c.from_residual.result c.from_residual.ensures.1 in
    let t = told_err _ c.in_err-entry_tests.ensures in rw (p.1, p.2) (entry-refused _ _ _ _ refl t.0 t.1 refl)

pub returns-in_err-refuse_unless : goal.returns-in_err-refuse_unless
returns-in_err-refuse_unless c = let r = c.from_residual-in_err-refuse_unless in
    let p = err_from_is_err_and r.result r.ensures.1 in
    let t = c.in_err-refuse_unless.ensures in
    rw (p.1, p.2) (entry_short _ _ _ _ refl t.1 (told_ok _ c.in_ok-entry_tests.ensures) (leb-false _ _ t.0))

pub returns : goal.returns
returns c = entry-over _ _ _ _ refl (told_ok _ c.in_ok-entry_tests.ensures) (leb-true _ _ c.in_ok-refuse_unless.ensures) c.put_entry.ensures
