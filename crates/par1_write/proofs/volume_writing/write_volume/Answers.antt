-- `par1_write::write_volume` meets its contract: refused by the walk, by the tests, or for the room, and written.
-- Assumes nothing.
use Rattle.std.proofs.lemmas.Result.{err_from_is_err_and}
use mathlib.Core.Path.{refl, sym, ap, ◌∙◌}
use native.Mathlib.Omega.{arith}
use lib.ListN.{length}
use lib.Seq.{length-sets}
use borrow.Author.Tests.{leb-true, leb-false}
use Rattle.entries.proofs.WalkLaws.{walk_count, walk_refused}
use Rattle.refusals.specs.declared.Refusal.{Refusal}
use Rattle.refusals.proofs.TestLaws.{told_ok, told_err}
use Rattle.par1_write.proofs.VolumeWritingLaws.{volume_passed, volume_refused, volume_short, volume_over}
use Rattle.par1_write.proofs.volume_writing.write_volume.Goals as goal

pub returns-in_err-totals : goal.returns-in_err-totals
returns-in_err-totals c = let p = err_from_is_err_and c.from_residual.result c.from_residual.ensures.1 in
    let walk = c.in_err-totals.ensures in
    rw (p.1, p.2) (volume_refused _ _ _ _ _ _ walk refl (λ z. omega (arith, (walk_refused _ (sym walk)).low)))

pub returns-in_err-volume_tests : goal.returns-in_err-volume_tests
returns-in_err-volume_tests c = let r = c.from_residual-in_err-volume_tests in
    let p = err_from_is_err_and r.result r.ensures.1 in
    let t = told_err _ c.in_err-volume_tests.ensures in
    rw (p.1, p.2) (volume_refused _ _ _ _ _ _ c.in_ok-totals.ensures t.0 (λ z. t.1 (sym (ap (λ (r : Refusal). r.number) t.0) ∙ z)))

pub overflow_add-total-2 : goal.overflow_add-total-2
overflow_add-total-2 c = omega (arith, (volume_passed _ _ _ _ (told_ok _ c.in_ok-volume_tests.ensures)).size.high)

pub returns-in_err-refuse_unless : goal.returns-in_err-refuse_unless
returns-in_err-refuse_unless c = let r = c.from_residual-in_err-refuse_unless in
    let p = err_from_is_err_and r.result r.ensures.1 in
    let t = c.in_err-refuse_unless.ensures in
    rw (p.1, p.2) (volume_short _ _ _ _ _ _ c.in_ok-totals.ensures refl t.1 (told_ok _ c.in_ok-volume_tests.ensures) (leb-false _ _ t.0))

pub put_body-requires : goal.put_body-requires
put_body-requires c = leb-true _ _ c.in_ok-refuse_unless.ensures

pub put_head-requires : goal.put_head-requires
put_head-requires c = let room = leb-true _ _ c.in_ok-refuse_unless.ensures in (omega arith, omega (arith, simp length-sets at (ap length c.put_body.ensures)))

pub returns : goal.returns
returns c = volume_over _ _ _ _ _ _ c.in_ok-totals.ensures refl (told_ok _ c.in_ok-volume_tests.ensures) (leb-true _ _ c.in_ok-refuse_unless.ensures)
    (walk_count _ (sym c.in_ok-totals.ensures)) c.put_body.ensures c.put_head.ensures
