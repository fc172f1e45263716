-- `catalog::drop_volume` meets its contract.
-- Assumes nothing.
use mathlib.Core.Path.{sym, ◌∙◌}
use native.Mathlib.Omega.{arith}
use Rattle.std.proofs.lemmas.Result.{err_from_is_err_and}
use Rattle.catalog.proofs.CallLaws.{mapped_ok, mapped_err, dropping, drop-over, drop_refuses}
use Rattle.catalog.proofs.drop_volume.Goals as goal

pub returns-in_err-place : goal.returns-in_err-place
returns-in_err-place c =
    let d = mapped_err _ c.plan_drop.result c.map_err.ensures.cases c.in_err-place.was in
    let p = err_from_is_err_and c.from_residual.result c.from_residual.ensures.1 in
    rw (p.1, p.2) (drop_refuses c.args.catalog.now c.args.number (sym c.plan_drop.ensures ∙ d.1) d.2)

pub remove_row-requires : goal.remove_row-requires
remove_row-requires c =
    let d = dropping _ _ (sym c.plan_drop.ensures ∙ mapped_ok _ c.plan_drop.result c.map_err.ensures.cases c.in_ok-place.was) in
    (d.within, d.fits)

pub overflow_sub-place : goal.overflow_sub-place
overflow_sub-place c =
    let d = dropping _ _ (sym c.plan_drop.ensures ∙ mapped_ok _ c.plan_drop.result c.map_err.ensures.cases c.in_ok-place.was) in
    omega (arith, d.volumes_low)

pub put_head-requires : goal.put_head-requires
put_head-requires c =
    let d = dropping _ _ (sym c.plan_drop.ensures ∙ mapped_ok _ c.plan_drop.result c.map_err.ensures.cases c.in_ok-place.was) in
    (d.entries_few, omega (arith, d.volumes_high))

pub overflow_sub-result : goal.overflow_sub-result
overflow_sub-result c =
    let d = dropping _ _ (sym c.plan_drop.ensures ∙ mapped_ok _ c.plan_drop.result c.map_err.ensures.cases c.in_ok-place.was) in
    omega (arith, d.within)

pub returns : goal.returns
returns c = drop-over _ _ (sym c.plan_drop.ensures ∙ mapped_ok _ c.plan_drop.result c.map_err.ensures.cases c.in_ok-place.was) c.remove_row.ensures c.put_head.ensures
