-- `catalog::add_read` meets its contract.
-- Assumes nothing.
use mathlib.Core.Path.{sym, ap, ◌∙◌}
use native.Mathlib.Omega.{arith}
use lib.ListN.{length}
use Rattle.std.proofs.lemmas.Result.{err_from_is_err_and}
use Rattle.catalog.proofs.ReadLaws.{told, made_row, length_control, length_volume_row}
use Rattle.catalog.proofs.CallLaws.{mapped_ok, mapped_err, volumes_few, adding, add_short, add_over, add_refuses}
use Rattle.catalog.proofs.add_read.Goals as goal

pub returns-in_err-place : goal.returns-in_err-place
returns-in_err-place c =
    let d = mapped_err _ c.plan_add.result c.map_err.ensures.cases c.in_err-place.was in
    let p = err_from_is_err_and c.from_residual.result c.from_residual.ensures.1 in
    rw (p.1, p.2) (add_refuses c.args.catalog.now c.args.volume.now c.requires (sym c.plan_add.ensures ∙ d.1) d.2)

pub overflow_add-total : goal.overflow_add-total
overflow_add-total c =
    let d = adding _ _ c.requires (sym c.plan_add.ensures ∙ mapped_ok _ c.plan_add.result c.map_err.ensures.cases c.in_ok-place.was) in
    omega (arith, d.to_is, d.catalog_is.few, volumes_few _ d.catalog_is)

pub returns-then-catalog-total : goal.returns-then-catalog-total
returns-then-catalog-total c =
    add_short _ _ c.requires (sym c.plan_add.ensures ∙ mapped_ok _ c.plan_add.result c.map_err.ensures.cases c.in_ok-place.was) c.bare.ensures
    c.if-catalog-total.true

pub row_of-row-requires : goal.row_of-row-requires
row_of-row-requires c = ap length c.part-hash.ensures ∙ length_control c.args.volume.now (told c.args.volume.now c.requires).long

pub insert_row-requires : goal.insert_row-requires
insert_row-requires c =
    let t = told _ c.requires in
    let d = adding _ _ c.requires (sym c.plan_add.ensures ∙ mapped_ok _ c.plan_add.result c.map_err.ensures.cases c.in_ok-place.was) in
    (d.within, c.if-catalog-total.false, ap length (made_row _ t c.part-hash.ensures c.row_of-row.ensures) ∙ length_volume_row _ t)

pub overflow_add-place : goal.overflow_add-place
overflow_add-place c =
    let d = adding _ _ c.requires (sym c.plan_add.ensures ∙ mapped_ok _ c.plan_add.result c.map_err.ensures.cases c.in_ok-place.was) in
    omega (arith, d.volumes_high)

pub put_head-requires : goal.put_head-requires
put_head-requires c =
    let d = adding _ _ c.requires (sym c.plan_add.ensures ∙ mapped_ok _ c.plan_add.result c.map_err.ensures.cases c.in_ok-place.was) in
    (d.entries_few, omega (arith, d.volumes_high))

pub returns : goal.returns
returns c =
    add_over _ _ c.requires (sym c.plan_add.ensures ∙ mapped_ok _ c.plan_add.result c.map_err.ensures.cases c.in_ok-place.was) c.if-catalog-total.false
    (made_row _ (told _ c.requires) c.part-hash.ensures c.row_of-row.ensures) c.insert_row.ensures c.put_head.ensures
