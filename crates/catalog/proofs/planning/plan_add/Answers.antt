-- `catalog::planning::plan_add` meets its contract.
-- Assumes nothing.
use mathlib.Core.Path.{ap}
use native.Mathlib.Omega.{arith}
use Rattle.catalog.specs.declared.checking.Counts.{Counts}
use Rattle.std.proofs.lemmas.Result.{err_from_is_err_and}
use Rattle.catalog.proofs.CatalogLaws.{find_tells, find_other, is_catalog_lem}
use Rattle.catalog.proofs.CallLaws.{plan_add_other, plan_add_is}
use Rattle.catalog.proofs.ReadLaws.{told}
use Rattle.catalog.proofs.planning.plan_add.Goals as goal

pub returns-in_err-counts : goal.returns-in_err-counts
returns-in_err-counts c =
    let o = find_other c.args.bytes.now _ c.find.ensures c.ok_or.ensures.value c.in_err-counts.was in
    let p = err_from_is_err_and c.from_residual.result c.from_residual.ensures.1 in
    rw (p.1, p.2, o.1) (plan_add_other c.args.bytes.now c.args.volume.now o.0)

pub locate-place-requires : goal.locate-place-requires
locate-place-requires c = find_tells _ _ c.find.ensures c.ok_or.ensures.value c.in_ok-counts.was

pub overflow_mul-counts : goal.overflow_mul-counts
overflow_mul-counts c =
    let t = find_tells c.args.bytes.now _ c.find.ensures c.ok_or.ensures.value c.in_ok-counts.was in
    omega (arith, (is_catalog_lem _ t.0).few, ap (λ (q : Counts). q.entries) t.1)

pub returns : goal.returns
returns c =
    let b = c.args.bytes.now in
    let t = find_tells b _ c.find.ensures c.ok_or.ensures.value c.in_ok-counts.was in
    plan_add_is b t.0 t.1 c.args.volume.now (told _ c.requires) c.locate-place.ensures c.part-list.ensures c.part-rows.ensures
    c.test-from_11.ensures c.test-from_26.ensures c.gives_rows.ensures c.test-from_25.ensures
    c.in_range.ensures c.test-number.ensures c.plan_by.ensures
