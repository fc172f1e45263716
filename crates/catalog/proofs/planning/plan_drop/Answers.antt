-- `catalog::planning::plan_drop` meets its contract.
-- Assumes nothing.
use Rattle.std.proofs.lemmas.Result.{err_from_is_err_and}
use Rattle.catalog.proofs.CatalogLaws.{find_tells, find_other}
use Rattle.catalog.proofs.CallLaws.{plan_drop_other, plan_drop_is}
use Rattle.catalog.proofs.planning.plan_drop.Goals as goal

pub returns-in_err-counts : goal.returns-in_err-counts
returns-in_err-counts c =
    let o = find_other c.args.bytes.now _ c.find.ensures c.ok_or.ensures.value c.in_err-counts.was in
    let p = err_from_is_err_and c.from_residual.result c.from_residual.ensures.1 in
    rw (p.1, p.2, o.1) (plan_drop_other c.args.bytes.now c.args.number o.0)

pub locate-place-requires : goal.locate-place-requires
locate-place-requires c = find_tells _ _ c.find.ensures c.ok_or.ensures.value c.in_ok-counts.was

pub returns : goal.returns
returns c =
    let b = c.args.bytes.now in
    let t = find_tells b _ c.find.ensures c.ok_or.ensures.value c.in_ok-counts.was in
    plan_drop_is b t.0 t.1 c.args.number c.locate-place.ensures c.test-from_11.ensures c.in_range.ensures c.test-refusal.ensures c.plan_by.ensures
