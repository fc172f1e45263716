-- `catalog::records::loading` meets its contract.
-- Assumes nothing.
use Rattle.std.proofs.lemmas.Result.{err_from_is_err_and}
use Rattle.catalog.proofs.CatalogLaws.{find_tells, find_other}
use Rattle.catalog.proofs.CallLaws.{loading_other, loading_short, loading_whole}
use Rattle.catalog.proofs.records.loading.Goals as goal

pub returns-in_err-counts : goal.returns-in_err-counts
returns-in_err-counts c =
    let o = find_other c.args.catalog.now _ c.find.ensures c.ok_or.ensures.value c.in_err-counts.was in
    let p = err_from_is_err_and c.from_residual.result c.from_residual.ensures.1 in
    rw (p.1, p.2, o.1) (loading_other c.args.catalog.now c.args.room o.0 c.bare.ensures)

pub returns-then-room-counts : goal.returns-then-room-counts
returns-then-room-counts c =
    let t = find_tells c.args.catalog.now _ c.find.ensures c.ok_or.ensures.value c.in_ok-counts.was in
    loading_short _ c.args.room t.0 t.1 c.if-room-counts.true c.bare-then-room-counts.ensures

pub returns : goal.returns
returns c =
    let t = find_tells c.args.catalog.now _ c.find.ensures c.ok_or.ensures.value c.in_ok-counts.was in
    loading_whole _ c.args.room t.0 t.1 c.if-room-counts.false
