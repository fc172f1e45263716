-- `catalog::records::row_at` meets its contract.
-- Assumes nothing.
use mathlib.Core.Path.{sym}
use mathlib.Core.List.{[]}
use Rattle.catalog.proofs.RecordLaws.{row_past, row_in}
use Rattle.catalog.proofs.records.row_at.Goals as goal

pub returns-in_default : goal.returns-in_default
returns-in_default c = let h = c.in_default.ensures.lookup in sym (row_past c.args.catalog.now c.args.i c.part.ensures c.as_chunks.ensures.front_len c.as_chunks.ensures.front h.3)

pub returns : goal.returns
returns c =
    let h = c.in-Some.ensures.lookup.3 in
    row_in c.args.catalog.now c.args.i c.part.ensures c.as_chunks.ensures.front_len c.as_chunks.ensures.front h.0 (h.1 [])
    c.read32.ensures c.read64.ensures c.copy_from_slice.ensures.after
