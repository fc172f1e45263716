-- `catalog::planning::Place::insert_row` meets its contract.
-- Assumes nothing.
use Rattle.catalog.proofs.MoveLaws.{up_spread}
use Rattle.catalog.proofs.planning.Place.insert_row.Goals as goal

pub returns : goal.returns
returns c = let p = c.args.self in
    up_spread c.args.bytes.now p.to p.at c.args.row.now c.requires.0 c.requires.1 c.requires.2 c.move_up.ensures c.put.ensures
