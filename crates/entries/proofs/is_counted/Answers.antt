-- `entries::is_counted` meets its contract: a saved entry counts.
-- Assumes nothing.
use Rattle.entries.specs.Entry.{is_counted}
use Rattle.entries.proofs.is_counted.Goals as goal

pub returns : goal.returns
unfolding is_counted
returns c = c.is_saved.ensures
