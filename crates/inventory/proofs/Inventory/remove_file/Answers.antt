-- `inventory::Inventory::remove_file` meets its contract.
-- Assumes nothing.
use mathlib.Core.Path.{refl, ap}
use mathlib.Core.Bool.{not}
use Rattle.std.proofs.lemmas.Result.{err_from_is_err_and}
use Rattle.inventory.specs.Steps.{in_range, of_other_code, while_quarantined, already}
use Rattle.inventory.specs.Steps.{after_change, change_step}
use Rattle.inventory.proofs.Outcomes.{files_returned, not_changed, number_same}
use Rattle.inventory.proofs.Inventory.remove_file.Goals as goal

pub returns-in_err-permitted : goal.returns-in_err-permitted
unfolding change_step in_range of_other_code while_quarantined already after_change
returns-in_err-permitted c = let p = err_from_is_err_and c.from_residual.result c.from_residual.ensures.1 in
    rw (p.1, p.2) (not_changed _ _ _ (number_same _ c.one_to.ensures refl refl (ap not c.has.ensures)) _ _ c.in_err-permitted.ensures)

pub returns : goal.returns
unfolding change_step in_range of_other_code while_quarantined already after_change
returns c = files_returned _ _ _ (number_same _ c.one_to.ensures refl refl (ap not c.has.ensures)) c.remove-self.ensures c.in_ok-permitted.ensures
