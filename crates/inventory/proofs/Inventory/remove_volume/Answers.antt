-- `inventory::Inventory::remove_volume` meets its contract.
-- Assumes nothing.
use mathlib.Core.Path.{◌≡◌, refl, sym, ap, ◌∙◌}
use mathlib.Core.Bool.{Bool, not, ◌||◌}
use Rattle.std.proofs.lemmas.Result.{err_from_is_err_and}
use Rattle.number_sets.specs.Sets.{member}
use Rattle.inventory.specs.Steps.{in_range, of_other_code, while_quarantined, already}
use Rattle.inventory.specs.Steps.{after_change, change_step}
use Rattle.inventory.proofs.Outcomes.{volumes_returned, not_changed, number_same}
use Rattle.inventory.proofs.Inventory.remove_volume.Goals as goal
use Rattle.inventory.proofs.Inventory.remove_volume.Goals.{then-has, else-has}

pub returns-in_err-permitted : goal.returns-in_err-permitted
unfolding change_step in_range of_other_code while_quarantined already after_change
returns-in_err-permitted c = let s = c.args.self in let q = member s.quarantined c.args.volume in
    let held : c.if-has.held ≡ (member s.volumes c.args.volume || q) = elim c.if-has.branch [
      | then-has w ↦ w.held-is ∙ w.if-has.true ∙ sym (ap (λ (b : Bool). b || q) (sym c.has.ensures ∙ w.if-has.true))
      | else-has w ↦ w.held-is ∙ w.has-held.ensures ∙ sym (ap (λ (b : Bool). b || q) (sym c.has.ensures ∙ w.if-has.false))
    ] in
    let p = err_from_is_err_and c.from_residual.result c.from_residual.ensures.1 in
    rw (p.1, p.2) (not_changed _ _ _ (number_same _ c.is_volume.ensures refl refl (ap not held)) _ _ c.in_err-permitted.ensures)

pub returns : goal.returns
unfolding change_step in_range of_other_code while_quarantined already after_change
returns c = let s = c.args.self in let q = member s.quarantined c.args.volume in
    let held : c.if-has.held ≡ (member s.volumes c.args.volume || q) = elim c.if-has.branch [
      | then-has w ↦ w.held-is ∙ w.if-has.true ∙ sym (ap (λ (b : Bool). b || q) (sym c.has.ensures ∙ w.if-has.true))
      | else-has w ↦ w.held-is ∙ w.has-held.ensures ∙ sym (ap (λ (b : Bool). b || q) (sym c.has.ensures ∙ w.if-has.false))
    ] in
    volumes_returned s _ _ (number_same _ c.is_volume.ensures refl refl (ap not held)) c.remove-self.ensures c.remove-self-2.ensures c.in_ok-permitted.ensures
