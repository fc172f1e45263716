-- `catalog::checking::find` meets its contract.
-- Assumes nothing.
use mathlib.Core.Path.{refl, sym, ap, ◌∙◌}
use Rattle.catalog.specs.Plan.{entered_of}
use Rattle.catalog.proofs.CatalogLaws.{found_unheaded, found_unread, found_read}
use Rattle.catalog.proofs.checking.find.Goals as goal

pub returns-then-not-is_headed : goal.returns-then-not-is_headed
returns-then-not-is_headed c = found_unheaded c.args.bytes.now c.read32-entries.ensures c.read32-volumes.ensures c.if-not-is_headed.ensures

pub returns-in_err-saved : goal.returns-in_err-saved
returns-in_err-saved c =
    c.from_residual.ensures
    ∙ found_unread c.args.bytes.now c.read32-entries.ensures c.read32-volumes.ensures
    (sym (c.read_entries.ensures ∙ ap entered_of c.rows_at.ensures) ∙ c.in_err-saved.was)

pub returns : goal.returns
returns c =
    simp (c.then_some.ensures, c.volumes_allowed.ensures, c.rows_at-2.ensures) refl
    ∙ found_read c.args.bytes.now c.read32-entries.ensures c.read32-volumes.ensures c.if-not-is_headed.ensures
    (sym (c.read_entries.ensures ∙ ap entered_of c.rows_at.ensures) ∙ c.in_ok-saved.was)
