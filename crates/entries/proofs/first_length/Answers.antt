-- `entries::first_length` meets its contract.
-- Assumes nothing.
use Rattle.std.specs.Prelude.{Ok}
use mathlib.Core.Path.{sym, ap, ◌∙◌}
use Rattle.entries.proofs.EntryLaws.{is_entry, is_fault, length_end}
use Rattle.entries.proofs.first_length.Goals as goal

pub returns-in-Ok-Some : goal.returns-in-Ok-Some
returns-in-Ok-Some c = sym (is_entry (ap Ok (sym c.in-Ok-Some.field-0-is) ∙ c.in-Ok-Some.ensures)).length_is

pub returns-in-Ok-None : goal.returns-in-Ok-None
returns-in-Ok-None c = sym (length_end _ (ap Ok (sym c.in-Ok-None.field-0-is) ∙ c.in-Ok-None.ensures))

pub returns-in-Err : goal.returns-in-Err
returns-in-Err c = sym (is_fault c.in-Err.ensures).length_zero
