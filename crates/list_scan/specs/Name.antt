-- The name of an entry, as its units come in.
--
--   name_start         what is known of a name before any unit
--   name_unit n u      what is known of a name with the unit u more, where n was known before it
--   name_units n us    the same with the units us
--   name_ended n m     whether the name of an entry of m bytes is allowed, where n is known of all its units
-- Assumes nothing.
use Rattle.std.specs.Prelude.{ℕ, Bool, true, not, ◌&&◌, List, nat_le}
use Rattle.entries.specs.Entry.{unit_allowed, units_allowed, is_dot, only_dots}
use Rattle.list_scan.specs.declared.NameSoFar.{NameSoFar}

abbrev pub name_start : NameSoFar
name_start = record { allowed = true; dots = true }

abbrev pub name_unit : NameSoFar → ℕ → NameSoFar
name_unit n u = record { allowed = n.allowed && unit_allowed u; dots = n.dots && is_dot u }

abbrev pub name_units : NameSoFar → List ℕ → NameSoFar
name_units n us = record { allowed = n.allowed && units_allowed us; dots = n.dots && only_dots us }

-- the entry of the name "." has 58 bytes, and that of ".." has 60
unfoldable pub name_ended : NameSoFar → ℕ → Bool
name_ended n m = n.allowed && not (n.dots && nat_le m 60)
