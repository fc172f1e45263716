-- The entries of a file that md5sum text can name (document 02, 2026-07: "Only names with units 32 to 126 fit a line; in an import other
-- entries have no line").
--
--   unit_fits u, units_fit us   whether a unit fits a line, and whether each of the units us does
--   text_of e         the name of the entry e as text: its units
--   is_fitting e      whether that fits a line
--   sum_of e          the MD5 of its file as text: 32 digits
--   is_named l e      whether the line l names the entry e
-- Assumes nothing.
use Rattle.std.specs.Prelude.{ℕ, Bool, ◌&&◌, List, leb}
use Rattle.entries.specs.Entry.{md5_of, name_of, units_of}
use Rattle.lent_bytes.specs.Each.{each}
use Rattle.lent_bytes.specs.Equal.{equal}
use Rattle.text.specs.Hex.{hex_bytes}
use Rattle.md5sum_text.specs.Lines.{name_in}

abbrev pub unit_fits : ℕ → Bool
unit_fits u = leb 32 u && leb u 126

abbrev pub units_fit : List ℕ → Bool
units_fit us = each unit_fits us

abbrev pub text_of : List ℕ → List ℕ
text_of e = units_of (name_of e)

abbrev pub is_fitting : List ℕ → Bool
is_fitting e = units_fit (text_of e)

abbrev pub sum_of : List ℕ → List ℕ
sum_of e = hex_bytes (md5_of e)

unfoldable pub is_named : List ℕ → List ℕ → Bool
is_named l e = is_fitting e && equal (text_of e) (name_in l)
