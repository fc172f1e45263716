-- `entries::is_dots` meets its contract: a longer name is neither, and of the others those of dots alone are.
-- Assumes nothing.
use mathlib.Core.Path.{sym, ◌∙◌}
use native.Mathlib.Omega.{arith}
use borrow.Author.Tests.{lt-leb}
use Rattle.entries.specs.Entry.{units_of}
use Rattle.entries.proofs.NameLaws.{length_units, dots_short, dots_long}
use Rattle.entries.proofs.is_dots.Goals as goal

pub returns-then-name-le-MAX_DOTS : goal.returns-then-name-le-MAX_DOTS
returns-then-name-le-MAX_DOTS c = let s = c.args.name.now in c.only_dots.ensures ∙ sym (dots_short (units_of s) (omega (arith, length_units s)) (omega (arith, length_units s)))

pub returns-else-name-le-MAX_DOTS : goal.returns-else-name-le-MAX_DOTS
returns-else-name-le-MAX_DOTS c = let s = c.args.name.now in
    lt-leb _ _ c.if-name-le-MAX_DOTS.false ∙ sym (dots_long (units_of s) (omega (arith, length_units s, c.requires.1)))
