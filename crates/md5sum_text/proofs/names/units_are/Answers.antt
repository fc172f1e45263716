-- `md5sum_text::names::units_are` meets its contract: how many the units are, then the units, held against the bytes of the text.
-- Assumes nothing.
use mathlib.Core.Path.{sym, ap, ◌∙◌}
use mathlib.Core.List.{map}
use native.Mathlib.Omega.{arith}
use Rattle.std.proofs.Common.{rules, tests}
use Rattle.std.proofs.lemmas.List.{map-id}
use Rattle.std.proofs.lemmas.Iterator.{YieldsList-from_slice, YieldsList-from_map}
use Rattle.std.proofs.lemmas.Iterator.Consumers.{YieldsList-from_first}
use Rattle.lent_bytes.specs.Equal.{equal}
use Rattle.entries.specs.Entry.{units_of}
use Rattle.md5sum_text.proofs.NameLaws.{same_lengths, eq_from_yields}
use Rattle.md5sum_text.proofs.names.units_are.Goals as goal

pub returns-else-name-text : goal.returns-else-name-text
returns-else-name-text c = search (rules, tests) ∙ sym (same_lengths c.args.name.now c.args.text.now (λ e. omega (arith, c.if-name-text.false)))

pub returns-then-name-text : goal.returns-then-name-text
returns-then-name-text c =
    eq_from_yields _ _ _ (map (λ b. b) c.args.text.now) c.eq.ensures.ran (YieldsList-from_first (λ u. u) (λ s. s) _ c.units_of.ensures)
    (YieldsList-from_map _ (λ b. b) (YieldsList-from_slice c.args.text.now (cc)) (cc) (λ x r q k. search rules))
    ∙ ap (equal (units_of c.args.name.now)) (map-id c.args.text.now)
