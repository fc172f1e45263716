-- `text::all_hex_digits` meets its contract.
-- Assumes nothing.
use mathlib.Core.Path.{sym, ◌∙◌}
use Rattle.std.proofs.Common.{rules}
use Rattle.std.proofs.lemmas.Iterator.{YieldsList-from_slice}
use Rattle.std.proofs.lemmas.Iterator.Search.{all_from_yields_List}
use Rattle.text.specs.Hex.{is_hex_digit, all_hex_digits}
use Rattle.text.proofs.AllLaws.{each_all}
use Rattle.text.proofs.all_hex_digits.Goals as goal

pub returns : goal.returns
unfolding all_hex_digits
returns c = all_from_yields_List is_hex_digit _ _ _ c.all.ensures.ran (YieldsList-from_slice c.args.word.now cc) (λ x b q k. search rules)
    ∙ sym (each_all is_hex_digit c.args.word.now)
