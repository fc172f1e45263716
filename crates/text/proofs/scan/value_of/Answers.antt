-- `text::scan::value_of` meets its contract.
-- Assumes nothing.
use mathlib.Core.Path.{◌∙◌}
use Rattle.std.proofs.Common.{rules}
use Rattle.std.proofs.lemmas.Iterator.{YieldsList-from_slice}
use Rattle.std.proofs.lemmas.Iterator.Consumers.{fold_from_yields_List}
use Rattle.text.specs.Decimal.{value_of}
use Rattle.text.proofs.ScanLaws.{cut_digit, value_cut}
use Rattle.text.proofs.scan.value_of.Goals as goal

pub returns : goal.returns
unfolding value_of
returns c = fold_from_yields_List _ cut_digit _ _ c.fold.ensures.ran (YieldsList-from_slice c.args.digits.now cc) (λ v x b q k. search rules)
    ∙ value_cut c.args.digits.now 0
