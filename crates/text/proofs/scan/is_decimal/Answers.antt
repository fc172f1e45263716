-- `text::scan::is_decimal` meets its contract.
-- Assumes nothing.
use mathlib.Core.Path.{sym, ◌∙◌}
use Rattle.std.proofs.Common.{rules}
use native.Mathlib.Omega.{arith}
use Rattle.text.proofs.ScanLaws.{decimal-none, decimal_zero, decimal_by_digits}
use Rattle.text.proofs.scan.is_decimal.Goals as goal

pub returns-in-empty : goal.returns-in-empty
returns-in-empty c = sym (decimal-none c.args.word.now (omega arith))

pub returns-in-48 : goal.returns-in-48
returns-in-48 c = sym (decimal_zero c.args.word.now c.in-48.len_at_least (search rules))

pub returns-in_default : goal.returns-in_default
returns-in_default c = c.all_digits.ensures ∙ sym (decimal_by_digits c.args.word.now c.in_default.len_at_least (search rules))
