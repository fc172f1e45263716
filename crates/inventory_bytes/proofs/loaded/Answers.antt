-- `inventory_bytes::loaded` meets its contract.
-- Assumes nothing.
use mathlib.Core.Path.{◌≡◌, sym, ap, ◌∙◌}
use mathlib.Core.Bool.{true}
use Rattle.codes.specs.Codes.{is_code}
use Rattle.inventory_bytes.specs.Inventories.{code_number_in}
use Rattle.inventory_bytes.proofs.BackLaws.{inventory_of_lem, other_length, other_number}
use Rattle.inventory_bytes.proofs.loaded.Goals as goal

pub returns-then-bytes-ne-LENGTH : goal.returns-then-bytes-ne-LENGTH
returns-then-bytes-ne-LENGTH c = c.zeros.ensures ∙ sym (other_length _ c.if-bytes-ne-LENGTH.true)

pub returns-in_default : goal.returns-in_default
returns-in_default c = c.zeros-in_default.ensures ∙ sym (other_number _ (ap is_code (sym c.read64.ensures) ∙ c.in_default.ensures))

pub returns : goal.returns
returns c = let b = c.args.bytes.now in let one : is_code (code_number_in b) ≡ true = ap is_code (sym c.read64.ensures) ∙ c.in-Ok.ensures.0 in
    cc (inventory_of_lem b c.if-bytes-ne-LENGTH.false one, c.in-Ok.ensures.1)
