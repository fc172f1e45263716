-- `md5sum_text::exports::put_line` meets its contract.
-- Assumes nothing.
use mathlib.Core.List.{flatten}
use Rattle.text.proofs.WriterLaws.{puts_then, puts_last}
use Rattle.md5sum_text.specs.Export.{line_for}
use Rattle.md5sum_text.proofs.exports.put_line.Goals as goal

pub put_units-requires : goal.put_units-requires
put_units-requires c = rw c.name_of.ensures c.requires

pub returns : goal.returns
unfolding line_for flatten
returns c = let sum = rw c.part.ensures at c.put_hex_bytes.ensures in let name = rw c.name_of.ensures at c.put_units.ensures in
    puts_then sum (puts_then c.put_bytes.ensures (puts_then name (puts_last c.put.ensures)))
