-- `Writer::put_decimal` meets its contract.
-- Assumes nothing.
use mathlib.Core.Path.{◌≡◌}
use Prim.Native.Nat.{◌%◌}
use native.Mathlib.Omega.{arith}
use Rattle.text.proofs.DecimalLaws.{decimal_one, decimal_more}
use Rattle.text.proofs.WriterLaws.{puts_then}
use Rattle.text.proofs.writer.Writer.+put_decimal.Goals as goal
use Rattle.text.proofs.writer.Writer.+put_decimal.Goals.{then-n-ge10, else-n-ge10}

pub returns : goal.returns
returns t c = elim c.if-n-ge10.branch [
  | then-n-ge10 b ↦ let last = rw b.self-is at c.put.ensures in rw (decimal_more c.args.n (omega arith)) (puts_then b.put_decimal.ensures last)
  | else-n-ge10 b ↦ let one : c.args.n % 10 ≡ c.args.n = omega arith in
      let last = rw (b.self-is, one) at c.put.ensures in rw (decimal_one c.args.n (omega arith)) last
]
