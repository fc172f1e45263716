-- `replay::lines::put_files` meets its contract. The invariant: the files among the first `k` are put, with spaces between.
-- Assumes nothing.
use mathlib.Core.Path.{◌≡◌, sym, ◌∙◌}
use native.Mathlib.Omega.{arith}
use Rattle.number_sets.specs.Sets.{member}
use Rattle.text.proofs.WriterLaws.{puts_then}
use Rattle.replay.specs.Lines.{files_of}
use Rattle.replay.proofs.LineLaws.{listed_none, listed_more, listed_same, line_any, line_none}
use Rattle.replay.proofs.lines.put_files.Goals as goal
use Rattle.replay.proofs.lines.put_files.Goals.{then-has, else-has}

pub loop-k-init : goal.loop-k-init
loop-k-init c = listed_none _ _ (omega arith)

pub loop-k-preserved : goal.loop-k-preserved
loop-k-preserved c = let l = c.loop-k in let test = member c.args.set in elim c.if-has.branch [
  | then-has b ↦ rw (b.writer-is, b.any-is) (listed_more test l.k l.invariant (sym c.has.ensures ∙ b.if-has.true) b.put_number.ensures)
  | else-has b ↦ rw (b.writer-is, b.any-is) (listed_same test l.k l.invariant (sym c.has.ensures ∙ b.if-has.false))
]

pub returns-then-any : goal.returns-then-any
returns-then-any c = let l = c.loop-k in let all : c.args.n ≡ l.k = omega arith in let ks = files_of l.k (member c.args.set) in
    rw (all, ← line_any ks (sym l.invariant.is ∙ c.if-any.true)) (puts_then l.invariant.puts c.put.ensures)

pub returns-else-any : goal.returns-else-any
returns-else-any c = let l = c.loop-k in let all : c.args.n ≡ l.k = omega arith in let ks = files_of l.k (member c.args.set) in
    rw (all, ← line_none ks (sym l.invariant.is ∙ c.if-any.false)) (puts_then l.invariant.puts c.put_bytes.ensures)
