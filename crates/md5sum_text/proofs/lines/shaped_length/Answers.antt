-- `md5sum_text::lines::shaped_length` meets its contract.
-- Assumes nothing.
use mathlib.Core.Path.{◌≡◌, sym, ap, ◌∙◌}
use mathlib.Core.Bool.{Bool, cond}
use mathlib.Core.List.{List}
use Prim.Native.Nat.{ℕ}
use lib.ListN.{take, drop}
use Rattle.text.specs.TextLines.{line_length}
use Rattle.md5sum_text.specs.Lines.{is_shaped, shaped_length}
use Rattle.md5sum_text.proofs.lines.shaped_length.Goals as goal

-- n bytes to the line's end, the line, and whether that is of the right shape
shaped : (s : List ℕ) {line : List ℕ} {n : ℕ} {b r : Bool} → n ≡ line_length s → line ≡ take n s → b ≡ is_shaped line → b ≡ r → cond r n 0 ≡ shaped_length s
unfolding shaped_length
shaped s {n = n} size part test which =
    ap (λ (b : Bool). cond b n 0) (sym which ∙ test ∙ ap is_shaped part) ∙ ap (λ (m : ℕ). cond (is_shaped (take m s)) m 0) size

pub returns-then-is_shaped : goal.returns-then-is_shaped
returns-then-is_shaped c =
    shaped (drop c.args.at c.args.text.now) c.line_length-length.ensures c.part.ensures c.is_shaped.ensures c.if-is_shaped.true

pub returns-else-is_shaped : goal.returns-else-is_shaped
returns-else-is_shaped c =
    shaped (drop c.args.at c.args.text.now) c.line_length-length.ensures c.part.ensures c.is_shaped.ensures c.if-is_shaped.false
