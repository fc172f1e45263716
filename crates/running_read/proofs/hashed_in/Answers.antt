-- `running_read::hashed_in` meets its contract: a part may be as long as all the bytes.
-- Assumes nothing.
use mathlib.Core.Path.{ap, ◌∙◌}
use mathlib.Core.List.{List}
use Prim.Native.Nat.{ℕ, ◌-◌}
use native.Mathlib.Omega.{arith}
use lib.ListN.{length, take, drop, length-drop}
use lib.Seq.{take_all}
use Rattle.running_read.proofs.hashed_in.Goals as goal

pub returns : goal.returns
returns c = let a = c.args in let s : List ℕ = a.bytes.now in
    c.part.ensures ∙ ap (λ (k : ℕ). take (length s) (drop k s)) c.saturating_sub-from.ensures
    ∙ take_all (length s) (drop (32 - a.total) s) (omega (arith, length-drop (32 - a.total) s))
