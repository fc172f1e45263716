-- There is a test that decides which files are recoverable; so what is promised of a replay determines it.
--
--   decided     the test
--   one_text    one text
--   one_line    one line after an event
-- Assumes nothing.
use mathlib.Core.Path.{◌≡◌, sym, ◌∙◌}
use mathlib.Core.Logic.{◌↔◌}
use mathlib.Core.Bool.{Bool, true, false}
use Prim.Native.Nat.{ℕ, ◌≤◌}
use native.Mathlib.Decide.{dec_le}
use Rattle.parity.specs.Coefficient.{coefficient}
use Rattle.parity.proofs.Coefficients.{coefficient_byte}
use Rattle.recovery.specs.Recoverable.{State, RecoverableNow}
use Rattle.recovery.proofs.Decided.{recoverable_decided}
use Rattle.replay.specs.Events.{at_end, refused, no_inventory, files}
use Rattle.replay.specs.Claim.{Decided, OneText, OneLine}
use Rattle.replay.proofs.EventLines.{line_refused, line_end, line_none, line_files}

-- a state of more files has none
test : (t : State) → Dec (t.n ≤ 254) → ℕ → Bool
test t (yes l) f = (recoverable_decided coefficient coefficient_byte t l f).0
test t (no q) f = false

test_decides : (t : State) (b : Dec (t.n ≤ 254)) → t.n ≤ 254 → (f : ℕ) → (test t b f ≡ true) ↔ RecoverableNow coefficient t f
unfolding test
test_decides t (yes l) h f = (recoverable_decided coefficient coefficient_byte t l f).1
test_decides t (no q) h f = absurd (q h)

pub decided : Decided
decided = (λ t f. test t (dec_le t.n 254) f, λ t l f. test_decides t (dec_le t.n 254) l f)

pub one_text : OneText
one_text log out r r' R R' = let (d, D) = decided in R d D ∙ sym (R' d D)

pub one_line : OneLine
one_line e l l' E (at_end z o) = line_end e l E z o
one_line e l l' E (refused q) = line_refused e l E q
one_line e l l' E (no_inventory z o v) = line_none e l E z o v
one_line e l l' E (files z o v r F) = line_files e l E z o v r F
