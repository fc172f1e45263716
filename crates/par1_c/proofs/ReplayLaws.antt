-- The answer to a replay.
--
--   replay_answerable     its number and its value are in range
--   replay_asked          the same, as what `answer` requires
--   replay_told, replay_determined, replay_gives     the claims
-- Assumes nothing.
use mathlib.Core.Path.{◌≡◌, sym, ap, ◌∙◌}
use mathlib.Core.Bool.{Bool, true, false, cond}
use mathlib.Core.List.{List}
use Prim.Native.Nat.{ℕ, ◌^◌, ◌<◌}
use native.Mathlib.Omega.{arith}
use lib.Dec.{leb}
use lib.ListN.{length}
use Rattle.refusals.specs.Tests.{bare}
use Rattle.refusals.specs.declared.Refusal.{Refusal}
use Rattle.lent_bytes.specs.Writing.{accepted, refused, written}
use Rattle.lent_bytes.specs.Writing.{Writing}
use Rattle.recovery.specs.Recoverable.{State}
use Rattle.replay.specs.Replay.{replay_of}
use Rattle.replay.proofs.Determined.{decided}
use Rattle.replay.proofs.EachReplayed.{each_replayed}
use Rattle.replay.proofs.Joined.{lines_there, lines_joined}
use Rattle.replay.proofs.Lengths.{text_fits}
use Rattle.parity.specs.Coefficient.{coefficient}
use Rattle.replay.specs.Replay.{Replayed}
use Rattle.par1_c.specs.Answers.{length_told, answered_length}
use Rattle.par1_c.specs.Claim.{ReplayTold, ReplayDetermined, ReplayGives}
use Rattle.par1_c.proofs.AnswerLaws.{Answerable, told, asked}

replay_answerable : (d : State → ℕ → Bool) (log out : List ℕ) → Answerable (length_told (written (replay_of d log) out).0)
unfolding written
replay_answerable d log out = go (leb (length (replay_of d log)) (length out))
  where
    go : (b : Bool) → Answerable (length_told (cond b (accepted (replay_of d log) out) (refused (bare 14) out)).0)
    go true = record { number_most = omega arith; place_most = text_fits d log }
    go false = record { number_most = omega arith; place_most = omega arith }

pub replay_asked : (log out : List ℕ) {w : Writing} {t : List ℕ} {r : Refusal} → Replayed coefficient log out (w, t) → r ≡ length_told w
    → (r.number < 32) × (r.place < 2 ^ 59)
replay_asked log out R e = let (d, D) = decided in
    asked (e ∙ ap (λ (p : Writing × List ℕ). length_told p.0) (R d D)) (replay_answerable d log out)

pub replay_told : ReplayTold
replay_told d log out = told _ (replay_answerable d log out)

pub replay_determined : ReplayDetermined
replay_determined log out r r' o o' R R' = let (d, D) = decided in
    let e = R d D ∙ sym (R' d D) in
    (ap (λ (p : ℕ × List ℕ). p.0) e, ap (λ (p : ℕ × List ℕ). p.1) e)

pub replay_gives : ReplayGives
replay_gives log text T out r out' R = let (d, D) = decided in
    let (lines, P) = lines_there log in
    R d D ∙ ap (λ (x : List ℕ). answered_length (written x out)) (sym (lines_joined log lines P d D) ∙ each_replayed.printed log text T lines P)
