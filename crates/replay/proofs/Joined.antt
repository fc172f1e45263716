-- What a program prints line by line: there are such lines, and they are the text of the replay.
--
--   lines_there       for each log
--   ended-none        no line after the end
--   prints_joined     from an event on
--   lines_joined      from the first line on
-- Assumes nothing.
use mathlib.Core.Path.{◌≡◌, refl, sym, ap, ◌∙◌}
use mathlib.Core.Bool.{Bool, true, false, true≢false}
use mathlib.Core.List.{List, [], ◌∷◌, ◌++◌, flatten, append-nil}
use Prim.Native.Nat.{ℕ, zero, suc, ◌-◌, ◌<◌}
use native.Mathlib.Nat.{not-suc-le-zero}
use native.Mathlib.Omega.{arith}
use lib.ListN.{length}
use Rattle.parity.specs.Coefficient.{coefficient, rule_of}
use Rattle.recovery.specs.Recoverable.{State}
use Rattle.replay.specs.Replay.{Decides, replay_of}
use Rattle.replay.specs.Events.{opening, next_event, Prints, ends, goes_on}
use Rattle.replay.specs.Claim.{LogPrints, at_once, by_events, LinesThere, LinesJoined}
use Rattle.replay.specs.declared.events.Event.{Event}
use Rattle.replay.proofs.EventLines.{line_refused, line_there}
use Rattle.replay.proofs.ReplayLaws.{Stands, lines_from, opening_starts, Follows, next_follows, next_goes}

-- ---- there are lines

-- as long as an event goes on there is less of the log
prints_there : (log : List ℕ) (m : ℕ) (e : Event) → (e.over ≡ false → length log - e.from < m)
    → (lines : List (List ℕ)) × Prints rule_of log e lines
prints_there log zero e h = by e.over refl
  where
    by : (b : Bool) → e.over ≡ b → (lines : List (List ℕ)) × Prints rule_of log e lines
    by true o = ([], ends o)
    by false o = absurd (not-suc-le-zero (h o))
prints_there log (suc m) e h = by e.over refl (prints_there log m (next_event log e.from e.inventory))
  where
    next : Event
    next = next_event log e.from e.inventory

    by : (b : Bool) → e.over ≡ b
        → ((next.over ≡ false → length log - next.from < m) → (lines : List (List ℕ)) × Prints rule_of log next lines)
        → (lines : List (List ℕ)) × Prints rule_of log e lines
    by true o more = ([], ends o)
    by false o more = let (line, E) = line_there next in
        let less = h o in
        let (lines, P) = more (λ y. let on = next_goes log e.from e.inventory next refl y in omega arith) in
        (line ∷ lines, goes_on o E P)

pub lines_there : LinesThere
lines_there log = go (opening log).over refl
  where
    go : (b : Bool) → (opening log).over ≡ b → (lines : List (List ℕ)) × LogPrints rule_of log lines
    go true o = let (line, E) = line_there (opening log) in (line ∷ [], at_once o E)
    go false o = let (lines, P) = prints_there log (suc (length log)) (opening log) (λ _. omega arith) in (lines, by_events o P)

-- ---- they are the text

module _ (d : State → ℕ → Bool) (D : Decides coefficient d) (log : List ℕ) where
  ended-none : (e : Event) (lines : List (List ℕ)) → Prints rule_of log e lines → e.over ≡ true → lines ≡ []
  ended-none e lines (ends y) o = refl
  ended-none e lines (goes_on y E more) o = absurd (true≢false (sym o ∙ y))

  prints_joined : (size : ℕ → ℕ) (t : State) (e : Event) (lines : List (List ℕ)) → Stands size t e.inventory → e.over ≡ false
      → Prints rule_of log e lines → flatten lines ≡ lines_from d t log e.from
  unfolding flatten
  prints_joined size t e lines R o (ends y) = absurd (true≢false (sym y ∙ o))
  prints_joined size t e (line ∷ lines) R o (goes_on y E more) =
      after (next_event log e.from e.inventory).over refl (next_follows size t log e.from e.inventory R line E) more
      (λ t' R' v. prints_joined size t' (next_event log e.from e.inventory) lines R' v more)
    where
      next : Event
      next = next_event log e.from e.inventory

      after : (b : Bool) → next.over ≡ b → Follows size t log e.from next line → Prints rule_of log next lines
          → ((t' : State) → Stands size t' next.inventory → next.over ≡ false → flatten lines ≡ lines_from d t' log next.from)
          → line ++ flatten lines ≡ lines_from d t log e.from
      after true v F p rest = ap (λ (ls : List (List ℕ)). line ++ flatten ls) (ended-none next lines p v) ∙ append-nil line ∙ sym (F.ends v d D)
      after false v F p rest = let (t', R', h) = F.goes v in
          ap (λ (l : List ℕ). line ++ l) (rest t' R' v) ∙ sym (h d D)

  log_joined : (lines : List (List ℕ)) → LogPrints rule_of log lines → flatten lines ≡ replay_of d log
  unfolding flatten
  log_joined lines (at_once {line} o E) = let (q, h) = (opening_starts log).refusal o in
      append-nil line ∙ line_refused (opening log) line E q ∙ sym (h d)
  log_joined lines (by_events o P) = let (size, t, R, h) = (opening_starts log).goes o in
      prints_joined size t (opening log) lines R o P ∙ sym (h d)

pub lines_joined : LinesJoined
lines_joined log lines P d D = log_joined d D log lines P
