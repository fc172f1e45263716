-- Each line that a program prints fits its room.
--
--   next_small, opening_small     the numbers of refusals
--   lines_fit                     each line is at most 1,024 bytes long
-- Assumes nothing.
use mathlib.Core.Path.{◌≡◌, refl, sym, ◌∙◌}
use mathlib.Core.Bool.{Bool, true, false, cond, true≢false}
use mathlib.Core.List.{List, ◌∷◌}
use Prim.Native.Nat.{ℕ, ◌+◌, ◌<◌, ◌≤◌}
use native.Mathlib.Omega.{arith}
use lib.Dec.{leb, eqb}
use lib.ListN.{length, get_or, take, drop}
use Rattle.cut_lists.specs.All.{All, all_none, all_more}
use Rattle.number_sets.specs.Sets.{member}
use Rattle.parity.specs.Coefficient.{rule_of}
use Rattle.codes.specs.declared.Code.TheVariants.{Powers}
use Rattle.recovery.specs.Recoverable.{State}
use Rattle.inventory.specs.Model.{Change}
use Rattle.inventory.specs.Steps.{is_inventory, if_inventory, in_range, of_other_code, while_quarantined, already, change_number, change_step, open_step}
use Rattle.inventory.specs.declared.Inventory.{Inventory}
use Rattle.inventory.specs.Outcome.{Outcome}
use Rattle.inventory.proofs.ValidInventories.{few_files}
use Rattle.text.specs.TextLines.{line_length}
use Rattle.replay.specs.Log.{body_of, is_first_line, numbers_of, change_of, is_event_line, number_in}
use Rattle.replay.specs.Events.{ended, opened_by, opening, last, taken, next_event, EventLine, at_end, refused, no_inventory, files, Prints, ends, goes_on}
use Rattle.replay.specs.Claim.{at_once, by_events, LinesFit}
use Rattle.replay.specs.declared.events.Event.{Event}
use Rattle.replay.proofs.ReplayLaws.{Stands, opening_starts, Follows, next_follows}
use Rattle.replay.proofs.Lengths.{files_short, refused_short, opening_small}

change_small : (c : Change) (s : Inventory) (k : ℕ) → (change_step c s k).number < 1000
unfolding change_step if_inventory change_number
change_small c s k =
    go (is_inventory s) (in_range c s.n k) (of_other_code c s.code) (while_quarantined c (member s.quarantined) k)
    (already c (member s.files) (member s.volumes) (member s.quarantined) k)
  where
    go : (v r o a b : Bool) → cond v (cond r (cond o 29 (cond a 27 (cond b 11 0))) 10) 10 < 1000
    go false r o a b = omega arith
    go true false o a b = omega arith
    go true true true a b = omega arith
    go true true false true b = omega arith
    go true true false false true = omega arith
    go true true false false false = omega arith

next_small : (log : List ℕ) (from : ℕ) (s : Inventory) → (next_event log from s).number < 1000
unfolding next_event
next_small log from s =
    go (leb (length log) from) (eqb n 0) (is_event_line line) (change_step (change_of (get_or line 0 0)) s (number_in line))
    (change_small (change_of (get_or line 0 0)) s (number_in line))
  where
    n : ℕ
    n = line_length (drop from log)

    line : List ℕ
    line = body_of (take n (drop from log))

    go : (a b c : Bool) (o : Outcome) → o.number < 1000
        → (cond a (last 0 from s) (cond b (last 28 from s) (cond c (taken (from + n) o) (last 28 from s)))).number < 1000
    go true b c o h = omega arith
    go false true c o h = omega arith
    go false false true o h = h
    go false false false o h = omega arith

first_small : (log : List ℕ) → (opening log).number < 1000
unfolding opening opened_by
first_small log = go (leb (length log) 65536) (eqb (line_length log) 0) (is_first_line first) (eqb o.number 0)
  where
    first : List ℕ
    first = body_of (take (line_length log) log)

    o : Outcome
    o = open_step Powers (get_or (numbers_of first) 0 0) (drop 1 (numbers_of first))

    go : (a b c x : Bool)
        → (cond a (cond b (ended 28) (cond c (cond x (taken (line_length log) o) (ended o.number)) (ended 28))) (ended 1)).number < 1000
    go false b c x = omega arith
    go true true c x = omega arith
    go true false false x = omega arith
    go true false true true = opening_small (get_or (numbers_of first) 0 0) (drop 1 (numbers_of first))
    go true false true false = opening_small (get_or (numbers_of first) 0 0) (drop 1 (numbers_of first))

line_fits : (e : Event) (line : List ℕ) → e.number < 1000 → (e.over ≡ false → e.inventory.n ≤ 254) → EventLine rule_of e line → length line ≤ 1024
line_fits e line s few (at_end z o) = omega arith
line_fits e line s few (refused q) = refused_short e.number s
line_fits e line s few (no_inventory z o v) = refused_short 10 (omega arith)
line_fits e line s few (files z o v r F) = files_short (member r.files) e.inventory.n (few o)

prints_fit : (log : List ℕ) (size : ℕ → ℕ) (t : State) (e : Event) (lines : List (List ℕ)) → (e.over ≡ false → Stands size t e.inventory)
    → Prints rule_of log e lines → All (λ line. length line ≤ 1024) lines
prints_fit log size t e lines R (ends y) = all_none
prints_fit log size t e (line ∷ lines) R (goes_on y E more) =
    let F : Follows size t log e.from (next_event log e.from e.inventory) line = next_follows size t log e.from e.inventory (R y) line E in
    all_more
    (line_fits (next_event log e.from e.inventory) line (next_small log e.from e.inventory) (λ o. few_files _ (F.goes o).1.represents.valid) E)
    (rest (next_event log e.from e.inventory).over refl F (λ t' R'. prints_fit log size t' (next_event log e.from e.inventory) lines R' more))
  where
    next : Event
    next = next_event log e.from e.inventory

    rest : (b : Bool) → next.over ≡ b → Follows size t log e.from next line
        → ((t' : State) → (next.over ≡ false → Stands size t' next.inventory) → All (λ line. length line ≤ 1024) lines)
        → All (λ line. length line ≤ 1024) lines
    rest true v F more = more t (λ o. absurd (true≢false (sym v ∙ o)))
    rest false v F more = let (t', R', h) = F.goes v in more t' (λ _. R')

pub lines_fit : LinesFit
lines_fit log lines (at_once {line} o E) = all_more (line_fits (opening log) line (first_small log) (λ y. absurd (true≢false (sym o ∙ y))) E) all_none
lines_fit log lines (by_events o P) = let (size, t, R, h) = (opening_starts log).goes o in prints_fit log size t (opening log) lines (λ _. R) P
