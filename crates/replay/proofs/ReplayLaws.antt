-- The events on inventories are those of the model, so the lines after them, one after another, are what a replay prints.
--
--   lines_from d t log from      the lines after the events from a position on
--   Stands size t s             the inventory s stands for the state t, whose code is the replay's
--   files_line                  the line of the recoverable files of an inventory that stands for a state
--   Starts, opening_starts      the first line
--   Follows, next_follows       an event
--   next_goes, next_stays       one that is taken goes on in the log; one that ends it leaves what is present
--   told_progress               what is told of an event leaves less of the log
--   at_the_end                  no line after the end
-- Assumes nothing.
use mathlib.Core.Path.{◌≡◌, refl, sym, ap, ap₂, ◌∙◌, subst, fun_ext}
use mathlib.Core.Logic.{◌↔◌, ◌≢◌}
use mathlib.Core.Bool.{Bool, true, false, cond, true≢false, false≢true}
use mathlib.Core.List.{List, [], ◌∷◌, ◌++◌}
use Prim.Native.Nat.{ℕ, ◌+◌, ◌-◌, ◌≤◌, ◌<◌}
use native.Mathlib.Nat.{suc-ne-zero}
use native.Mathlib.Omega.{arith}
use native.Mathlib.Decide.{ℕ_discrete, dec_le}
use lib.Dec.{leb, eqb}
use lib.ListN.{length, get_or, take, drop, length-drop, drop_of_length-le}
use lib.Seq.{drop-drop}
use borrow.Author.Tests.{le-leb, lt-leb, eq-eqb, ne_eqb}
use Rattle.std.specs.Prelude.{Option, None, Some, Result}
use Rattle.std.specs.Iterator.{MakesProgress, at_most}
use Rattle.cut_lists.specs.Pieces.{Cut, cut}
use Rattle.cut_lists.proofs.CutLaws.{cut-none, cut_stop, cut_more}
use Rattle.number_sets.specs.Sets.{member}
use Rattle.parity.specs.Coefficient.{coefficient, rule_of}
use Rattle.codes.specs.declared.Code.{Code}
use Rattle.codes.specs.declared.Code.TheVariants.{Powers}
use Rattle.recovery.specs.Recoverable.{State, RecoverableNow}
use Rattle.inventory.specs.Model.{Change, change, numbered, opened, number_of, next, Gives}
use Rattle.inventory.specs.Steps.{is_inventory, open_step, change_step}
use Rattle.inventory.specs.Claim.{Step, size_in}
use Rattle.inventory.specs.RecoverableFiles.{RecoverableFiles, RecoverableSet}
use Rattle.inventory.specs.declared.Inventory.{Inventory}
use Rattle.inventory.specs.Outcome.{Outcome}
use Rattle.inventory.proofs.ValidInventories.{few_files}
use Rattle.inventory.proofs.Representation.{Represents, meets}
use Rattle.inventory.proofs.Openings.{opened_represents}
use Rattle.inventory.proofs.Calls.{next-same}
use Rattle.inventory.proofs.ModelSets.{tests_same}
use Rattle.inventory.proofs.RecoverableAnswers.{represented_set}
use Rattle.text.specs.TextLines.{line_length}
use Rattle.text.proofs.ScanLaws.{line_most}
use Rattle.replay.specs.Log.{body_of, is_first_line, numbers_of, change_of, is_event_line, number_in}
use Rattle.replay.specs.Lines.{refused_line, files_of, numbers_line}
use Rattle.replay.specs.Replay.{Decides, event_line, event_lines, opened_lines, log_lines, replay_of}
use Rattle.replay.specs.Events.{ended, opened_by, opening, last, taken, next_event, told, EventLine, at_end, refused, no_inventory, files}
use Rattle.replay.specs.declared.events.Event.{Event}
use Rattle.replay.specs.declared.events.Replay.{Replay}
use Rattle.replay.proofs.EventLines.{line_refused, line_end}
use Rattle.replay.proofs.EventLaws.{opening_long, opening-none, opening_shape, opening_opens, next_end, next_unended, next_shape, next-taken}

abbrev pub lines_from : (State → ℕ → Bool) → State → List ℕ → ℕ → List ℕ
lines_from d t log from = let c : Cut = cut line_length (drop from log) in event_lines d t c.pieces c.rest

abbrev Test : Type 0
Test = State → ℕ → Bool

-- ---- what a replay stands at

-- the inventory s stands for the state t, which has the code of the replay
pub record Stands (size : ℕ → ℕ) (t : State) (s : Inventory) : Type 0 where
  pub represents : Represents size t s
  pub powers : t.code ≡ Powers

-- ---- the recoverable files

few_in : (size : ℕ → ℕ) (t : State) (s : Inventory) → Represents size t s → t.n ≤ 254
few_in size t s R = let l = few_files s R.valid in subst (λ (t : State). t.n ≤ 254) (sym R.state) l

files_line : (d : Test) → Decides coefficient d → (size : ℕ → ℕ) (t : State) (s : Inventory) → Stands size t s
    → (r : RecoverableFiles) → RecoverableSet rule_of s r → numbers_line (files_of s.n (member r.files)) ≡ numbers_line (files_of t.n (d t))
files_line d D size t s S r F =
    ap₂ (λ (n : ℕ) (test : ℕ → Bool). numbers_line (files_of n test)) (sym (ap (λ (t : State). t.n) S.represents.state))
    (fun_ext
    (λ f.
    let in_set =
    subst (λ (c : Code). (member r.files f ≡ true) ↔ RecoverableNow (rule_of c) t f) S.powers
    (represented_set rule_of size t s S.represents r F f) in
    let decided = D t (few_in size t s S.represents) f in
    tests_same (member r.files f) (d t f) (λ h. decided.1 (in_set.0 h)) (λ h. in_set.1 (decided.0 h))))

-- ---- the first line

pub record Starts (log : List ℕ) (e : Event) : Type 0 where
  pub refusal : e.over ≡ true → (e.number ≢ 0) × ((d : Test) → replay_of d log ≡ refused_line e.number)
  pub goes : e.over ≡ false
      → (size : ℕ → ℕ) × (t : State) × Stands size t e.inventory × ((d : Test) → replay_of d log ≡ lines_from d t log e.from)

module _ (log : List ℕ) where
  abbrev first : List ℕ
  first = body_of (take (line_length log) log)

  abbrev lines : Cut
  lines = cut line_length log

  abbrev n : ℕ
  n = get_or (numbers_of first) 0 0

  abbrev sizes : List ℕ
  sizes = drop 1 (numbers_of first)

  start-ended : (k : ℕ) (e : Event) → ended k ≡ e → k ≢ 0 → ((d : Test) → replay_of d log ≡ refused_line k) → Starts log e
  start-ended k e z q h = subst (Starts log) z record { refusal = λ _. (q, h); goes = λ o. absurd (true≢false o) }

  too_long : 65536 < length log → (d : Test) → replay_of d log ≡ refused_line 1
  unfolding replay_of
  too_long h d = ap (λ (b : Bool). cond b (log_lines d lines.pieces lines.rest) (refused_line 1)) (lt-leb (length log) 65536 h)

  module _ (l : length log ≤ 65536) where
    short : (d : Test) → replay_of d log ≡ log_lines d lines.pieces lines.rest
    unfolding replay_of
    short d = ap (λ (b : Bool). cond b (log_lines d lines.pieces lines.rest) (refused_line 1)) (le-leb (length log) 65536 l)

    no_line : line_length log ≡ 0 → (d : Test) → replay_of d log ≡ refused_line 28
    unfolding log_lines
    no_line z d = short d ∙ ap (λ (c : Cut). log_lines d c.pieces c.rest) (cut_stop line_length log z)

    module _ (q : line_length log ≢ 0) where
      abbrev after : Cut
      after = cut line_length (drop (line_length log) log)

      by_first : (d : Test) → replay_of d log
          ≡ cond (is_first_line first) (opened_lines d n sizes after.pieces after.rest) (refused_line 28)
      unfolding log_lines
      by_first d = let m = line_most log in
          short d ∙ ap (λ (c : Cut). log_lines d c.pieces c.rest) (cut_more line_length log (omega (arith, q)) (omega (arith, q)))

      other_shape : is_first_line first ≡ false → (d : Test) → replay_of d log ≡ refused_line 28
      other_shape e d = by_first d ∙ ap (λ (b : Bool). cond b (opened_lines d n sizes after.pieces after.rest) (refused_line 28)) e

      first_shape : is_first_line first ≡ true → (d : Test) → replay_of d log ≡ opened_lines d n sizes after.pieces after.rest
      first_shape e d = by_first d ∙ ap (λ (b : Bool). cond b (opened_lines d n sizes after.pieces after.rest) (refused_line 28)) e

      by_number : is_first_line first ≡ true → opened_by (line_length log) (open_step Powers n sizes) ≡ opening log → Starts log (opening log)
      unfolding opened_by opened_lines
      by_number f z =
          elim (ℕ_discrete (open_step Powers n sizes).number 0) [
            | yes e ↦
                subst (Starts log) (sym (ap (λ (b : Bool). cond b (accepted) (ended (open_step Powers n sizes).number)) (eq-eqb (open_step Powers n sizes).number 0 e)) ∙ z) record {
                  refusal = λ o. absurd (false≢true o);
                  goes = λ _. (
                    size_in sizes,
                    opened Powers n (size_in sizes),
                    record { represents = (opened_represents Powers n sizes e).1; powers = refl },
                    λ d. first_shape f d
                        ∙ ap (λ (b : Bool). cond b (event_lines d (opened Powers n (size_in sizes)) after.pieces after.rest) (refused_line (open_step Powers n sizes).number))
                        (eq-eqb (open_step Powers n sizes).number 0 e),
                  );
                }
            | no e ↦
                start-ended (open_step Powers n sizes).number (opening log)
                (sym (ap (λ (b : Bool). cond b (accepted) (ended (open_step Powers n sizes).number)) (ne_eqb (open_step Powers n sizes).number 0 e)) ∙ z) e
                (λ d.
                first_shape f d
                ∙ ap (λ (b : Bool). cond b (event_lines d (opened Powers n (size_in sizes)) after.pieces after.rest) (refused_line (open_step Powers n sizes).number))
                (ne_eqb (open_step Powers n sizes).number 0 e))
          ]
        where
          accepted : Event
          accepted = taken (line_length log) (open_step Powers n sizes)

      by_shape : (b : Bool) → is_first_line first ≡ b → Starts log (opening log)
      by_shape true e = by_number e (opening_opens log l q e)
      by_shape false e = start-ended 28 (opening log) (opening_shape log l q e) (suc-ne-zero 27) (other_shape e)

  pub opening_starts : Starts log (opening log)
  opening_starts =
      elim (dec_le (length log) 65536) [
        | no h ↦ start-ended 1 (opening log) (opening_long log (omega arith)) (suc-ne-zero 0) (too_long (omega arith))
        | yes l ↦ elim (ℕ_discrete (line_length log) 0) [
          | yes z ↦ start-ended 28 (opening log) (opening-none log l z) (suc-ne-zero 27) (no_line l z)
          | no q ↦ by_shape l q (is_first_line first) refl
        ]
      ]

-- ---- an event

pub record Follows (size : ℕ → ℕ) (t : State) (log : List ℕ) (from : ℕ) (e : Event) (line : List ℕ) : Type 0 where
  pub ends : e.over ≡ true → (d : Test) → Decides coefficient d → lines_from d t log from ≡ line
  pub goes : e.over ≡ false
      → (t' : State) × Stands size t' e.inventory
      × ((d : Test) → Decides coefficient d → lines_from d t log from ≡ line ++ lines_from d t' log e.from)

module _ (size : ℕ → ℕ) (t : State) (log : List ℕ) (from : ℕ) (s : Inventory) (S : Stands size t s) where
  abbrev here : List ℕ
  here = drop from log

  abbrev this : List ℕ
  this = body_of (take (line_length here) here)

  follows_last : (k : ℕ) (e : Event) (line : List ℕ) → last k from s ≡ e → ((d : Test) → lines_from d t log from ≡ line) → Follows size t log from e line
  follows_last k e line z h = subst (λ (e : Event). Follows size t log from e line) z record { ends = λ _ d D. h d; goes = λ o. absurd (true≢false o) }

  pub at_the_end : length log ≤ from → (d : Test) → lines_from d t log from ≡ []
  unfolding event_lines
  at_the_end h d =
      ap (λ (l : List ℕ). event_lines d t (cut line_length l).pieces (cut line_length l).rest) (drop_of_length-le log h)
      ∙ ap (λ (c : Cut). event_lines d t c.pieces c.rest) (cut-none line_length)

  unended : from < length log → line_length here ≡ 0 → (d : Test) → lines_from d t log from ≡ refused_line 28
  unfolding event_lines
  unended h z d = ap (λ (c : Cut). event_lines d t c.pieces c.rest) (cut_stop line_length here z) ∙ some here (omega (arith, length-drop from log))
    where
      some : (l : List ℕ) → 0 < length l → event_lines d t [] l ≡ refused_line 28
      some [] b = absurd (omega arith)
      some (b ∷ l) i = refl

  abbrev c : Change
  c = change_of (get_or this 0 0)

  abbrev k : ℕ
  k = number_in this

  abbrev t' : State
  t' = next t (change c k)

  abbrev o : Outcome
  o = change_step c s k

  abbrev rest : Test → List ℕ
  rest d = lines_from d t' log (from + line_length here)

  met : (numbered o.number ≡ numbered (number_of t c k)) × Represents size t' o.next
  unfolding Step Gives
  met = meets rule_of size t s (change c k) (numbered o.number) o.next S.represents (refl, refl)

  stands_next : Stands size t' o.next
  stands_next = record { represents = met.1; powers = (next-same t (change c k)).same_code ∙ S.powers }

  same_number : number_of t c k ≡ o.number
  same_number = let e = met.0 in let z : o.number ≡ number_of t c k = cc in sym z

  the_line : (d : Test) → Decides coefficient d → (e : Event) (line : List ℕ) → EventLine rule_of e line
      → e.number ≡ o.number → e.over ≡ false → e.inventory ≡ o.next → event_line d t c k ≡ line
  unfolding event_line
  the_line d D e line (at_end z y) n v i = absurd (true≢false (sym y ∙ v))
  the_line d D e line (refused p) n v i =
      ap (λ (x : ℕ). cond (eqb x 0) (numbers_line (files_of t'.n (d t'))) (refused_line x)) (same_number ∙ sym n)
      ∙ ap (λ (b : Bool). cond b (numbers_line (files_of t'.n (d t'))) (refused_line e.number)) (ne_eqb e.number 0 p)
  the_line d D e line (no_inventory z y x) n v i = absurd (true≢false (sym met.1.valid ∙ ap is_inventory (sym i) ∙ x))
  the_line d D e line (files z y x r F) n v i =
      ap (λ (x : ℕ). cond (eqb x 0) (numbers_line (files_of t'.n (d t'))) (refused_line x)) (same_number ∙ sym n)
      ∙ ap (λ (b : Bool). cond b (numbers_line (files_of t'.n (d t'))) (refused_line e.number)) (eq-eqb e.number 0 z)
      ∙ sym (files_line d D size t' e.inventory (subst (Stands size t') (sym i) stands_next) r F)

  module _ (h : from < length log) (q : line_length here ≢ 0) where
    by_line : (d : Test) → lines_from d t log from ≡ cond (is_event_line this) (event_line d t c k ++ rest d) (refused_line 28)
    unfolding event_lines
    by_line d = let m = line_most here in
        ap (λ (c : Cut). event_lines d t c.pieces c.rest) (cut_more line_length here (omega (arith, q)) (omega (arith, q)))
        ∙ ap (λ (l : List ℕ). cond (is_event_line this) (event_line d t c k ++ event_lines d t' (cut line_length l).pieces (cut line_length l).rest) (refused_line 28))
        (drop-drop (line_length here) from log)

    follows_taken : is_event_line this ≡ true → (line : List ℕ) → EventLine rule_of (taken (from + line_length here) o) line
        → Follows size t log from (taken (from + line_length here) o) line
    follows_taken e line E = record {
      ends = λ y. absurd (false≢true y);
      goes = λ _. (
        t',
        stands_next,
        λ d D. by_line d ∙ ap (λ (b : Bool). cond b (event_line d t c k ++ rest d) (refused_line 28)) e
            ∙ ap (λ (l : List ℕ). l ++ rest d) (the_line d D (taken (from + line_length here) o) line E refl refl refl),
      );
    }

  pub next_follows : (line : List ℕ) → EventLine rule_of (next_event log from s) line → Follows size t log from (next_event log from s) line
  next_follows line E =
      elim (dec_le (length log) from) [
        | yes h ↦
            let z = next_end log from s h in
            follows_last 0 _ line z
            (λ d. at_the_end h d ∙ sym (line_end (last 0 from s) line (subst (λ (e : Event). EventLine rule_of e line) (sym z) E) refl refl))
        | no h ↦ elim (ℕ_discrete (line_length here) 0) [
          | yes e ↦ stop (next_unended log from s (omega arith) e) (unended (omega arith) e)
          | no q ↦ by_shape (omega arith) q (is_event_line this) refl
        ]
      ]
    where
      stop : last 28 from s ≡ next_event log from s → ((d : Test) → lines_from d t log from ≡ refused_line 28)
          → Follows size t log from (next_event log from s) line
      stop z h =
          follows_last 28 _ line z
          (λ d.
          h d ∙ sym (line_refused (last 28 from s) line (subst (λ (e : Event). EventLine rule_of e line) (sym z) E) (suc-ne-zero 27)))

      by_shape : from < length log → line_length here ≢ 0 → (b : Bool) → is_event_line this ≡ b → Follows size t log from (next_event log from s) line
      by_shape h q true e = let z = next-taken log from s h q e in
          subst (λ (x : Event). Follows size t log from x line) z
          (follows_taken h q e line (subst (λ (x : Event). EventLine rule_of x line) (sym z) E))
      by_shape h q false e =
          stop (next_shape log from s h q e) (λ d. by_line h q d ∙ ap (λ (b : Bool). cond b (event_line d t c k ++ rest d) (refused_line 28)) e)

-- an event that is taken goes on in the log
goes_on : (log : List ℕ) (from : ℕ) (s : Inventory) → (next_event log from s).over ≡ false
    → (from < (next_event log from s).from) × ((next_event log from s).from ≤ length log)
unfolding next_event
goes_on log from s o =
    elim (dec_le (length log) from) [
      | yes h ↦ absurd (true≢false (ap (λ (e : Event). e.over) (next_end log from s h) ∙ o))
      | no h ↦ elim (ℕ_discrete (line_length (drop from log)) 0) [
        | yes e ↦ absurd (true≢false (ap (λ (e : Event). e.over) (next_unended log from s (omega arith) e) ∙ o))
        | no q ↦ go (omega arith) q (is_event_line (body_of (take (line_length (drop from log)) (drop from log)))) refl
      ]
    ]
  where
    go : from < length log → line_length (drop from log) ≢ 0 → (b : Bool) → is_event_line (body_of (take (line_length (drop from log)) (drop from log))) ≡ b
        → (from < (next_event log from s).from) × ((next_event log from s).from ≤ length log)
    go h q true e = let z : from + line_length (drop from log) ≡ (next_event log from s).from = ap (λ (e : Event). e.from) (next-taken log from s h q e) in
        let m = line_most (drop from log) in
        let d = length-drop from log in
        (omega (arith, q), omega arith)
    go h q false e = absurd (true≢false (ap (λ (e : Event). e.over) (next_shape log from s h q e) ∙ o))

pub next_goes : (log : List ℕ) (from : ℕ) (s : Inventory) (e : Event) → e ≡ next_event log from s → e.over ≡ false
    → (from < e.from) × (e.from ≤ length log)
next_goes log from s e z o =
    subst (λ (e : Event). (from < e.from) × (e.from ≤ length log)) (sym z) (goes_on log from s (ap (λ (e : Event). e.over) (sym z) ∙ o))

-- and what is told of an event leaves less of the log, of which nothing is left after the last
module _ (log : List ℕ) (from : ℕ) (s : Inventory) where
  told_within : {t : Result Inventory ℕ} → Some t ≡ told (next_event log from s) → from < length log
  told_within {t} h =
      elim (dec_le (length log) from) [
        | yes l ↦ absurd (let z : Some t ≡ None = h ∙ sym (ap told (next_end log from s l)) in cc)
        | no q ↦ omega arith
      ]

  pub told_progress : {r r' : Replay} (e : Event) (t : Option (Result Inventory ℕ)) → e ≡ next_event log from s → t ≡ told e
      → r.log.now ≡ log → r'.log.now ≡ log → r.from ≡ from → r'.from ≡ cond e.over (length log) e.from
      → MakesProgress (λ _. Unit {0}) (λ r. at_most (length r.log.now - r.from)) r t r'
  told_progress {r} {r'} e None z h l l' f f' = record { on = λ _. tt; keeps = tt; rests = λ _. tt }
  told_progress {r} {r'} e (Some t) z h l l' f f' = record { on = λ _. (tt, tt, less); keeps = tt; rests = λ _. tt }
    where
      go : (b : Bool) → e.over ≡ b → r'.from ≡ cond b (length log) e.from → length log - r'.from < length log - r.from
      go true o to = let w = told_within (h ∙ ap told z) in omega arith
      go false o to = let g = next_goes log from s e z o in omega arith

      less : length r'.log.now - r'.from < length r.log.now - r.from
      less = rw (l, l') (go e.over refl f')

-- and one that ends the replay leaves what is present
pub next_stays : (log : List ℕ) (from : ℕ) (s : Inventory) → (next_event log from s).over ≡ true → (next_event log from s).inventory ≡ s
unfolding next_event
next_stays log from s h = let n : ℕ = line_length (drop from log) in
    let line : List ℕ = body_of (take n (drop from log)) in
    go (leb (length log) from) (eqb n 0) (is_event_line line) (from + n) (change_step (change_of (get_or line 0 0)) s (number_in line)) h
  where
    go : (a b c : Bool) (to : ℕ) (o : Outcome) → (cond a (last 0 from s) (cond b (last 28 from s) (cond c (taken to o) (last 28 from s)))).over ≡ true
        → (cond a (last 0 from s) (cond b (last 28 from s) (cond c (taken to o) (last 28 from s)))).inventory ≡ s
    go true b c to o h = refl
    go false true c to o h = refl
    go false false true to o h = absurd (false≢true h)
    go false false false to o h = refl
