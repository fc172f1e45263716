-- The line of an event, and the events of a log, as the code finds them.
--
--   change_other            the change of any other letter
--   event_short, event_long     a line of fewer than three characters is no event
--   part_body               the part of a log that is a line without its byte 10
--   opening_long, opening-none, opening_shape, opening_opens, opening_goes, opening_refused     the cases of the first line
--   goes_on_at               a replay that goes on after an event
--   next_end, next_unended, next_shape, next-taken     the cases of an event
--   inside_log, next_other, next_here     the same by the line as the code cuts it
-- Assumes nothing.
use mathlib.Core.Path.{◌≡◌, refl, sym, ap, ap₂, ◌∙◌}
use mathlib.Core.Logic.{◌≢◌}
use mathlib.Core.Bool.{Bool, true, false, cond, ◌&&◌, and-false, false≢true}
use mathlib.Core.List.{List, [], ◌∷◌}
use Prim.Native.Nat.{ℕ, ◌+◌, ◌-◌, ◌≤◌, ◌<◌}
use native.Mathlib.Omega.{arith}
use native.Mathlib.Decide.{dec_lt}
use lib.Dec.{eqb}
use lib.ListN.{length, get_or, take, drop, length-drop}
use lib.Seq.{length-take-le}
use borrow.Author.Tests.{le-leb, lt-leb, ne_eqb, eq-eqb, eqb-true}
use Rattle.lent_bytes.proofs.PartLaws.{part_take}
use Rattle.codes.specs.declared.Code.TheVariants.{Powers}
use Rattle.std.specs.Prelude.{Ok, Err}
use Rattle.inventory.specs.Model.{remove_volume}
use Rattle.inventory.specs.Outcome.{Outcome}
use Rattle.inventory.proofs.Outcomes.{returned}
use Rattle.inventory.specs.Steps.{outcome, open_step, change_step}
use Rattle.inventory.specs.declared.Inventory.{Inventory}
use Rattle.text.specs.Decimal.{is_decimal}
use Rattle.text.specs.TextLines.{line_length}
use Rattle.text.proofs.ScanLaws.{line_most}
use Rattle.replay.specs.Log.{body_of, is_first_line, numbers_of, is_letter, change_of, is_event_line, number_in}
use Rattle.replay.specs.Events.{ended, opened_by, opening, last, taken, next_event, GoesOn}
use Rattle.replay.specs.FirstLine.{opened_line}
use Rattle.replay.specs.declared.events.Event.{Event}
use Rattle.replay.specs.declared.events.Replay.{Replay}

-- ---- the line of an event

pub change_other : (b : ℕ) → b ≢ 70 → b ≢ 86 → b ≢ 102 → change_of b ≡ remove_volume
unfolding change_of
change_other b p q r = rw (ne_eqb b 70 p, ne_eqb b 86 q, ne_eqb b 102 r) refl

pub event_short : (l : List ℕ) → length l < 3 → is_event_line l ≡ false
unfolding is_event_line is_letter is_decimal
event_short [] h = refl
event_short (a ∷ []) h = and-false (is_letter a)
event_short (a ∷ b ∷ []) h = ap (λ (t : Bool). is_letter a && t) (and-false (eqb b 32)) ∙ and-false (is_letter a)
event_short (a ∷ b ∷ c ∷ l) h = absurd (omega arith)

pub event_long : (l : List ℕ) → is_event_line l ≡ true → 3 ≤ length l
event_long l e =
    elim (dec_lt (length l) 3) [
      | yes h ↦ absurd (false≢true (sym (event_short l h) ∙ e))
      | no q ↦ omega arith
    ]

-- ---- what is handed back

module _ (o : Outcome) (from : ℕ) where
  opened_ok : {t : Inventory} → Ok t ≡ returned o → taken from (outcome t 0) ≡ opened_by from o
  unfolding opened_by
  opened_ok {t} is = go (eqb o.number 0) refl is
    where
      go : (b : Bool) → eqb o.number 0 ≡ b → Ok t ≡ cond b (Ok o.next) (Err o.number) → taken from (outcome t 0) ≡ cond b (taken from o) (ended o.number)
      go true z is = let same : t ≡ o.next = cc in ap₂ (λ (t : Inventory) (k : ℕ). taken from (outcome t k)) same (sym (eqb-true o.number 0 z))
      go false z is = absurd (cc)

  opened_err : {k : ℕ} → Err k ≡ returned o → ended k ≡ opened_by from o
  unfolding opened_by
  opened_err {k} is = go (eqb o.number 0) is
    where
      go : (b : Bool) → Err k ≡ cond b (Ok o.next) (Err o.number) → ended k ≡ cond b (taken from o) (ended o.number)
      go true is = absurd (cc)
      go false is = let same : k ≡ o.number = cc in ap ended same

-- a replay that goes on
pub goes_on_at : (log : List ℕ) (o : Outcome) (r : Replay) → r.log.now ≡ log → r.inventory ≡ o.next → GoesOn log (taken r.from o) r
goes_on_at log o r z i = record { same = z; present = i; more = λ _. refl; no_more = λ o. absurd (false≢true o) }

-- ---- a line of a log

-- the bytes from `from` on up to the line's byte 10
pub part_body : (log : List ℕ) (from : ℕ) → from ≤ length log
    → let n = line_length (drop from log) in 0 < n → take (from + n - 1 - from) (drop from log) ≡ body_of (take n (drop from log))
part_body log from h l = let n = line_length (drop from log) in
    let m = line_most (drop from log) in
    let k : from + n - 1 - from ≡ n - 1 = omega arith in
    let long : length (take n (drop from log)) ≡ n = length-take-le n (drop from log) m in
    ap (λ (j : ℕ). take j (drop from log)) k ∙ sym (part_take 0 (n - 1) n (drop from log) (omega arith))
    ∙ ap (λ (j : ℕ). take (j - 1) (take n (drop from log))) (sym long)

-- ---- the first line

module _ (log : List ℕ) where
  abbrev first : List ℕ
  first = body_of (take (line_length log) log)

  abbrev o : Outcome
  o = open_step Powers (get_or (numbers_of first) 0 0) (drop 1 (numbers_of first))

  abbrev first_opens : Event
  first_opens = opened_by (line_length log) o

  pub opening_long : 65536 < length log → ended 1 ≡ opening log
  unfolding opening
  opening_long h = sym (ap (λ (b : Bool). cond b (cond (eqb (line_length log) 0) (ended 28) (cond (is_first_line first) first_opens (ended 28))) (ended 1)) (lt-leb (length log) 65536 h))

  module _ (h : length log ≤ 65536) where
    short : opening log ≡ cond (eqb (line_length log) 0) (ended 28) (cond (is_first_line first) first_opens (ended 28))
    unfolding opening
    short = ap (λ (b : Bool). cond b (cond (eqb (line_length log) 0) (ended 28) (cond (is_first_line first) first_opens (ended 28))) (ended 1)) (le-leb (length log) 65536 h)

    pub opening-none : line_length log ≡ 0 → ended 28 ≡ opening log
    opening-none z = sym (short ∙ ap (λ (b : Bool). cond b (ended 28) (cond (is_first_line first) first_opens (ended 28))) (eq-eqb (line_length log) 0 z))

    module _ (l : line_length log ≢ 0) where
      ended_line : opening log ≡ cond (is_first_line first) first_opens (ended 28)
      ended_line = short ∙ ap (λ (b : Bool). cond b (ended 28) (cond (is_first_line first) first_opens (ended 28))) (ne_eqb (line_length log) 0 l)

      pub opening_shape : is_first_line first ≡ false → ended 28 ≡ opening log
      opening_shape e = sym (ended_line ∙ ap (λ (b : Bool). cond b first_opens (ended 28)) e)

      pub opening_opens : is_first_line first ≡ true → first_opens ≡ opening log
      opening_opens e = sym (ended_line ∙ ap (λ (b : Bool). cond b first_opens (ended 28)) e)

      pub opening_goes : (from : ℕ) {s : Inventory} → from ≡ line_length log → Ok s ≡ opened_line first → taken from (outcome s 0) ≡ opening log
      unfolding opened_line
      opening_goes from {s} z is = go (is_first_line first) refl is
        where
          go : (b : Bool) → is_first_line first ≡ b → Ok s ≡ cond b (returned o) (Err 28) → taken from (outcome s 0) ≡ opening log
          go true f is = opened_ok o from is ∙ ap (λ (k : ℕ). opened_by k o) z ∙ opening_opens f
          go false f is = absurd (cc)

      pub opening_refused : {k : ℕ} → Err k ≡ opened_line first → opening log ≡ ended k
      unfolding opened_line
      opening_refused {k} is = go (is_first_line first) refl is
        where
          go : (b : Bool) → is_first_line first ≡ b → Err k ≡ cond b (returned o) (Err 28) → opening log ≡ ended k
          go true f is = sym (opened_err o (line_length log) is ∙ opening_opens f)
          go false f is = let same : k ≡ 28 = cc in sym (ap ended same ∙ opening_shape f)

-- ---- an event

module _ (log : List ℕ) (from : ℕ) (s : Inventory) where
  abbrev n : ℕ
  n = line_length (drop from log)

  abbrev line : List ℕ
  line = body_of (take n (drop from log))

  abbrev takes : Event
  takes = taken (from + n) (change_step (change_of (get_or line 0 0)) s (number_in line))

  pub next_end : length log ≤ from → last 0 from s ≡ next_event log from s
  unfolding next_event
  next_end h =
      sym (ap (λ (b : Bool). cond b (last 0 from s) (cond (eqb n 0) (last 28 from s) (cond (is_event_line line) takes (last 28 from s)))) (le-leb (length log) from h))

  module _ (h : from < length log) where
    within : next_event log from s ≡ cond (eqb n 0) (last 28 from s) (cond (is_event_line line) takes (last 28 from s))
    unfolding next_event
    within =
        ap (λ (b : Bool). cond b (last 0 from s) (cond (eqb n 0) (last 28 from s) (cond (is_event_line line) takes (last 28 from s)))) (lt-leb (length log) from h)

    pub next_unended : n ≡ 0 → last 28 from s ≡ next_event log from s
    next_unended z = sym (within ∙ ap (λ (b : Bool). cond b (last 28 from s) (cond (is_event_line line) takes (last 28 from s))) (eq-eqb n 0 z))

    module _ (l : n ≢ 0) where
      ended_event : next_event log from s ≡ cond (is_event_line line) takes (last 28 from s)
      ended_event = within ∙ ap (λ (b : Bool). cond b (last 28 from s) (cond (is_event_line line) takes (last 28 from s))) (ne_eqb n 0 l)

      pub next_shape : is_event_line line ≡ false → last 28 from s ≡ next_event log from s
      next_shape e = sym (ended_event ∙ ap (λ (b : Bool). cond b takes (last 28 from s)) e)

      pub next-taken : is_event_line line ≡ true → takes ≡ next_event log from s
      next-taken e = sym (ended_event ∙ ap (λ (b : Bool). cond b takes (last 28 from s)) e)

-- the line at hand, which is ended, as the code cuts it
module _ (log : List ℕ) (from n : ℕ) (e : n ≡ line_length (drop from log)) (h : from < length log) where
  pub inside_log : from + n ≤ length log
  inside_log = omega (arith, e, line_most (drop from log), length-drop from log, h)

  module _ (q : n ≢ 0) where
    abbrev at_hand : List ℕ
    at_hand = take (from + n - 1 - from) (drop from log)

    unended : line_length (drop from log) ≢ 0
    unended z = q (e ∙ z)

    body : at_hand ≡ body_of (take (line_length (drop from log)) (drop from log))
    body = let z = unended in ap (λ (m : ℕ). take (from + m - 1 - from) (drop from log)) e ∙ part_body log from (omega (arith, h)) (omega (arith, z))

    pub next_other : (s : Inventory) → is_event_line at_hand ≡ false → last 28 from s ≡ next_event log from s
    next_other s t = next_shape log from s h unended (sym (ap is_event_line body) ∙ t)

    pub next_here : (s : Inventory) → is_event_line at_hand ≡ true
        → taken (from + n - 1 + 1) (change_step (change_of (get_or at_hand 0 0)) s (number_in at_hand)) ≡ next_event log from s
    next_here s t = let z = unended in
        ap₂ (λ (k : ℕ) (w : List ℕ). taken k (change_step (change_of (get_or w 0 0)) s (number_in w)))
        (let k : from + n - 1 + 1 ≡ from + line_length (drop from log) = omega (arith, e, z) in k) body
        ∙ next-taken log from s h unended (sym (ap is_event_line body) ∙ t)
