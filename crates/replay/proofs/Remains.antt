-- What remains to be put of a replay.
--
--   PutsEvent w v t          a line is put after an event of which this is told
--   start-refused            a log that is refused at its first line
--   Remains log w v r        the lines of the replay r remain to be put of what the replay of the log prints
--   remains_start, remains_more, remains_end     the loop of `put_replay`
-- Assumes nothing.
use mathlib.Core.Path.{◌≡◌, refl, sym, ap, ◌∙◌, subst}
use mathlib.Core.Bool.{Bool, true, false}
use mathlib.Core.List.{List, [], ◌++◌, append-nil}
use Prim.Native.Nat.{ℕ, ◌≤◌}
use lib.ListN.{length}
use Rattle.std.specs.Prelude.{None, Some, Result, Err}
use Rattle.parity.specs.Coefficient.{coefficient, rule_of}
use Rattle.recovery.specs.Recoverable.{State}
use Rattle.inventory.specs.declared.Inventory.{Inventory}
use Rattle.text.specs.Buffer.{usize_max}
use Rattle.text.specs.Writer.{Puts}
use Rattle.text.specs.declared.writer.Writer.{Writer}
use Rattle.text.proofs.WriterLaws as text
use Rattle.replay.specs.Replay.{Decides, replay_of}
use Rattle.replay.specs.declared.events.Event.{Event}
use Rattle.replay.specs.Events.{ended, opening, next_event, told, GoesOn, Gives, EventLine, at_end}
use Rattle.replay.specs.declared.events.Replay.{Replay}
use Rattle.replay.proofs.EventLines.{line_refused, told-none, told_number}
use Rattle.replay.proofs.ReplayLaws.{Stands, lines_from, opening_starts, Follows, next_follows, at_the_end, next_stays}

abbrev pub PutsEvent : Writer → Writer → Result Inventory ℕ → Type 0
PutsEvent w v t = (e : Event) → told e ≡ Some t → (line : List ℕ) × EventLine rule_of e line × Puts w v line

pub start-refused : (log : List ℕ) {w v : Writer} {k : ℕ} → opening log ≡ ended k → PutsEvent w v (Err k)
    → (d : State → ℕ → Bool) → Decides coefficient d → Puts w v (replay_of d log)
start-refused log {w} {v} z P d D = let (q, h) = (opening_starts log).refusal (ap (λ (e : Event). e.over) z) in
    let (line, E, p) = P (opening log) (told_number (opening log) q ∙ ap (λ (e : Event). Some (Err e.number)) z) in
    subst (Puts w v) (line_refused (opening log) line E q ∙ sym (h d)) p

pub record Remains (log : List ℕ) (w v : Writer) (r : Replay) : Type 0 where
  pub same : r.log.now ≡ log
  pub size : ℕ → ℕ
  pub state : State
  pub stands : Stands size state r.inventory
  pub rest : (d : State → ℕ → Bool) → Decides coefficient d → text.Remains w v (lines_from d state log r.from) (replay_of d log)

pub remains_start : (log : List ℕ) (w : Writer) {r : Replay} → length w.out.now ≤ usize_max
    → ((opening log).over ≡ false) × GoesOn log (opening log) r → Remains log w w r
remains_start log w {r} room (o, G) = let (size, t, R, h) = (opening_starts log).goes o in
    record {
      same = G.same;
      size = size;
      state = t;
      stands = subst (Stands size t) (sym G.present) R;
      rest = λ d D. subst (text.Remains w w _) (ap (lines_from d t log) (G.more o) ∙ sym (h d)) (text.remains_all w _ room);
    }

module _ (log : List ℕ) {w v : Writer} (r : Replay) (H : Remains log w v r) where
  abbrev e : Event
  e = next_event log r.from r.inventory

  follows : (line : List ℕ) → EventLine rule_of e line → Follows H.size H.state log r.from e line
  follows = next_follows H.size H.state log r.from r.inventory H.stands

  pub remains_end : {r' : Replay} → Gives r None r' → (d : State → ℕ → Bool) → Decides coefficient d → Puts w v (replay_of d log)
  remains_end G d D = let (n, o) = told-none e (subst (λ (l : List ℕ). None ≡ told (next_event l r.from r.inventory)) H.same G.0) in
      text.remains_none (H.rest d D) ((follows [] (at_end n o)).ends o d D)

  module _ {u : Writer} {t : Result Inventory ℕ} {r' : Replay} (G : Gives r (Some t) r') (P : PutsEvent v u t) where
    gives : (Some t ≡ told e) × GoesOn log e r'
    gives = subst (λ (l : List ℕ). let e = next_event l r.from r.inventory in (Some t ≡ told e) × GoesOn l e r') H.same G

    by : (over : Bool) → e.over ≡ over → (line : List ℕ) × EventLine rule_of e line × Puts v u line → GoesOn log e r' → Remains log w u r'
    by true o (line, E, p) on =
        let S : Stands H.size H.state r'.inventory = subst (Stands H.size H.state) (sym (on.present ∙ next_stays log r.from r.inventory o)) H.stands in
        record {
          same = on.same;
          size = H.size;
          state = H.state;
          stands = S;
          rest = λ d D. text.remains_less (H.rest d D)
              ((follows line E).ends o d D ∙ sym (append-nil line)
              ∙ sym (ap (λ (l : List ℕ). line ++ l) (at_the_end H.size H.state log r'.from r'.inventory S (on.no_more o) d)))
              p;
        }
    by false o (line, E, p) on =
        let (t', S, h) = (follows line E).goes o in
        record {
          same = on.same;
          size = H.size;
          state = t';
          stands = subst (Stands H.size t') (sym on.present) S;
          rest = λ d D. text.remains_less (H.rest d D) (h d D ∙ ap (λ (k : ℕ). line ++ lines_from d t' log k) (sym (on.more o))) p;
        }

    pub remains_more : Remains log w u r'
    remains_more = by e.over refl (P e (sym gives.0)) gives.1
