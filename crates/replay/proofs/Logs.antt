-- The text of each log, by the lines that it begins with.
--
--   body_line                   a line without its byte 10
--   line_some, body_joined, cut_line     a text that begins with a line: its length, its bytes, and the lines after it
--   begins                      any text that does
--   spaced_without, event_without     no byte 10 in them
--   long_refused, first_line_refused, opening-refused     logs that are refused at their first line
--   log_replayed                a log that is accepted
-- Assumes nothing.
use mathlib.Core.Path.{◌≡◌, refl, sym, ap, ap₂, ◌∙◌, subst}
use mathlib.Core.Logic.{◌≢◌}
use mathlib.Core.Bool.{Bool, true, false, cond}
use mathlib.Core.List.{List, [], ◌∷◌, ◌++◌, map, flatten, append_assoc}
use Prim.Native.Char.{code}
use Prim.Native.Nat.{ℕ, ◌-◌, ◌<◌, ◌≤◌}
use native.Mathlib.Omega.{arith}
use native.Mathlib.Decide.{ℕ_discrete}
use lib.ListN.{length, get_or, take, drop, length-append, take-append-drop}
use lib.Seq.{take_at, drop_at}
use borrow.Author.Tests.{le-leb, lt-leb, eq-eqb, ne_eqb}
use Rattle.cut_lists.specs.Pieces.{Cut, none, before, cut}
use Rattle.cut_lists.proofs.CutLaws.{cut-none, cut_stop, cut_more}
use Rattle.codes.specs.declared.Code.TheVariants.{Powers}
use Rattle.recovery.specs.Recoverable.{State}
use Rattle.inventory.specs.Model.{Change, change, opened, next}
use Rattle.inventory.specs.Steps.{open_step}
use Rattle.inventory.specs.Claim.{size_in}
use Rattle.text.specs.Ascii.{ascii}
use Rattle.text.specs.Decimal.{decimal, field}
use Rattle.text.specs.TextLines.{line_length}
use Rattle.text.proofs.ScanLaws.{line_joined, line_most, line_ends}
use Rattle.replay.specs.Log.{body_of, is_first_line, numbers_of, change_of, is_event_line, number_in}
use Rattle.replay.specs.Lines.{refused_line, spaced}
use Rattle.replay.specs.Replay.{event_line, event_lines, opened_lines, log_lines, replay_of}
use Rattle.replay.specs.Claim.{Arrival, file_added, volume_added, file_removed, volume_removed, letter_of, change_by, first_text, event_text, log_text, lines_of}
use Rattle.replay.specs.Claim.{NoEvent, end_line, LogReplayed, OpeningRefused, FirstLineRefused, LongRefused}
use Rattle.replay.proofs.Shapes.{Without, without_none, without_more, without_append, decimal_without, first_shaped, event_shaped}

abbrev Test : Type 0
Test = State → ℕ → Bool

-- ---- a line and its byte 10

body_line : (l : List ℕ) → body_of (l ++ (10 ∷ [])) ≡ l
body_line l = let k : length (l ++ (10 ∷ [])) - 1 ≡ length l = omega (arith, length-append l (10 ∷ [])) in
    ap (λ (n : ℕ). take n (l ++ (10 ∷ []))) k ∙ take_at l (10 ∷ []) (length l) refl

module _ (l s : List ℕ) (h : Without 10 l) where
  abbrev joined : List ℕ
  joined = (l ++ (10 ∷ [])) ++ s

  line_is : line_length joined ≡ length (l ++ (10 ∷ []))
  line_is = ap line_length (append_assoc l (10 ∷ []) s) ∙ line_joined l s h ∙ sym (length-append l (10 ∷ []))

  line_taken : take (line_length joined) joined ≡ l ++ (10 ∷ [])
  line_taken = ap (λ (j : ℕ). take j joined) line_is ∙ take_at (l ++ (10 ∷ [])) s (length (l ++ (10 ∷ []))) refl

  pub line_some : 0 < line_length joined
  line_some = omega (arith, line_is, length-append l (10 ∷ []))

  pub body_joined : body_of (take (line_length joined) joined) ≡ l
  body_joined = ap body_of line_taken ∙ body_line l

  cut_line : cut line_length joined ≡ before (l ++ (10 ∷ [])) (cut line_length s)
  cut_line = let k = line_some in
      let m = line_most joined in
      cut_more line_length joined (omega arith) k
      ∙ ap₂ (λ (a b : List ℕ). before a (cut line_length b)) line_taken
      (ap (λ (j : ℕ). drop j joined) line_is ∙ drop_at (l ++ (10 ∷ [])) s (length (l ++ (10 ∷ []))) refl)

-- a text that begins with a line
pub begins : (s : List ℕ) → 0 < line_length s → s ≡ (body_of (take (line_length s) s) ++ (10 ∷ [])) ++ drop (line_length s) s
begins s h = let l : List ℕ = take (line_length s - 1) s in
    let e = line_ends s h in
    let b : body_of (take (line_length s) s) ≡ l = ap body_of e ∙ body_line l in
    sym (take-append-drop (line_length s) s) ∙ ap (λ (t : List ℕ). t ++ drop (line_length s) s) (e ∙ ap (λ (t : List ℕ). t ++ (10 ∷ [])) (sym b))

-- ---- the first line

pub spaced_without : (k : ℕ) (ks : List ℕ) → Without 10 (spaced (k ∷ ks))
unfolding flatten
spaced_without k ks = without_append 10 (decimal k) _ (decimal_without 10 (omega arith) k) (rest ks)
  where
    rest : (ks : List ℕ) → Without 10 (flatten (map (field (ascii " ")) ks))
    rest [] = without_none 10
    rest (k ∷ ks) =
        without_more 10 32 (decimal k ++ flatten (map (field (ascii " ")) ks)) (λ z. omega arith)
        (without_append 10 (decimal k) (flatten (map (field (ascii " ")) ks)) (decimal_without 10 (omega arith) k) (rest ks))

pub long_refused : LongRefused
unfolding replay_of
long_refused d log h =
    ap (λ (b : Bool). cond b (log_lines d (cut line_length log).pieces (cut line_length log).rest) (refused_line 1)) (lt-leb (length log) 65536 h)

short : (d : Test) (log : List ℕ) → length log ≤ 65536 → replay_of d log ≡ log_lines d (cut line_length log).pieces (cut line_length log).rest
unfolding replay_of
short d log h =
    ap (λ (b : Bool). cond b (log_lines d (cut line_length log).pieces (cut line_length log).rest) (refused_line 1)) (le-leb (length log) 65536 h)

-- a log that begins with a first line
by_first : (d : Test) (n : ℕ) (sizes s : List ℕ) → length (first_text n sizes ++ s) ≤ 65536
    → replay_of d (first_text n sizes ++ s) ≡ opened_lines d n sizes (cut line_length s).pieces (cut line_length s).rest
unfolding log_lines
by_first d n sizes s h = let body : body_of (first_text n sizes) ≡ spaced (n ∷ sizes) = body_line (spaced (n ∷ sizes)) in
    let ok : is_first_line (body_of (first_text n sizes)) ≡ true = ap is_first_line body ∙ (first_shaped.exactly (spaced (n ∷ sizes))).1 (n, sizes, refl) in
    let ns : numbers_of (body_of (first_text n sizes)) ≡ n ∷ sizes = ap numbers_of body ∙ first_shaped.says n sizes in
    short d (first_text n sizes ++ s) h
    ∙ ap (λ (c : Cut). log_lines d c.pieces c.rest) (cut_line (spaced (n ∷ sizes)) s (spaced_without n sizes))
    ∙ ap₂ (λ (b : Bool) (xs : List ℕ). cond b (opened_lines d (get_or xs 0 0) (drop 1 xs) (cut line_length s).pieces (cut line_length s).rest) (refused_line 28)) ok ns

pub opening-refused : OpeningRefused
unfolding opened_lines
opening-refused d n sizes s q h =
    by_first d n sizes s h
    ∙ ap (λ (b : Bool). cond b (event_lines d (opened Powers n (size_in sizes)) (cut line_length s).pieces (cut line_length s).rest) (refused_line (open_step Powers n sizes).number))
    (ne_eqb (open_step Powers n sizes).number 0 q)

pub first_line_refused : FirstLineRefused
unfolding log_lines
first_line_refused d log none h =
    elim (ℕ_discrete (line_length log) 0) [
      | yes z ↦ short d log h ∙ ap (λ (c : Cut). log_lines d c.pieces c.rest) (cut_stop line_length log z)
      | no q ↦
          let m = line_most log in
          short d log h
          ∙ ap (λ (c : Cut). log_lines d c.pieces c.rest) (cut_more line_length log (omega (arith, q)) (omega (arith, q)))
          ∙ ap (λ (b : Bool). cond b (opened_lines d (get_or (numbers_of first) 0 0) (drop 1 (numbers_of first)) after.pieces after.rest) (refused_line 28))
          (other (is_first_line first) refl (omega (arith, q)))
    ]
  where
    first : List ℕ
    first = body_of (take (line_length log) log)

    after : Cut
    after = cut line_length (drop (line_length log) log)

    other : (b : Bool) → is_first_line (body_of (take (line_length log) log)) ≡ b → 0 < line_length log → is_first_line (body_of (take (line_length log) log)) ≡ false
    other true e l = let (n, sizes, z) = (first_shaped.exactly (body_of (take (line_length log) log))).0 e in
        absurd (none n sizes (drop (line_length log) log) (begins log l ∙ ap (λ (t : List ℕ). (t ++ (10 ∷ [])) ++ drop (line_length log) log) z))
    other false e l = e

-- ---- the events

letter_without : (a : Arrival) → letter_of a ≢ 10
letter_without file_added z = omega arith
letter_without volume_added z = omega arith
letter_without file_removed z = omega arith
letter_without volume_removed z = omega arith

pub event_without : (a : Arrival) (k : ℕ) → Without 10 (letter_of a ∷ code " " ∷ decimal k)
event_without a k =
    without_more 10 (letter_of a) (32 ∷ decimal k) (letter_without a) (without_more 10 32 (decimal k) (λ z. omega arith) (decimal_without 10 (omega arith) k))

-- the lines of events, and what ends them
end_lines : (d : Test) (t : State) (s : List ℕ) → NoEvent s → event_lines d t (cut line_length s).pieces (cut line_length s).rest ≡ end_line s
unfolding event_lines
end_lines d t [] none = ap (λ (c : Cut). event_lines d t c.pieces c.rest) (cut-none line_length)
end_lines d t (x ∷ s) none =
    elim (ℕ_discrete (line_length (x ∷ s)) 0) [
      | yes z ↦ ap (λ (c : Cut). event_lines d t c.pieces c.rest) (cut_stop line_length (x ∷ s) z)
      | no q ↦
          ap (λ (c : Cut). event_lines d t c.pieces c.rest) (cut_more line_length (x ∷ s) (omega arith) (omega (arith, q)))
          ∙ ap (λ (b : Bool). cond b (event_line d t c k ++ event_lines d (next t (change c k)) after.pieces after.rest) (refused_line 28))
          (other (is_event_line line) refl (omega (arith, q)))
    ]
  where
    line : List ℕ
    line = body_of (take (line_length (x ∷ s)) (x ∷ s))

    c : Change
    c = change_of (get_or line 0 0)

    k : ℕ
    k = number_in line

    after : Cut
    after = cut line_length (drop (line_length (x ∷ s)) (x ∷ s))

    other : (b : Bool) → is_event_line (body_of (take (line_length (x ∷ s)) (x ∷ s))) ≡ b → 0 < line_length (x ∷ s)
        → is_event_line (body_of (take (line_length (x ∷ s)) (x ∷ s))) ≡ false
    other true e l = let (a, j, z) = (event_shaped.exactly (body_of (take (line_length (x ∷ s)) (x ∷ s)))).0 e in
        absurd
        (none (a, j) (drop (line_length (x ∷ s)) (x ∷ s))
        (begins (x ∷ s) l ∙ ap (λ (t : List ℕ). (t ++ (10 ∷ [])) ++ drop (line_length (x ∷ s)) (x ∷ s)) z))
    other false e l = e

events_lines : (d : Test) (t : State) (es : List (Arrival × ℕ)) (s : List ℕ) → NoEvent s
    → event_lines d t (cut line_length (flatten (map event_text es) ++ s)).pieces (cut line_length (flatten (map event_text es) ++ s)).rest ≡ lines_of d t es ++ end_line s
unfolding flatten lines_of event_lines
events_lines d t [] s none = end_lines d t s none
events_lines d t (e ∷ es) s none = let a : Arrival = e.0 in
    let k : ℕ = e.1 in
    let text : List ℕ = letter_of a ∷ 32 ∷ decimal k in
    let rest : List ℕ = flatten (map event_text es) ++ s in
    let t' : State = next t (change (change_by a) k) in
    let body : body_of (text ++ (10 ∷ [])) ≡ text = body_line text in
    let ok : is_event_line (body_of (text ++ (10 ∷ []))) ≡ true = ap is_event_line body ∙ (event_shaped.exactly text).1 (a, k, refl) in
    let says = event_shaped.says a k in
    let c : change_of (get_or (body_of (text ++ (10 ∷ []))) 0 0) ≡ change_by a = ap (λ (l : List ℕ). change_of (get_or l 0 0)) body ∙ says.0 in
    let n : number_in (body_of (text ++ (10 ∷ []))) ≡ k = ap number_in body ∙ says.1 in
    ap (λ (l : List ℕ). event_lines d t (cut line_length l).pieces (cut line_length l).rest) (append_assoc (text ++ (10 ∷ [])) (flatten (map event_text es)) s)
    ∙ ap (λ (c : Cut). event_lines d t c.pieces c.rest)
    (cut_line text rest (event_without a k))
    ∙ ap (λ (b : Bool). cond b (event_line d t (change_of (get_or (body_of (text ++ (10 ∷ []))) 0 0)) (number_in (body_of (text ++ (10 ∷ []))))
    ++ event_lines d (next t (change (change_of (get_or (body_of (text ++ (10 ∷ []))) 0 0)) (number_in (body_of (text ++ (10 ∷ []))))))
    (cut line_length rest).pieces (cut line_length rest).rest) (refused_line 28)) ok
    ∙ ap₂ (λ (c : Change) (j : ℕ). event_line d t c j ++ event_lines d (next t (change c j)) (cut line_length rest).pieces (cut line_length rest).rest) c n
    ∙ ap (λ (l : List ℕ). event_line d t (change_by a) k ++ l) (events_lines d t' es s none)
    ∙ sym (append_assoc (event_line d t (change_by a) k) (lines_of d t' es) (end_line s))

pub log_replayed : LogReplayed
unfolding opened_lines
log_replayed d n sizes es s e none h = let rest : List ℕ = flatten (map event_text es) ++ s in
    let z : log_text n sizes es ++ s ≡ first_text n sizes ++ rest = append_assoc (first_text n sizes) (flatten (map event_text es)) s in
    ap (replay_of d) z ∙ by_first d n sizes rest (subst (λ (l : List ℕ). length l ≤ 65536) z h)
    ∙ ap (λ (b : Bool). cond b (event_lines d (opened Powers n (size_in sizes)) (cut line_length rest).pieces (cut line_length rest).rest) (refused_line (open_step Powers n sizes).number))
    (eq-eqb (open_step Powers n sizes).number 0 e)
    ∙ events_lines d (opened Powers n (size_in sizes)) es s none
