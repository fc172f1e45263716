-- What a replay prints, in the words of document 02, 2026-11; the sentences in quotation marks are the request's. Openings and volumes are of Par 1.0's
-- code: 2026-13, "(the replay keeps the old one)".
--
--   Arrival, letter_of a, change_by a     the four kinds of an event, their letters, and their changes
--   first_text n sizes        a first line; byte 10 included, as in the next
--   event_text a k            the line of an event
--   log_text n sizes es       a log of a first line and events
--   files_text ks             the line of the files ks: numbers as a first line has them, or `none`
--   lines_of d t es           the lines after the events es from the state t on, one after another
--   NoEvent s, NoFirst s     s does not begin with the line of an event; with a first line
--   end_line s                what ends a replay before s: nothing where s is empty, else the refusal of a line
--   Ascending ks             each number is less than those after it
--   LineAfter t a k l        l is the line after the event a of number k in the state t: the files that are recoverable then, or the refusal
--   LinesAfter t es ls       ls are the lines after the events es from the state t on
--   TextFor log text         text is what the log prints
--   LogPrints rules log lines    the lines that a program prints that goes by `open`, `next` and `put_line`
-- The claims:
--   EachReplayed             each log is replayed with the text that it prints, in the request's words
-- and what it rests on, and more:
--   Decided                  there is a test that decides which files are recoverable, as Replayed asks for
--   OneText                  what is promised of a replay determines its answer and the room
--   OneLine                  so it is with the line after an event
--   FirstShaped, EventShaped     which lines have the shape, exactly, and what they say
--   LogReplayed              a log that is accepted, up to its end or the first line of another shape
--   OpeningRefused, FirstLineRefused, LongRefused     the other logs; each log is one of these four (EachReplayed, by the cases of TextFor)
--   LargeNumbers             a number that 64 bits do not hold is 1 as a size and 10 elsewhere
--   RecoverableListed        after an accepted event the line has exactly the files that are missing and recoverable, ascending, in the shape
--                            of a first line, which FirstShaped gives
--   EventRefused             after one that is refused it has the refusal
--   LinesThere               for each log there are lines that a program prints
--   LinesJoined, LinesFit    they are the text of the replay, and each line fits its room
--   TextFits                 the text of any log is less than 2^59 bytes long
--   ExamplePrints            the request's example
-- No claim is empty: each log has its text (EachReplayed), the test is there (Decided), every log has lines (LinesThere), and the example has an
-- accepted log, events that are accepted and one that is refused.
-- Assumes nothing.
use Rattle.std.specs.Prelude.{ℕ, ◌^◌, ◌<◌, ◌≤◌, ◌≡◌, ◌↔◌, ◌≢◌, Bool, true, false, length, get_or}
use Prim.Native.Char.{code}
use mathlib.Core.List.{List, [], ◌∷◌, ◌++◌, map, flatten, Memᴰ}
use Rattle.cut_lists.specs.All.{All}
use Rattle.lent_bytes.specs.Writing.{written}
use Rattle.lent_bytes.specs.Writing.{Writing}
use Rattle.parity.specs.Coefficient.{coefficient, rule_of}
use Rattle.codes.specs.declared.Code.{Code}
use Rattle.codes.specs.declared.Code.TheVariants.{Powers}
use Rattle.recovery.specs.Recoverable.{State, RecoverableNow}
use Rattle.inventory.specs.Model.{Change, add_file, remove_file, add_volume, remove_volume, change, opened, number_of, next}
use Rattle.inventory.specs.Steps.{open_step}
use Rattle.inventory.specs.Claim.{size_in}
use Rattle.text.specs.Ascii.{ascii}
use Rattle.text.specs.Decimal.{decimal}
use Rattle.replay.specs.Log.{is_first_line, numbers_of, change_of, is_event_line, number_in}
use Rattle.replay.specs.Lines.{refused_line, spaced}
use Rattle.replay.specs.Replay.{Decides, event_line, replay_of, Replayed}
use Rattle.replay.specs.Events.{opening, EventLine, Prints}
use Rattle.replay.specs.declared.events.Event.{Event}

-- ---- logs as text

-- ""F 7" and "V 4" for noted, "f 7" and "v 4" for withdrawn"
pub data Arrival : Type 0 where
  file_added volume_added file_removed volume_removed : Arrival

abbrev pub letter_of : Arrival → ℕ
letter_of file_added = code "F"
letter_of volume_added = code "V"
letter_of file_removed = code "f"
letter_of volume_removed = code "v"

abbrev pub change_by : Arrival → Change
change_by file_added = add_file
change_by volume_added = add_volume Powers
change_by file_removed = remove_file
change_by volume_removed = remove_volume

-- "a first line with the number of files and their sizes, .. decimal without leading zeros, single spaces, byte 10 after each"
abbrev pub first_text : ℕ → List ℕ → List ℕ
first_text n sizes = spaced (n ∷ sizes) ++ (10 ∷ [])

abbrev pub event_text : Arrival × ℕ → List ℕ
event_text e = (letter_of e.0 ∷ code " " ∷ decimal e.1) ++ (10 ∷ [])

abbrev pub log_text : ℕ → List ℕ → List (Arrival × ℕ) → List ℕ
log_text n sizes es = first_text n sizes ++ flatten (map event_text es)

-- "the file numbers .., ascending, or `none`, .. in lines of the same shape"
abbrev pub files_text : List ℕ → List ℕ
files_text [] = ascii "none\n"
files_text (k ∷ ks) = first_text k ks

unfoldable pub lines_of : (State → ℕ → Bool) → State → List (Arrival × ℕ) → List ℕ
lines_of d t [] = []
lines_of d t (e ∷ es) = event_line d t (change_by e.0) e.1 ++ lines_of d (next t (change (change_by e.0) e.1)) es

abbrev pub NoEvent : List ℕ → Type 0
NoEvent s = (e : Arrival × ℕ) (r : List ℕ) → s ≢ event_text e ++ r

abbrev pub NoFirst : List ℕ → Type 0
NoFirst s = (n : ℕ) (sizes r : List ℕ) → s ≢ first_text n sizes ++ r

abbrev pub end_line : List ℕ → List ℕ
end_line [] = []
end_line (b ∷ s) = refused_line 28

abbrev pub Ascending : List ℕ → Type 0
Ascending ks = (i j : ℕ) → i < j → j < length ks → get_or ks i 0 < get_or ks j 0

-- ---- what a log prints

-- "After each event a program prints the file numbers that are rebuildable now, ascending, or `none`, or `refused N`", "in lines of the same shape"
pub data LineAfter (t : State) (a : Arrival) (k : ℕ) : List ℕ → Type 0 where
  files : number_of t (change_by a) k ≡ 0
      → (ks : List ℕ) → Ascending ks → ((f : ℕ) → Memᴰ f ks ↔ RecoverableNow coefficient (next t (change (change_by a) k)) f)
      → LineAfter t a k (files_text ks)
  refused : number_of t (change_by a) k ≢ 0 → LineAfter t a k (ascii "refused " ++ (decimal (number_of t (change_by a) k) ++ (10 ∷ [])))

-- "and goes on"
pub data LinesAfter : State → List (Arrival × ℕ) → List (List ℕ) → Type 0 where
  no_more : {t : State} → LinesAfter t [] []
  one_more : {t : State} {a : Arrival} {k : ℕ} {es : List (Arrival × ℕ)} {l : List ℕ} {ls : List (List ℕ)}
      → LineAfter t a k l → LinesAfter (next t (change (change_by a) k)) es ls → LinesAfter t ((a, k) ∷ es) (l ∷ ls)

-- "a first line with the number of files and their sizes, then one line per event", and what is left of the log, s: nothing, or "a line of another
-- shape, .. or an unended last one included, which ends the replay"; "so does 10 or 1 from opening", and "28 for a line of another shape, the first (or
-- none)"; "A log above 65,536 bytes gives only `refused 1`"
pub data TextFor : List ℕ → List ℕ → Type 0 where
  of_events : (n : ℕ) (sizes : List ℕ) (es : List (Arrival × ℕ)) (s : List ℕ) (lines : List (List ℕ))
      → (open_step Powers n sizes).number ≡ 0 → NoEvent s → length (log_text n sizes es ++ s) ≤ 65536
      → LinesAfter (opened Powers n (size_in sizes)) es lines → TextFor (log_text n sizes es ++ s) (flatten lines ++ end_line s)
  of_opening : (n : ℕ) (sizes s : List ℕ) → (open_step Powers n sizes).number ≢ 0 → length (first_text n sizes ++ s) ≤ 65536
      → TextFor (first_text n sizes ++ s) (refused_line (open_step Powers n sizes).number)
  of_no_first : (log : List ℕ) → NoFirst log → length log ≤ 65536 → TextFor log (refused_line 28)
  of_too_long : (log : List ℕ) → 65536 < length log → TextFor log (refused_line 1)

pub data LogPrints (rules : Code → ℕ → ℕ → ℕ) (log : List ℕ) : List (List ℕ) → Type 0 where
  at_once : {line : List ℕ} → (opening log).over ≡ true → EventLine rules (opening log) line → LogPrints rules log (line ∷ [])
  by_events : {lines : List (List ℕ)} → (opening log).over ≡ false → Prints rules log (opening log) lines → LogPrints rules log lines

-- ---- the promise

-- every log has one text; the call gives it, where it fits the room; and a program prints it that goes by `open`, `next` and `put_line`
-- proved: proofs/EachReplayed.antt, `each_replayed`
pub record EachReplayed : Type 0 where
  pub there : (log : List ℕ) → (text : List ℕ) × TextFor log text
  pub one : (log text text' : List ℕ) → TextFor log text → TextFor log text' → text ≡ text'
  pub called : (log text : List ℕ) → TextFor log text → (out : List ℕ) (r : Writing × List ℕ) → Replayed coefficient log out r → r ≡ written text out
  pub printed : (log text : List ℕ) → TextFor log text → (lines : List (List ℕ)) → LogPrints rule_of log lines → flatten lines ≡ text

-- proved: proofs/Determined.antt, `decided`
abbrev pub Decided : Type 0
Decided = (d : State → ℕ → Bool) × Decides coefficient d

-- proved: proofs/Determined.antt, `one_text`
abbrev pub OneText : Type 0
OneText = (log out : List ℕ) (r r' : Writing × List ℕ) → Replayed coefficient log out r → Replayed coefficient log out r' → r ≡ r'

-- proved: proofs/Determined.antt, `one_line`
abbrev pub OneLine : Type 0
OneLine = (e : Event) (l l' : List ℕ) → EventLine rule_of e l → EventLine rule_of e l' → l ≡ l'

-- ---- the shape of lines, without their byte 10

-- proved: proofs/Shapes.antt, `first_shaped`
pub record FirstShaped : Type 0 where
  pub exactly : (l : List ℕ) → (is_first_line l ≡ true) ↔ ((n : ℕ) × (sizes : List ℕ) × (l ≡ spaced (n ∷ sizes)))
  pub says : (n : ℕ) (sizes : List ℕ) → numbers_of (spaced (n ∷ sizes)) ≡ n ∷ sizes

-- proved: proofs/Shapes.antt, `event_shaped`
pub record EventShaped : Type 0 where
  pub exactly : (l : List ℕ) → (is_event_line l ≡ true) ↔ ((a : Arrival) × (k : ℕ) × (l ≡ letter_of a ∷ code " " ∷ decimal k))
  pub says : (a : Arrival) (k : ℕ) → (change_of (letter_of a) ≡ change_by a) × (number_in (letter_of a ∷ code " " ∷ decimal k) ≡ k)

-- ---- the text

-- "After each event a program prints .. and goes on"; "28 for a line of another shape, .. or an unended last one included, which ends the replay"
-- proved: proofs/Logs.antt, `log_replayed`
abbrev pub LogReplayed : Type 0
LogReplayed =
    (d : State → ℕ → Bool) (n : ℕ) (sizes : List ℕ) (es : List (Arrival × ℕ)) (s : List ℕ)
    → (open_step Powers n sizes).number ≡ 0 → NoEvent s → length (log_text n sizes es ++ s) ≤ 65536
    → replay_of d (log_text n sizes es ++ s) ≡ lines_of d (opened Powers n (size_in sizes)) es ++ end_line s

-- "so does 10 or 1 from opening, 10 too if the sizes are more or fewer than the first number says"; which of them it is says OpeningNumbers of
-- `inventory` specs/Claim
-- proved: proofs/Logs.antt, `opening-refused`
abbrev pub OpeningRefused : Type 0
OpeningRefused =
    (d : State → ℕ → Bool) (n : ℕ) (sizes s : List ℕ) → (open_step Powers n sizes).number ≢ 0 → length (first_text n sizes ++ s) ≤ 65536
    → replay_of d (first_text n sizes ++ s) ≡ refused_line (open_step Powers n sizes).number

-- "28 for a line of another shape, the first (or none)"
-- proved: proofs/Logs.antt, `first_line_refused`
abbrev pub FirstLineRefused : Type 0
FirstLineRefused = (d : State → ℕ → Bool) (log : List ℕ) → NoFirst log → length log ≤ 65536 → replay_of d log ≡ refused_line 28

-- "A log above 65,536 bytes gives only `refused 1`"
-- proved: proofs/Logs.antt, `long_refused`
abbrev pub LongRefused : Type 0
LongRefused = (d : State → ℕ → Bool) (log : List ℕ) → 65536 < length log → replay_of d log ≡ refused_line 1

-- "A number too large to hold is 1 as a size and 10 elsewhere."; which OpeningRefused and EventRefused print; of openings by OpeningNumbers of
-- `inventory` specs/Claim
-- proved: proofs/Refusals.antt, `large_numbers`
pub record LargeNumbers : Type 0 where
  pub as_size : (n : ℕ) (sizes : List ℕ) → 1 ≤ n → n ≤ 254 → length sizes ≡ n
      → (i : ℕ) → i < n → 2 ^ 64 ≤ get_or sizes i 0 → (open_step Powers n sizes).number ≡ 1
  pub as_first : (n : ℕ) (sizes : List ℕ) → 2 ^ 64 ≤ n → (open_step Powers n sizes).number ≡ 10
  pub in_event : (t : State) → t.n ≤ 254 → (a : Arrival) (k : ℕ) → 2 ^ 64 ≤ k → number_of t (change_by a) k ≡ 10

-- "the file numbers that are rebuildable now, ascending, or `none`, .. in lines of the same shape"
-- proved: proofs/Files.antt, `recoverable_listed`
abbrev pub RecoverableListed : Type 0
RecoverableListed =
    (d : State → ℕ → Bool) → Decides coefficient d → (t : State) → t.n ≤ 254 → (c : Change) (k : ℕ) → number_of t c k ≡ 0
    → (ks : List ℕ) × Ascending ks × ((f : ℕ) → Memᴰ f ks ↔ RecoverableNow coefficient (next t (change c k)) f)
    × (event_line d t c k ≡ files_text ks)

-- "or `refused N`"
-- proved: proofs/Files.antt, `event_refused`
abbrev pub EventRefused : Type 0
EventRefused =
    (d : State → ℕ → Bool) (t : State) (c : Change) (k : ℕ) → number_of t c k ≢ 0
    → event_line d t c k ≡ ascii "refused " ++ (decimal (number_of t c k) ++ (10 ∷ []))

-- ---- line by line

-- proved: proofs/Joined.antt, `lines_there`
abbrev pub LinesThere : Type 0
LinesThere = (log : List ℕ) → (lines : List (List ℕ)) × LogPrints rule_of log lines

-- proved: proofs/Joined.antt, `lines_joined`
abbrev pub LinesJoined : Type 0
LinesJoined =
    (log : List ℕ) (lines : List (List ℕ)) → LogPrints rule_of log lines
    → (d : State → ℕ → Bool) → Decides coefficient d → flatten lines ≡ replay_of d log

-- proved: proofs/LineLengths.antt, `lines_fit`
abbrev pub LinesFit : Type 0
LinesFit = (log : List ℕ) (lines : List (List ℕ)) → LogPrints rule_of log lines → All (λ line. length line ≤ 1024) lines

-- proved: proofs/Lengths.antt, `text_fits`
abbrev pub TextFits : Type 0
TextFits = (d : State → ℕ → Bool) (log : List ℕ) → length (replay_of d log) < 2 ^ 59

-- "So `2 2 1`, `V 2`, `F 1`, `V 2` print `none`, `2`, `refused 11`."
-- proved: proofs/Examples.antt, `example_prints`
abbrev pub ExamplePrints : Type 0
ExamplePrints =
    (d : State → ℕ → Bool) → Decides coefficient d
    → replay_of d (ascii "2 2 1\nV 2\nF 1\nV 2\n") ≡ ascii "none\n2\nrefused 11\n"
