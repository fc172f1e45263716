-- The model (document 01, "The sheet": the tally; document 02, 2026-10, 2026-13): what each call answers, worked out from the opening and the
-- calls alone.
--
--   Change                     what adding, removing, quarantine and release change; adding a volume names its code
--   Call, Reply                the calls, and what comes back: a number and values
--   numbered k, counts f v q, queried k room     the replies to a change, a count, a query
--   opened c n size            a set of n files of these sizes, nothing present, opened for the code c
--   with_files t s              the state t with the files of the set s present
--   with_volumes t s q          the state t with the volumes of the set s present, and those of the set q quarantined
--   insert f s, remove f s     the set s with f, without f
--   changed c t k              the state t after the change c of number k
--   number_of t c k             the number of that change
--   next t c                   the state after the call c
--   after t cs                 the state after the calls cs
--   GivesMissing rule t f room r      the model's reply to a query for the missing file f is r
--   GivesQuery rule t f room i h r    that to any query, where i says whether f is in range, h whether it is present
--   Gives rules t c r          the model's reply to the call c is r, the rule for the coefficients being that of the state's code
--   GivesAll rules t cs rs     its replies to the calls cs, one after another, are rs
-- Assumes nothing.
use Rattle.std.specs.Prelude.{◌≡◌, Bool, true, false, not, cond, ◌&&◌, ◌||◌, List, [], ◌∷◌, ◌++◌, ℕ, ◌<◌, ◌≤◌, eqb, length, drop}
use Rattle.parity.specs.Parity.{is_file}
use Rattle.number_sets.specs.Sets.{size_below}
use Rattle.codes.specs.Codes.{same}
use Rattle.codes.specs.declared.Code.{Code}
use Rattle.recovery.specs.Recoverable.{State, is_volume, Recoverable, IsWeights}

-- ---- calls and replies

-- "note or withdraw a file, note or withdraw a volume", "setting aside and taking back too" (2026-10), "noting a volume names its code" (2026-13)
pub data Change : Type 0 where
  add_file remove_file : Change
  add_volume : Code → Change
  remove_volume quarantine release : Change

-- "each call with its lent room and its arguments other than the sheet"
pub data Call : Type 0 where
  change : Change → ℕ → Call
  count : Call
  query : ℕ → List ℕ → Call

-- what comes back: a number, 0 where the call is accepted, and values
pub data Reply : Type 0 where
  reply : ℕ → List ℕ → Reply

abbrev pub numbered : ℕ → Reply
numbered k = reply k []

-- "how many files and how many volumes are in hand"; "The sheet also counts those set aside."
abbrev pub counts : ℕ → ℕ → ℕ → Reply
counts files volumes quarantined = reply 0 (files ∷ volumes ∷ quarantined ∷ [])

-- the number of an answer or a refusal, and the room afterwards
abbrev pub queried : ℕ → List ℕ → Reply
queried k room = reply k room

-- ---- states

-- "n, the sizes, and which files and volumes are in hand, none at first"; "A sheet is opened for one code or the other"
abbrev pub opened : Code → ℕ → (ℕ → ℕ) → State
opened c n size = record { n = n; size = size; files = λ f. false; volumes = λ v. false; quarantined = λ v. false; code = c }

abbrev pub with_files : State → (ℕ → Bool) → State
with_files t s = record { n = t.n; size = t.size; files = s; volumes = t.volumes; quarantined = t.quarantined; code = t.code }

abbrev pub with_volumes : State → (ℕ → Bool) → (ℕ → Bool) → State
with_volumes t s q = record { n = t.n; size = t.size; files = t.files; volumes = s; quarantined = q; code = t.code }

abbrev pub insert : ℕ → (ℕ → Bool) → ℕ → Bool
insert f s g = eqb g f || s g

abbrev pub remove : ℕ → (ℕ → Bool) → ℕ → Bool
remove f s g = not (eqb g f) && s g

-- ---- changes

-- "and f is in hand", "and f no longer is"; "setting aside counts as withdrawal", "taking it back counts as noting"; a withdrawn volume "is
-- then neither in hand nor set aside"
unfoldable pub changed : Change → State → ℕ → State
changed add_file t f = with_files t (insert f t.files)
changed remove_file t f = with_files t (remove f t.files)
changed (add_volume c) t v = with_volumes t (insert v t.volumes) t.quarantined
changed remove_volume t v = with_volumes t (remove v t.volumes) (remove v t.quarantined)
changed quarantine t v = with_volumes t (remove v t.volumes) (insert v t.quarantined)
changed release t v = with_volumes t (insert v t.volumes) (remove v t.quarantined)

-- "Note file f: 10 if f is not 1 to n, 11 if f is in hand; else accepted", "Withdraw file f: 10 the same, 11 if f is not in hand; else
-- accepted", "Volume v: the same, with 1 to 255 - n for its range"; "27 noted while set aside; 11 for setting aside what is not in hand, or
-- taking back what is not set aside; number checks first", "Withdrawing a set-aside volume is accepted"; "29 a volume of the other code noted,
-- after 10, before 27 and 11" (2026-13)
unfoldable pub number_of : State → Change → ℕ → ℕ
number_of t add_file f = cond (is_file t.n f) (cond (t.files f) 11 0) 10
number_of t remove_file f = cond (is_file t.n f) (cond (t.files f) 0 11) 10
number_of t (add_volume c) v = cond (is_volume t.n v) (cond (same c t.code) (cond (t.quarantined v) 27 (cond (t.volumes v) 11 0)) 29) 10
number_of t remove_volume v = cond (is_volume t.n v) (cond (t.volumes v || t.quarantined v) 0 11) 10
number_of t quarantine v = cond (is_volume t.n v) (cond (t.volumes v) 0 11) 10
number_of t release v = cond (is_volume t.n v) (cond (t.quarantined v) 0 11) 10

-- "A refused call changes nothing"
unfoldable pub next : State → Call → State
next t (change c k) = cond (eqb (number_of t c k) 0) (changed c t k) t
next t count = t
next t (query f room) = t

unfoldable pub after : State → List Call → State
after t [] = t
after t (c ∷ cs) = after (next t c) cs

-- ---- what the model gives

module _ (rule : ℕ → ℕ → ℕ) where
  -- "12 if not rebuildable; 14 if the room is below 255 bytes; else rebuildable, and the recipe becomes the room's first
  -- 255 bytes .. other room bytes stay"
  pub data GivesMissing (t : State) (f : ℕ) (room : List ℕ) : Reply → Type 0 where
    undetermined : ¬ Recoverable rule t f → GivesMissing t f room (queried 12 room)
    no_room : Recoverable rule t f → length room < 255 → GivesMissing t f room (queried 14 room)
    recoverable : Recoverable rule t f → 255 ≤ length room → (w : List ℕ) → IsWeights rule t f w
        → GivesMissing t f room (queried 0 (w ++ drop 255 room))

  -- "Ask about f: 10 if f is not 1 to n; 13 if in hand; .."
  abbrev pub GivesQuery : State → ℕ → List ℕ → Bool → Bool → Reply → Type 0
  GivesQuery t f room false has r = r ≡ queried 10 room
  GivesQuery t f room true true r = r ≡ queried 13 room
  GivesQuery t f room true false r = GivesMissing t f room r

module _ (rules : Code → ℕ → ℕ → ℕ) where
  unfoldable pub Gives : State → Call → Reply → Type 0
  Gives t (change c k) r = r ≡ numbered (number_of t c k)
  Gives t count r = r ≡ counts (size_below 256 t.files) (size_below 256 t.volumes) (size_below 256 t.quarantined)
  Gives t (query f room) r = GivesQuery (rules t.code) t f room (is_file t.n f) (t.files f) r

  unfoldable pub GivesAll : State → List Call → List Reply → Type 0
  GivesAll t [] [] = Unit {0}
  GivesAll t [] (r ∷ rs) = ⊥
  GivesAll t (c ∷ cs) [] = ⊥
  GivesAll t (c ∷ cs) (r ∷ rs) = Gives t c r × GivesAll (next t c) cs rs
