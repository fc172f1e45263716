-- Which refusal the walk over a list gives (document 02, 2026-01: "Entries are walked from the first; the first fault is given with the
-- entry's place in the list, from 1. .. Within an entry in that order").
--
--   Keeps e           the bytes e are an entry that keeps every rule
--   Breaks s n        n is the number of the first rule that the entry at the front of s breaks
--   FirstFault s r    r is the refusal of the first entry of s that breaks a rule
--   FirstRefused      the walk over a list refuses it with r exactly where r is that
--   StrayBytes        bytes that are too few for an entry break the rule on its size
--   BadUnit u         the unit u may stand in no name
--   Unstorable us     the units us are no name: one of them may stand in none, or they are "." or ".."
--   BadName n         the bytes n are no name: they have no unit, or half a unit, or are unstorable
--   NameRule          name_allowed fails of a name exactly where it is that
--   NamesRefused      an entry of the right sizes is refused with 18 exactly where its name is unstorable
-- The contract of walk cites walk_of; the contracts of the other calls that meet a name lead to name_allowed.
-- Assumes nothing.
use Rattle.std.specs.Prelude.{◌≡◌, true, false, ◌⊎◌, ℕ, ◌+◌, ◌%◌, ◌<◌, length, take, get_or, Err}
use mathlib.Core.List.{List, [], ◌∷◌, ◌++◌, flatten}
use Rattle.refusals.specs.declared.Refusal.{Refusal}
use Rattle.cut_lists.specs.All.{All}
use Rattle.entries.specs.Entry.{entry_size, file_size_of, name_of, units_of, entry_size_allowed, file_size_allowed, name_allowed}
use Rattle.entries.specs.Walk.{walk_of}

pub record Keeps (e : List ℕ) : Type 0 where
  pub fills : entry_size e ≡ length e
  pub size_right : entry_size_allowed (length e) (length e) ≡ true
  pub file_size_right : file_size_allowed (file_size_of e) ≡ true
  pub name_right : name_allowed (name_of e) ≡ true

-- "16 entry size ..; 17 file size above the limit ..; 18 name unit not allowed"
pub data Breaks (s : List ℕ) : ℕ → Type 0 where
  breaks_size : entry_size_allowed (entry_size s) (length s) ≡ false → Breaks s 16
  breaks_file_size : entry_size_allowed (entry_size s) (length s) ≡ true → file_size_allowed (file_size_of (take (entry_size s) s)) ≡ false
      → Breaks s 17
  breaks_name : entry_size_allowed (entry_size s) (length s) ≡ true → file_size_allowed (file_size_of (take (entry_size s) s)) ≡ true
      → name_allowed (name_of (take (entry_size s) s)) ≡ false → Breaks s 18

pub record FirstFault (s : List ℕ) (r : Refusal) : Type 0 where
  -- the entries before it keep every rule
  pub earlier : List (List ℕ)
  pub keep : All Keeps earlier
  -- it stands at the front of the rest
  pub rest : List ℕ
  pub joined : flatten earlier ++ rest ≡ s
  pub some : 0 < length rest
  pub breaks : Breaks rest r.number
  pub place_is : r.place ≡ length earlier + 1

-- proved: proofs/FirstFaults.antt, `first_refused`
abbrev pub FirstRefused : Type 0
FirstRefused =
    (s : List ℕ) (r : Refusal) → (walk_of s ≡ Err r → FirstFault s r) × (FirstFault s r → walk_of s ≡ Err r)

-- "or fewer than 8 bytes left": no entry has fewer than 58; proved: proofs/FirstFaults.antt, `stray_bytes`
abbrev pub StrayBytes : Type 0
StrayBytes = (s : List ℕ) → 0 < length s → length s < 58 → Breaks s 16

-- ---- names (document 02, 2026-14: "Units 0 and 58 (":") are now not allowed anywhere, nor the whole names "." and "..". .. Refusals: 18, as
-- ---- for the slashes.")

abbrev pub BadUnit : ℕ → Type 0
BadUnit u = (u ≡ 0) ⊎ (u ≡ 47) ⊎ (u ≡ 58) ⊎ (u ≡ 92)

pub data Unstorable (us : List ℕ) : Type 0 where
  bad_unit : (k : ℕ) → k < length us → BadUnit (get_or us k 0) → Unstorable us
  one_dot : us ≡ 46 ∷ [] → Unstorable us
  two_dots : us ≡ 46 ∷ 46 ∷ [] → Unstorable us

-- "in writing also a name empty or of odd length"
pub data BadName (name : List ℕ) : Type 0 where
  empty : length name ≡ 0 → BadName name
  odd : length name % 2 ≡ 1 → BadName name
  unstorable : Unstorable (units_of name) → BadName name

-- proved: proofs/NameFaults.antt, `name_rule`
abbrev pub NameRule : Type 0
NameRule = (name : List ℕ) → (name_allowed name ≡ false → BadName name) × (BadName name → name_allowed name ≡ false)

-- with FirstRefused: at its place in the list, where it is the first that breaks a rule; proved: proofs/NameFaults.antt, `names_refused`
abbrev pub NamesRefused : Type 0
NamesRefused =
    (s : List ℕ) → entry_size_allowed (entry_size s) (length s) ≡ true → file_size_allowed (file_size_of (take (entry_size s) s)) ≡ true
    → (Breaks s 18 → Unstorable (units_of (name_of (take (entry_size s) s)))) × (Unstorable (units_of (name_of (take (entry_size s) s))) → Breaks s 18)
