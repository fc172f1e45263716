-- The walk over a list (document 01, "Byte layout": "Entries fill the list area with nothing left over"; document 02, 2026-01: "Entries are
-- walked from the first; the first fault is given with the entry's place in the list, from 1").
--
--   Walked            what the walk finds: the totals of the entries to its end, or the refusal of the first that breaks a rule
--   fault_of s        the first rule that the entry at the front of s breaks, where it breaks one
--   fault_number f    the number of the refusal for a fault
--   refusal_at f p    the refusal for a fault of the entry at place p
--   Item              what a list begins with: an entry, as numbers, nothing, or a fault
--   numbers_of e      the entry e, as numbers
--   item_of e         the item that the entry e is
--   first_of s        what s begins with
--   entries_of s      the entries of s up to the first fault, and the rest of s
--   greatest_of es    the greatest file size of the entries es that count for the data size
--   totals_of es      how many entries es are, how many of them are saved, and the greatest size
--   add_entry t st n  the totals t and an entry more, with the status st and the file size n
--   saturating_add_entry t st n    the same, but with counts that stop at the greatest number of 64 bits
--   walked_to t s     the totals t, where s, which remains after their entries, is empty; or the refusal of the entry at its front
--   walk_of s         the totals of the entries of s, where they fill it; or the refusal of the first entry that breaks a rule
-- Assumes nothing.
use Rattle.std.specs.Prelude.{ℕ, ◌+◌, ◌-◌, ◌^◌, min, max, cond, length, take, Option, Some, None, Result, Ok, Err}
use mathlib.Core.List.{List, [], ◌∷◌, map, foldr}
use Rattle.cut_lists.specs.Pieces.{Cut, cut}
use Rattle.refusals.specs.declared.Refusal.{Refusal}
use Rattle.entries.specs.Entry.{entry_size, status_of, file_size_of, saved_count, is_counted, entry_size_allowed, file_size_allowed, entry_allowed, length_of}
use Rattle.entries.specs.Numbering.{keep, saved_of}
use Rattle.entries.specs.declared.Entry.{Entry}
use Rattle.entries.specs.declared.Fault.{Fault}
use Rattle.entries.specs.declared.Fault.TheVariants.{Size, FileSize, Name}
use Rattle.entries.specs.declared.Totals.{Totals}

abbrev pub Walked : Type 0
Walked = Result Totals Refusal

abbrev pub Item : Type 0
Item = Result (Option Entry) Fault

-- "Within an entry in that order": the entry's size, its file's size, its name
unfoldable pub fault_of : List ℕ → Fault
fault_of s =
    cond (entry_size_allowed (entry_size s) (length s)) (cond (file_size_allowed (file_size_of (take (entry_size s) s))) Name FileSize) Size

-- "16 entry size odd, below 58, past the list's end or .. fewer than 8 bytes left; 17 file size above the limit ..; 18 name unit not allowed";
-- 2026-14, for names: "18, as for the slashes"
abbrev pub fault_number : Fault → ℕ
fault_number Size = 16
fault_number FileSize = 17
fault_number Name = 18

abbrev pub refusal_at : Fault → ℕ → Refusal
refusal_at f place = record { number = fault_number f; place = place }

abbrev pub numbers_of : List ℕ → Entry
numbers_of e = record { length = length e; status = status_of e; size = file_size_of e }

abbrev pub item_of : List ℕ → Item
item_of e = Ok (Some (numbers_of e))

unfoldable pub first_of : List ℕ → Item
first_of [] = Ok None
first_of (b ∷ s) =
    cond (entry_allowed (b ∷ s)) (item_of (take (entry_size (b ∷ s)) (b ∷ s))) (Err (fault_of (b ∷ s)))

abbrev pub entries_of : List ℕ → Cut
entries_of s = cut length_of s

abbrev pub greatest_of : List (List ℕ) → ℕ
greatest_of es = foldr max 0 (map (λ e. file_size_of e) (keep (λ e. is_counted (status_of e)) es))

abbrev pub totals_of : List (List ℕ) → Totals
totals_of es = record { entries = length es; saved = length (saved_of es); greatest = greatest_of es }

unfoldable pub add_entry : Totals → ℕ → ℕ → Totals
add_entry t status size =
    record {
      entries = t.entries + 1;
      saved = t.saved + saved_count status;
      greatest = cond (is_counted status) (max t.greatest size) t.greatest;
    }

-- as code counts, in 64 bits
unfoldable pub saturating_add_entry : Totals → ℕ → ℕ → Totals
saturating_add_entry t status size =
    record {
      entries = min (t.entries + 1) (2 ^ 64 - 1);
      saved = min (t.saved + saved_count status) (2 ^ 64 - 1);
      greatest = cond (is_counted status) (max t.greatest size) t.greatest;
    }

-- the entry at the front of what remains comes after those of the totals
abbrev pub walked_to : Totals → List ℕ → Walked
walked_to t [] = Ok t
walked_to t (b ∷ s) = Err (refusal_at (fault_of (b ∷ s)) (t.entries + 1))

unfoldable pub walk_of : List ℕ → Walked
walk_of s = walked_to (totals_of (entries_of s).pieces) (entries_of s).rest
