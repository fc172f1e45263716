-- What differs in marks only. A mark is a bit of a status but bit 0 (document 01: "Bit 0 of the status: saved in the parity. Bit 1: checked. Other
-- bits are kept and ignored"; document 02, 2026-09, of bit 1: "nothing acts on it").
--
--   unmarked st          the status st without its marks
--   Pairs R xs ys        the lists xs and ys are as long as each other, and R holds of their elements at each place
--   EntryAlike e g       the entries e and g differ in marks at most
--   SizeRight e          the entry e has a size that keeps the rules
--   ListsAlike s t       the lists s and t differ in marks of entries at most
--   AlikeButMarks f g    so do the files f and g, and in the control hash, which is right in both or in neither
--   FileAlike x y        the file y is x, with other marks
-- Assumes nothing.
use Rattle.std.specs.Prelude.{◌≡◌, true, ◌↔◌, List, [], ◌∷◌, ◌++◌, ℕ, ◌%◌, ◌^◌, ◌<◌, length, take, drop}
use Rattle.entries.specs.Entry.{entry_size, status_of, entry_size_allowed}
use Rattle.par1_rules.specs.Layout.{control_hash_of, list_of, data_of}
use Rattle.par1_rules.specs.Hashes.{control_hash}
use Rattle.par1_set.specs.Files.{File}

-- bit 0
abbrev pub unmarked : ℕ → ℕ
unmarked status = status % 2

pub data Pairs {A : Type 0} (R : A → A → Type 0) : List A → List A → Type 0 where
  pairs_none : Pairs R [] []
  pairs_more : {x y : A} {xs ys : List A} → R x y → Pairs R xs ys → Pairs R (x ∷ xs) (y ∷ ys)

-- ---- entries: "64-bit entry size (itself included), 64-bit status", then the rest

pub record EntryAlike (e g : List ℕ) : Type 0 where
  pub length-same : length e ≡ length g
  pub size_same : take 8 e ≡ take 8 g
  pub status_alike : unmarked (status_of e) ≡ unmarked (status_of g)
  pub rest-same : drop 16 e ≡ drop 16 g

-- ---- lists, right or wrong

-- "An entry size is even and at least 58"; what the entry says may break a rule
pub record SizeRight (e : List ℕ) : Type 0 where
  pub fills : entry_size e ≡ length e
  pub size_right : entry_size_allowed (length e) (length e) ≡ true

pub data ListsAlike : List ℕ → List ℕ → Type 0 where
  rest-same : (s : List ℕ) → ListsAlike s s
  entry_more : {e g s t : List ℕ} → SizeRight e → EntryAlike e g → ListsAlike s t → ListsAlike (e ++ s) (g ++ t)

-- ---- files, accepted or not

-- "At 16: control hash .. At 32: set hash. Then six 64-bit numbers", the list and the data
pub record AlikeButMarks (f g : List ℕ) : Type 0 where
  pub length-same : length f ≡ length g
  pub first_same : take 16 f ≡ take 16 g
  pub header_same : take 64 (drop 32 f) ≡ take 64 (drop 32 g)
  pub lists_alike : ListsAlike (list_of f) (list_of g)
  pub data_same : data_of f ≡ data_of g
  -- "the MD5 of all bytes from 32 to the end": each file has its own
  pub controls_alike : (control_hash_of f ≡ control_hash f) ↔ (control_hash_of g ≡ control_hash g)

-- ---- files that are listed

pub record FileAlike (x y : File) : Type 0 where
  pub contents_same : x.contents ≡ y.contents
  pub status_alike : unmarked x.status ≡ unmarked y.status
  -- "64-bit status"
  pub status_fits : y.status < 2 ^ 64
  pub name_same : x.name ≡ y.name
