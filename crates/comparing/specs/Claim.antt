-- Request 2026-06: what the lines of a comparison tell, in the document's words. They speak of lines_of, whose text is comparison_of, which the
-- contract of compare cites.
--
--   IsAccepted f, RefusedWith f n   reading accepts the file f, and refuses it with the number n
--   Compared f g            both are bytes that reading accepts
--   HeadDiffers h f g       the field h of the headers of f and g differs
--   HasEntry f p, entry_at f p       the file f has an entry at place p, from 1, and that entry
--   EntryDiffers e x y      the field e of the entries x and y differs
--   OnlyOne A B             one of both holds
--   HasByte f p, byte_at f p the file f has a data byte at place p, from 0, and that byte
--   DataDiffers f g p       the data of f and g differs at place p
--   InRun p ls              the place p lies in a run of the lines ls
--   head_place h, entry_place e       where a field lies: in the header, in an entry
--   Before l m              the line l comes before the line m
--   Pairwise R xs           R holds of each two of the elements xs, the earlier one first
-- The claims:
--   LinesWritten            the text is that of the lines, one after another
--   HeadNamed               a line names a field of the header exactly where it differs
--   EntryNamed              a line names a field of an entry exactly where both files have the entry and the field differs
--   AllNamed                a line names an entry as a whole exactly where one file alone has it
--   DataNamed               a place lies in a run exactly where the data differs
--   Ordered                 the lines come in layout order, each once, and runs that touch are one
--   RefusedNamed            a line names a refusal exactly where that side is refused with that number
--   RefusedOnly             and then there is no other line
--   NoLine                  no line means equal bytes, of files that reading accepts
-- What excludes an empty reading: each claim says which lines there are, and not only what one would mean; and there are files that reading
-- accepts (`par1` specs/Claim).
-- Assumes nothing.
use Rattle.std.specs.Prelude.{◌≡◌, ◌⊎◌, ◌↔◌, ℕ, ◌+◌, ◌-◌, ◌≤◌, ◌<◌, length, get_or, Ok, Err}
use mathlib.Core.List.{List, [], ◌∷◌, map, flatten, Memᴰ}
use Rattle.cut_lists.specs.All.{All}
use Rattle.little_endian.specs.Bytes.{Bytes}
use Rattle.refusals.specs.declared.Refusal.{Refusal}
use Rattle.entries.specs.Entry.{entry_size, status_of, file_size_of, md5_of, md5_of_16k, name_of}
use Rattle.par1_rules.specs.Layout.{version_of, program_of, control_hash_of, set_hash_of, volume_number_of, count_of, list_size_of, data_start_of, data_size_of}
use Rattle.par1_read.specs.Reading.{entries_in, read_of}
use Rattle.par1_read.specs.declared.reading.Parts.{Parts}
use Rattle.comparing.specs.Lines.{HeadField, version_field, program_field, control_field, set-field, number_field}
use Rattle.comparing.specs.Lines.{files_field, list_field, start-field, data_field}
use Rattle.comparing.specs.Lines.{EntryField, length-field, status_field, size_field, md5-field, md5_16k_field, name_field}
use Rattle.comparing.specs.Lines.{Line, head, entry, all, run, refused, line_text}
use Rattle.comparing.specs.Comparing.{lines_of, comparison_of}

abbrev pub IsAccepted : List ℕ → Type 0
IsAccepted f = (p : Parts) × (read_of f ≡ Ok p)

abbrev pub RefusedWith : List ℕ → ℕ → Type 0
RefusedWith f n = (r : Refusal) × (read_of f ≡ Err r) × (r.number ≡ n)

pub record Compared (f g : List ℕ) : Type 0 where
  pub bytes_one : Bytes f
  pub bytes_two : Bytes g
  pub accepted_one : IsAccepted f
  pub accepted_two : IsAccepted g

-- "writes each difference as a line"; what the lines are is said below; proved: proofs/TextLaws.antt, `lines_written`
abbrev pub LinesWritten : Type 0
LinesWritten = (f g : List ℕ) → comparison_of f g ≡ flatten (map line_text (lines_of f g))

-- ---- the header: "`head NAME` (version, program, control, set, number, files, list, start, data)"

abbrev pub HeadDiffers : HeadField → List ℕ → List ℕ → Type 0
HeadDiffers version_field f g = version_of f ≡ version_of g → ⊥
HeadDiffers program_field f g = program_of f ≡ program_of g → ⊥
HeadDiffers control_field f g = control_hash_of f ≡ control_hash_of g → ⊥
HeadDiffers set-field f g = set_hash_of f ≡ set_hash_of g → ⊥
HeadDiffers number_field f g = volume_number_of f ≡ volume_number_of g → ⊥
HeadDiffers files_field f g = count_of f ≡ count_of g → ⊥
HeadDiffers list_field f g = list_size_of f ≡ list_size_of g → ⊥
HeadDiffers start-field f g = data_start_of f ≡ data_start_of g → ⊥
HeadDiffers data_field f g = data_size_of f ≡ data_size_of g → ⊥

-- proved: proofs/Named.antt, `head_named`
abbrev pub HeadNamed : Type 0
HeadNamed = (f g : List ℕ) → Compared f g → (h : HeadField) → Memᴰ (head h) (lines_of f g) ↔ HeadDiffers h f g

-- ---- the lists: "`entry P NAME` (length, status, size, md5, 16k, name; only `all` if one side lacks it)"

abbrev pub HasEntry : List ℕ → ℕ → Type 0
HasEntry f p = (1 ≤ p) × (p ≤ length (entries_in f))

abbrev pub entry_at : List ℕ → ℕ → List ℕ
entry_at f p = get_or (entries_in f) (p - 1) []

abbrev pub EntryDiffers : EntryField → List ℕ → List ℕ → Type 0
EntryDiffers length-field x y = entry_size x ≡ entry_size y → ⊥
EntryDiffers status_field x y = status_of x ≡ status_of y → ⊥
EntryDiffers size_field x y = file_size_of x ≡ file_size_of y → ⊥
EntryDiffers md5-field x y = md5_of x ≡ md5_of y → ⊥
EntryDiffers md5_16k_field x y = md5_of_16k x ≡ md5_of_16k y → ⊥
EntryDiffers name_field x y = name_of x ≡ name_of y → ⊥

-- proved: proofs/Named.antt, `entry_named`
abbrev pub EntryNamed : Type 0
EntryNamed =
    (f g : List ℕ) → Compared f g → (p : ℕ) (e : EntryField)
    → Memᴰ (entry p e) (lines_of f g) ↔ (HasEntry f p × HasEntry g p × EntryDiffers e (entry_at f p) (entry_at g p))

abbrev pub OnlyOne : Type 0 → Type 0 → Type 0
OnlyOne A B = (A × (B → ⊥)) ⊎ ((A → ⊥) × B)

-- proved: proofs/Named.antt, `all_named`
abbrev pub AllNamed : Type 0
AllNamed =
    (f g : List ℕ) → Compared f g → (p : ℕ) → Memᴰ (all p) (lines_of f g) ↔ OnlyOne (HasEntry f p) (HasEntry g p)

-- ---- the data: "`data A B` for runs of data bytes, first and last place, from 0"; "Data that only one side has differs"

abbrev pub HasByte : List ℕ → ℕ → Type 0
HasByte f p = p < data_size_of f

abbrev pub byte_at : List ℕ → ℕ → ℕ
byte_at f p = get_or f (data_start_of f + p) 0

abbrev pub DataDiffers : List ℕ → List ℕ → ℕ → Type 0
DataDiffers f g p = OnlyOne (HasByte f p) (HasByte g p) ⊎ (HasByte f p × HasByte g p × (byte_at f p ≡ byte_at g p → ⊥))

pub record InRun (p : ℕ) (ls : List Line) : Type 0 where
  pub first : ℕ
  pub last : ℕ
  pub listed : Memᴰ (run first last) ls
  pub from : first ≤ p
  pub to : p ≤ last

-- proved: proofs/Named.antt, `data_named`
abbrev pub DataNamed : Type 0
DataNamed = (f g : List ℕ) → Compared f g → (p : ℕ) → InRun p (lines_of f g) ↔ DataDiffers f g p

-- ---- the order: "in layout order", "joined where they touch"

abbrev pub head_place : HeadField → ℕ
head_place version_field = 8
head_place program_field = 12
head_place control_field = 16
head_place set-field = 32
head_place number_field = 48
head_place files_field = 56
head_place list_field = 72
head_place start-field = 80
head_place data_field = 88

abbrev pub entry_place : EntryField → ℕ
entry_place length-field = 0
entry_place status_field = 8
entry_place size_field = 16
entry_place md5-field = 24
entry_place md5_16k_field = 40
entry_place name_field = 56

-- runs that touch would be one, so a place lies between two of them
pub data Before : Line → Line → Type 0 where
  head_head : {h k : HeadField} → head_place h < head_place k → Before (head h) (head k)
  head_entry : {h : HeadField} {p : ℕ} {e : EntryField} → Before (head h) (entry p e)
  head_all : {h : HeadField} {p : ℕ} → Before (head h) (all p)
  head_run : {h : HeadField} {a b : ℕ} → Before (head h) (run a b)
  same-entry : {p : ℕ} {e d : EntryField} → entry_place e < entry_place d → Before (entry p e) (entry p d)
  entry-entry : {p q : ℕ} {e d : EntryField} → p < q → Before (entry p e) (entry q d)
  entry_all : {p q : ℕ} {e : EntryField} → p < q → Before (entry p e) (all q)
  entry_run : {p a b : ℕ} {e : EntryField} → Before (entry p e) (run a b)
  all_all : {p q : ℕ} → p < q → Before (all p) (all q)
  all_run : {p a b : ℕ} → Before (all p) (run a b)
  run_run : {a b c d : ℕ} → b + 1 < c → Before (run a b) (run c d)
  refused-refused : {s t n m : ℕ} → s < t → Before (refused s n) (refused t m)

pub data Pairwise {A : Type 0} (R : A → A → Type 0) : List A → Type 0 where
  pairwise_none : Pairwise R []
  pairwise_more : {x : A} {xs : List A} → All (R x) xs → Pairwise R xs → Pairwise R (x ∷ xs)

-- of any two files, and a run ends where it begins or later; proved: proofs/OrderLaws.antt, `ordered`
abbrev pub Ordered : Type 0
Ordered =
    (f g : List ℕ) → Pairwise Before (lines_of f g) × ((a b : ℕ) → Memᴰ (run a b) (lines_of f g) → a ≤ b)

-- ---- refused files: "Each refused file gives a line `refused S N`, side 1 before 2, and then nothing else is written"

-- proved: proofs/RefusedLaws.antt, `refused_named`
abbrev pub RefusedNamed : Type 0
RefusedNamed =
    (f g : List ℕ) (side number : ℕ)
    → Memᴰ (refused side number) (lines_of f g) ↔ (((side ≡ 1) × RefusedWith f number) ⊎ ((side ≡ 2) × RefusedWith g number))

-- proved: proofs/RefusedLaws.antt, `refused_only`
abbrev pub RefusedOnly : Type 0
RefusedOnly =
    (f g : List ℕ) (n : ℕ) → RefusedWith f n ⊎ RefusedWith g n → (l : Line) → Memᴰ l (lines_of f g)
    → (side : ℕ) × (number : ℕ) × (l ≡ refused side number)

-- ---- "no line means equal bytes"

-- proved: proofs/NoLine.antt, `no_line`
abbrev pub NoLine : Type 0
NoLine =
    (f g : List ℕ) → Bytes f → Bytes g → (comparison_of f g ≡ []) ↔ (IsAccepted f × IsAccepted g × (f ≡ g))
