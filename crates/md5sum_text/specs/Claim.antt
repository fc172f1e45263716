-- Request 2026-07 in the document's words.
--
--   LowerDigit c         c is one of the characters 0 to 9 and a to f
--   LineOf sum name l    l is the line of this sum and this name
--   Line l               l is the line of some sum and name
--   Shape                lines of that shape, and no others, are taken for lines
--   Fits e, Names name e, Listed es name     the entry e fits a line; it has this name; one of the entries es does
--   NamesPassedOver      a name that no entry may have is listed nowhere
--   Spells sum md5       the digits sum spell the bytes md5
--   Good es ls           the lines ls have the shape, and those of one listed name have one sum
--   Faulty es ls s n     after the lines ls, what s begins with is faulty by the refusal n
--   FirstFault es s r    r is the refusal of the earliest faulty line of the text s
--   EarliestFaulty       a text is refused with r exactly where r is that
--   NoneFaulty           and not at all exactly where it is good lines and no more
--   Says ls e b, SaysAll     b is what the lines ls say of the entry e; the room says it of each entry
--   ImportRefuses, ImportRefused     the refusals of an import in their order, and nothing else is refused
--   ImportSays           what an accepted import writes
--   ExportRefuses, ExportRefused     the same of an export; "24 .. a name that does not fit"
--   LinesFor, ExportLines    what an accepted export writes: a line for each entry, in order
--   ExportImported       "An accepted export, imported, reports every entry the same"
-- What excludes an empty reading: the calls refuse nothing else, so a file that is read, whose names fit, is exported, and good lines are imported
-- with it, where the room is long enough; there are files that are read (`par1_set` specs/Claim, `IndexWritten`), and lines that are good (an
-- export's, by `ExportImported`; proofs/Examples.antt).
-- The contracts of export and import cite export_into and import_into.
-- Assumes nothing.
use Rattle.std.specs.Prelude.{◌≡◌, ◌⊎◌, ℕ, ◌+◌, ◌≤◌, ◌<◌, length, take, drop, get_or, replicate, Ok, Err}
use mathlib.Core.List.{List, [], ◌∷◌, ◌++◌, flatten}
use Rattle.little_endian.specs.Bytes.{Bytes}
use Rattle.refusals.specs.Tests.{bare}
use Rattle.refusals.specs.declared.Refusal.{Refusal}
use Rattle.lent_bytes.specs.Writing.{accepted, RefusedExactly}
use Rattle.cut_lists.specs.All.{All}
use Rattle.entries.specs.Claim.{Unstorable}
use Rattle.entries.specs.Entry.{md5_of, name_of, units_of}
use Rattle.par1_read.specs.Reading.{entries_in, read_of}
use Rattle.par1_read.specs.declared.reading.Parts.{Parts}
use Rattle.text.specs.Hex.{hex_value}
use Rattle.md5sum_text.specs.Lines.{shaped_length, lines_of}
use Rattle.md5sum_text.specs.Names.{sum_of}
use Rattle.md5sum_text.specs.Export.{export_text, export_into}
use Rattle.md5sum_text.specs.Import.{text_refusal, import_into}

-- ---- lines: "32 lower-case hex digits, two spaces, name, byte 10"; "In a text a name is one or more bytes but 10"

abbrev pub LowerDigit : ℕ → Type 0
LowerDigit c = ((48 ≤ c) × (c ≤ 57)) ⊎ ((97 ≤ c) × (c ≤ 102))

pub record LineOf (sum name l : List ℕ) : Type 0 where
  pub line_is : l ≡ sum ++ (32 ∷ 32 ∷ (name ++ (10 ∷ [])))
  pub sum-length : length sum ≡ 32
  pub digits : All LowerDigit sum
  pub some : 0 < length name
  pub no_end : All (λ b. b ≡ 10 → ⊥) name

pub record Line (l : List ℕ) : Type 0 where
  pub sum : List ℕ
  pub name : List ℕ
  pub line_of : LineOf sum name l

-- proved: proofs/ShapeLaws.antt, `shape`
abbrev pub Shape : Type 0
Shape =
    ((l s : List ℕ) → Line l → shaped_length (l ++ s) ≡ length l)
    × ((s : List ℕ) → 0 < shaped_length s → Line (take (shaped_length s) s))

-- ---- entries: "Only names with units 32 to 126 fit a line; in an import other entries have no line"

abbrev pub Fits : List ℕ → Type 0
Fits e = All (λ u. (32 ≤ u) × (u ≤ 126)) (units_of (name_of e))

abbrev pub Names : List ℕ → List ℕ → Type 0
Names name e = Fits e × (units_of (name_of e) ≡ name)

abbrev pub Listed : List (List ℕ) → List ℕ → Type 0
Listed es name = (k : ℕ) × (k < length es) × Names name (get_or es k [])

-- document 02, 2026-14: "lines of md5sum text with such names are still passed over": a line of a name that is not listed is faulty by its shape
-- alone (Faulty), and says nothing of an entry (Says); proved: proofs/PassedOver.antt, `names_passed_over`
abbrev pub NamesPassedOver : Type 0
NamesPassedOver = (f name : List ℕ) → Unstorable name → Listed (entries_in f) name → ⊥

-- two digits for each byte
pub record Spells (sum md5 : List ℕ) : Type 0 where
  pub sum-length : length sum ≡ 32
  pub digits : All LowerDigit sum
  pub spelled : (k : ℕ) → k < 16 → hex_value (take 2 (drop (k + k) sum)) ≡ get_or md5 k 0

-- ---- texts: "22 a line of another shape or unended, with its number; 23 a listed name again with another sum, with the later line's number",
-- ---- "The earliest faulty line counts"

pub record Good (es ls : List (List ℕ)) : Type 0 where
  pub lines : All Line ls
  pub agree : (i j : ℕ) {sum sum' name : List ℕ} → i < length ls → j < length ls → LineOf sum name (get_or ls i [])
      → LineOf sum' name (get_or ls j []) → Listed es name → sum ≡ sum'

pub data Faulty (es ls : List (List ℕ)) (s : List ℕ) : ℕ → Type 0 where
  another_shape : ((l t : List ℕ) → s ≡ l ++ t → Line l → ⊥) → Faulty es ls s 22
  another_sum : {sum sum' name l : List ℕ} (t : List ℕ) → s ≡ l ++ t → LineOf sum name l → Listed es name → (k : ℕ) → k < length ls
      → LineOf sum' name (get_or ls k []) → (sum' ≡ sum → ⊥) → Faulty es ls s 23

pub record FirstFault (es : List (List ℕ)) (s : List ℕ) (r : Refusal) : Type 0 where
  pub earlier : List (List ℕ)
  pub good : Good es earlier
  -- the faulty line stands at the front of the rest
  pub rest : List ℕ
  pub joined : flatten earlier ++ rest ≡ s
  pub some : 0 < length rest
  pub faulty : Faulty es earlier rest r.number
  pub place_is : r.place ≡ length earlier + 1

-- proved: proofs/FaultLaws.antt, `earliest_faulty`
abbrev pub EarliestFaulty : Type 0
EarliestFaulty =
    (es : List (List ℕ)) (s : List ℕ) (r : Refusal)
    → (text_refusal es (lines_of s) ≡ r → (r.number ≡ 0 → ⊥) → FirstFault es s r) × (FirstFault es s r → text_refusal es (lines_of s) ≡ r)

-- proved: proofs/FaultLaws.antt, `none_faulty`
abbrev pub NoneFaulty : Type 0
NoneFaulty =
    (es : List (List ℕ)) (s : List ℕ)
    → ((text_refusal es (lines_of s)).number ≡ 0 → (ls : List (List ℕ)) × (s ≡ flatten ls) × Good es ls)
    × ((ls : List (List ℕ)) → s ≡ flatten ls → Good es ls → (text_refusal es (lines_of s)).number ≡ 0)

-- ---- imports: "for each entry in list order, a byte: 0 no line in the text, 1 the same sum, 2 a different one"

pub data Says (ls : List (List ℕ)) (e : List ℕ) : ℕ → Type 0 where
  no_line : ((k : ℕ) (sum name : List ℕ) → k < length ls → LineOf sum name (get_or ls k []) → Names name e → ⊥) → Says ls e 0
  same_sum : {sum name : List ℕ} (k : ℕ) → k < length ls → LineOf sum name (get_or ls k []) → Names name e → sum ≡ sum_of e → Says ls e 1
  other_sum : {sum name : List ℕ} (k : ℕ) → k < length ls → LineOf sum name (get_or ls k []) → Names name e → (sum ≡ sum_of e → ⊥) → Says ls e 2

-- the first n bytes of the room say it of each entry, and say nothing else; the rest of the room stays
pub record SaysAll (es ls : List (List ℕ)) (out : List ℕ) (n : ℕ) (room : List ℕ) : Type 0 where
  pub count : n ≡ length es
  pub says : (k : ℕ) → k < n → Says ls (get_or es k []) (get_or room k 0)
  pub only : (k b : ℕ) → k < n → Says ls (get_or es k []) b → get_or room k 0 ≡ b
  pub kept : drop n room ≡ drop n out

-- proved: proofs/CallClaims.antt, `import_says`
abbrev pub ImportSays : Type 0
ImportSays =
    (f s out : List ℕ) (n : ℕ) (room : List ℕ) → import_into f s out ≡ (Ok n, room)
    → (ls : List (List ℕ)) × (s ≡ flatten ls) × Good (entries_in f) ls × SaysAll (entries_in f) ls out n room

-- "Refusals, after those of reading: 22 ..; 23 .. The earliest faulty line counts; 14 last."
pub data ImportRefuses (f s out : List ℕ) : Refusal → Type 0 where
  unread : {r : Refusal} → read_of f ≡ Err r → ImportRefuses f s out r
  faulty : {p : Parts} {r : Refusal} → read_of f ≡ Ok p → FirstFault (entries_in f) s r → ImportRefuses f s out r
  no_room : {p : Parts} (ls : List (List ℕ)) → read_of f ≡ Ok p → s ≡ flatten ls → Good (entries_in f) ls
      → length out < length (entries_in f) → ImportRefuses f s out (bare 14)

-- proved: proofs/CallClaims.antt, `import_refused`
abbrev pub ImportRefused : Type 0
ImportRefused = (f s out : List ℕ) → RefusedExactly (ImportRefuses f s out) (import_into f s out) out

-- ---- exports: "Export each listed file, in list order, as a line"

pub data ExportRefuses (f out : List ℕ) : Refusal → Type 0 where
  unread : {r : Refusal} → read_of f ≡ Err r → ExportRefuses f out r
  unfit : {p : Parts} (k : ℕ) → read_of f ≡ Ok p → k < length (entries_in f) → (Fits (get_or (entries_in f) k []) → ⊥)
      → ExportRefuses f out (bare 24)
  no_room : {p : Parts} → read_of f ≡ Ok p → All Fits (entries_in f) → length out < length (export_text (entries_in f))
      → ExportRefuses f out (bare 14)

-- proved: proofs/CallClaims.antt, `export_refused`
abbrev pub ExportRefused : Type 0
ExportRefused = (f out : List ℕ) → RefusedExactly (ExportRefuses f out) (export_into f out) out

-- a line for each entry, in list order, with its name and the digits of its MD5, and nothing more; the rest of the room stays
pub record LinesFor (es : List (List ℕ)) (out : List ℕ) (n : ℕ) (room : List ℕ) : Type 0 where
  pub lines : List (List ℕ)
  pub joined : take n room ≡ flatten lines
  pub count : length lines ≡ length es
  pub each : (k : ℕ) → k < length es → let e : List ℕ = get_or es k [] in
      Spells (sum_of e) (md5_of e) × LineOf (sum_of e) (units_of (name_of e)) (get_or lines k [])
  pub kept : drop n room ≡ drop n out

-- a file is bytes; proved: proofs/CallClaims.antt, `export_lines`
abbrev pub ExportLines : Type 0
ExportLines =
    (f out : List ℕ) (n : ℕ) (room : List ℕ) → Bytes f → export_into f out ≡ (Ok n, room) → LinesFor (entries_in f) out n room

-- "An accepted export, imported, reports every entry the same, if no two entries share a name with unlike sums";
-- proved: proofs/CallClaims.antt, `export_imported`
abbrev pub ExportImported : Type 0
ExportImported =
    (f out : List ℕ) (n : ℕ) (room more : List ℕ) → Bytes f → export_into f out ≡ (Ok n, room)
    → ((i j : ℕ) → i < length (entries_in f) → j < length (entries_in f) → let es = entries_in f in
    units_of (name_of (get_or es i [])) ≡ units_of (name_of (get_or es j [])) → md5_of (get_or es i []) ≡ md5_of (get_or es j []))
    → length (entries_in f) ≤ length more
    → import_into f (take n room) more ≡ accepted (replicate (length (entries_in f)) 1) more
