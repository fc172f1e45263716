-- What the listing says of its file, and that the program's room always holds it.
--
--   name_units s       the bytes of a name with the characters of s as its units
--   entry_with st n a b name     the entry with the status st, the file size n, the hashes a and b, and the name
--   example_list a b c d         the list of document 01's example, with these hashes
--   example_index code program a b c d     its index, with no comment, of this code and this program
--   ListedAsShown f   the file f has the sizes and the listing of document 01's example
-- The claims:
--   LineNumbered      the line of each entry has its file number
--   InputFits         the listing of any input is written whole into room for the longest input
--   RefusedListed     a refused file is listed as one line, with its place where the number is 16 to 19; an input above 65,536 bytes as refused 1, any
--                     other as its file
--   ExampleLists      document 01's example
-- The contracts of list and list_input cite listing_of and input_listing.
-- Assumes nothing.
use Rattle.std.specs.Prelude.{◌≡◌, ℕ, ◌+◌, ◌^◌, ◌<◌, ◌≤◌, length, drop, Ok, Err}
use mathlib.Core.List.{List, [], ◌∷◌, ◌++◌, map, flatten}
use Prim.Native.String.{String}
use Rattle.codes.specs.declared.Code.{Code}
use Rattle.little_endian.specs.Bytes.{to_le}
use Rattle.refusals.specs.Limits.{max_listed_length}
use Rattle.refusals.specs.declared.Refusal.{Refusal}
use Rattle.lent_bytes.specs.Writing.{written}
use Rattle.entries.specs.Entry.{status_of, saved_count}
use Rattle.entries.specs.Numbering.{saved_of, file_number}
use Rattle.par1_read.specs.Reading.{read_of}
use Rattle.par1_read.specs.declared.reading.Parts.{Parts}
use Rattle.par1_write.specs.VolumeWriting.{volume_bytes}
use Rattle.text.specs.Ascii.{ascii}
use Rattle.text.specs.Decimal.{decimal}
use Rattle.listing.specs.Lines.{entry_line, entry_lines}
use Rattle.listing.specs.Listing.{listing_of, input_listing}

-- "Files are numbered 1 to n over the saved entries only, in list order; entries not saved have no number": the lines of the entries es
-- before an entry e, its own with its file number, and those of the entries fs after it
-- proved: proofs/LineLaws.antt, `line_numbered`
abbrev pub LineNumbered : Type 0
LineNumbered =
    (es : List (List ℕ)) (e : List ℕ) (fs : List (List ℕ))
    → entry_lines 0 (es ++ e ∷ fs)
    ≡ entry_lines 0 es ++ (entry_line (file_number (es ++ e ∷ fs) (length es)) e ++ entry_lines (length (saved_of es) + saved_count (status_of e)) fs)

-- proved: proofs/LengthLaws.antt, `input_fits`
abbrev pub InputFits : Type 0
InputFits =
    (input out : List ℕ) → max_listed_length ≤ length out
    → let lines = input_listing input in written lines out ≡ (Ok (length lines), lines ++ drop (length lines) out)

-- "writes either the line `refused N`, or .."; document 02, 2026-01: "For these the listing writes `refused N P`"
-- proved: proofs/RefusedLines.antt, `refused-listed`
pub record RefusedListed : Type 0 where
  pub with_place : (f : List ℕ) (r : Refusal) → read_of f ≡ Err r → 16 ≤ r.number → r.number ≤ 19
      → listing_of f ≡ ascii "refused " ++ (decimal r.number ++ (ascii " " ++ (decimal r.place ++ ascii "\n")))
  pub without : (f : List ℕ) (r : Refusal) → read_of f ≡ Err r → r.number < 16
      → listing_of f ≡ ascii "refused " ++ (decimal r.number ++ ascii "\n")
  -- "The listing program takes at most 65,536 bytes; more is refused with 1."
  pub taken : (s : List ℕ) → length s ≤ 65536 → input_listing s ≡ listing_of s
  pub too_long : (s : List ℕ) → 65536 < length s → input_listing s ≡ ascii "refused 1\n"

-- ---- document 01's example: "An index listing A.LOG (saved, 5 bytes) and NOTE.TXT (not saved, 12 bytes), no comment"

abbrev pub name_units : String → List ℕ
name_units s = flatten (map (λ u. to_le 2 u) (ascii s))

abbrev pub entry_with : ℕ → ℕ → List ℕ → List ℕ → List ℕ → List ℕ
entry_with status size a b name = flatten (to_le 8 (56 + length name) ∷ to_le 8 status ∷ to_le 8 size ∷ a ∷ b ∷ name ∷ [])

unfoldable pub example_list : List ℕ → List ℕ → List ℕ → List ℕ → List ℕ
example_list a b c d = entry_with 1 5 a b (name_units "A.LOG") ++ entry_with 0 12 c d (name_units "NOTE.TXT")

abbrev pub example_index : Code → ℕ → List ℕ → List ℕ → List ℕ → List ℕ → List ℕ
example_index code program a b c d = volume_bytes code program 0 (example_list a b c d) []

pub record ListedAsShown (f : List ℕ) : Type 0 where
  -- "has list size 138, data start 234 and length 234"
  pub parts : Parts
  pub read_is : read_of f ≡ Ok parts
  pub list_size_lem : parts.list_size ≡ 138
  pub data_start_lem : parts.data_start ≡ 234
  pub length_is : length f ≡ 234
  -- "and gives"
  pub listing_is : input_listing f ≡ ascii "volume 0 files 2 saved 1\n1 5 A.LOG\n- 12 NOTE.TXT\n"

-- of either code, of any program, whose identifier is a u32, and with any hashes in the entries; an accepted index with this list and no comment has
-- these bytes (`par1` specs/Claim, WrittenRead)
-- proved: proofs/Examples.antt, `example_lists`
abbrev pub ExampleLists : Type 0
ExampleLists =
    (code : Code) (program : ℕ) → program < 2 ^ 32
    → (a b c d : List ℕ) → length a ≡ 16 → length b ≡ 16 → length c ≡ 16 → length d ≡ 16 → ListedAsShown (example_index code program a b c d)
