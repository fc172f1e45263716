-- What reading a file gives (document 01, "What comes back": "Reading tests 1 to 9 in this order and returns the first that holds"; document
-- 02, 2026-01, has 16 to 18, with the place of the entry, and 19 where 01 has 6).
-- The tests look at the header, the length of the file, two digests and the walk over the list. Of a list `head` that begins with the
-- header they read no more than its 96 bytes (specs/Claim, `HeaderAlone`).
--
--   Reading                         what reading gives: the parts of a file, or the refusal by the first test that holds
--   header_refusal head n           the number of the first of tests 1 to 4 that holds of a file of n bytes, 0 where none does
--   control_refusal head digest     that of test 5, where digest is the MD5 of the bytes from 32 on
--   totals_refusal head set t       that of tests 19, 7, 8 and 9, where set is the set hash of the list and t are its totals
--   list_refusal head set w         the refusal by tests 16 to 19 and 7 to 9, where w is the walk over the list; its number is 0 where there is none
--   refusal_from head n digest set w   that by all tests
--   saved_in w                      the number of saved entries that the walk w found
--   parts_from head saved           what an accepted file gives
--   read_from head n digest set w   what reading gives
--   entries_in f                    the entries of the file f
--   read_of f                       what reading the file f gives
--   reading_refusal r               the refusal that a reading is, with the number 0 where it is accepted
-- Assumes nothing.
use Rattle.std.specs.Prelude.{ℕ, List, eqb, length, Result, Ok, Err}
use Rattle.cut_lists.specs.Pieces.{if_zero}
use Rattle.lent_bytes.specs.Equal.{equal}
use Rattle.refusals.specs.Tests.{bare, test, or_else}
use Rattle.refusals.specs.declared.Refusal.{Refusal}
use Rattle.entries.specs.Walk.{entries_of, walk_of}
use Rattle.entries.specs.declared.Totals.{Totals}
use Rattle.entries.specs.Walk.{Walked}
use Rattle.par1_rules.specs.Layout.{signature, signature_of, version_of, program_of, control_hash_of, set_hash_of}
use Rattle.par1_rules.specs.Layout.{volume_number_of, count_of, list_size_of, data_start_of, data_size_of, list_of}
use Rattle.par1_rules.specs.Hashes.{set_hash, control_hash}
use Rattle.par1_rules.specs.Rules.{length_allowed, version_allowed, code_in, layout_allowed, number_allowed, data_allowed}
use Rattle.par1_read.specs.declared.reading.Parts.{Parts}

abbrev pub Reading : Type 0
Reading = Result Parts Refusal

unfoldable pub header_refusal : List ℕ → ℕ → ℕ
header_refusal head n =
    test 1 (length_allowed n)
    (test 2 (eqb (signature_of head) signature)
    (test 3 (version_allowed (version_of head))
    (test 4 (layout_allowed head n) 0)))

unfoldable pub control_refusal : List ℕ → List ℕ → ℕ
control_refusal head digest = test 5 (equal (control_hash_of head) digest) 0

-- "19 number of entries differs, place 0"
unfoldable pub totals_refusal : List ℕ → List ℕ → Totals → ℕ
totals_refusal head set t =
    test 19 (eqb t.entries (count_of head))
    (test 7 (number_allowed (volume_number_of head) t.saved)
    (test 8 (equal (set_hash_of head) set)
    (test 9 (data_allowed (volume_number_of head) t.greatest (data_size_of head)) 0)))

-- "the first fault is given with the entry's place in the list ..; 19 after all"
abbrev pub list_refusal : List ℕ → List ℕ → Walked → Refusal
list_refusal head set (Ok t) = bare (totals_refusal head set t)
list_refusal head set (Err r) = r

unfoldable pub refusal_from : List ℕ → ℕ → List ℕ → List ℕ → Walked → Refusal
refusal_from head n digest set w = or_else (header_refusal head n) (or_else (control_refusal head digest) (list_refusal head set w))

abbrev pub saved_in : Walked → ℕ
saved_in (Ok t) = t.saved
saved_in (Err r) = 0

-- "program identifier, volume number, counts (entries and saved), and where list and data lie"; document 02, 2026-13, of the code: "reading
-- returns it"
abbrev pub parts_from : List ℕ → ℕ → Parts
parts_from head saved =
    record {
      program = program_of head;
      number = volume_number_of head;
      entries = count_of head;
      saved = saved;
      list_size = list_size_of head;
      data_start = data_start_of head;
      data_size = data_size_of head;
      code = code_in (version_of head);
    }

-- the number 0 is no refusal, and no walk over a list gives it (`entries` specs/Claim, `FirstRefused`)
unfoldable pub read_from : List ℕ → ℕ → List ℕ → List ℕ → Walked → Reading
read_from head n digest set w =
    let refusal : Refusal = refusal_from head n digest set w in
    if_zero refusal.number (Ok (parts_from head (saved_in w))) (Err refusal)

abbrev pub entries_in : List ℕ → List (List ℕ)
entries_in f = (entries_of (list_of f)).pieces

unfoldable pub read_of : List ℕ → Reading
read_of f = read_from f (length f) (control_hash f) (set_hash (entries_in f)) (walk_of (list_of f))

abbrev pub reading_refusal : Reading → Refusal
reading_refusal (Ok p) = bare 0
reading_refusal (Err r) = r
