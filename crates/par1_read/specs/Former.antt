-- The number of a file's refusal as document 01 has it ("Reading tests 1 to 9 in this order and returns the first that holds"), with 6
-- for every fault of an entry, of the list and of the count, and Par 1.0's version alone. Test 9 goes by the data size as it is now (document
-- 02, 2026-02), and names go by the rule as it is now (2026-14): a name of a colon alone is 6 here, and document 01 alone accepts it.
--
--   former_number n        what document 01 has for the number n of document 02, 2026-01: "Where 01 says 6, read these"
--   former_in_list f w      the first of tests 6 to 9 that holds of the file f, where w is the walk over its list, 0 where none does
--   former_refusal f       the first of tests 1 to 9 that holds of the file f, 0 where none does
-- Assumes nothing.
use Rattle.std.specs.Prelude.{ℕ, cond, ◌&&◌, List, leb, eqb, length, Ok, Err}
use Rattle.lent_bytes.specs.Equal.{equal}
use Rattle.refusals.specs.Tests.{test}
use Rattle.entries.specs.Walk.{walk_of}
use Rattle.entries.specs.Walk.{Walked}
use Rattle.par1_rules.specs.Layout.{signature, signature_of, version_of, control_hash_of, set_hash_of}
use Rattle.par1_rules.specs.Layout.{volume_number_of, count_of, data_size_of, list_of}
use Rattle.par1_rules.specs.Hashes.{set_hash, control_hash}
use Rattle.par1_rules.specs.Rules.{length_allowed, layout_allowed, number_allowed, data_allowed}
use Rattle.par1_read.specs.Reading.{entries_in}

abbrev pub former_number : ℕ → ℕ
former_number n = cond (leb 16 n && leb n 19) 6 n

-- "6: an entry or the list breaks its rules, or the count at 56 differs"
abbrev pub former_in_list : List ℕ → Walked → ℕ
former_in_list f (Err r) = 6
former_in_list f (Ok t) =
    test 6 (eqb t.entries (count_of f))
    (test 7 (number_allowed (volume_number_of f) t.saved)
    (test 8 (equal (set_hash_of f) (set_hash (entries_in f)))
    (test 9 (data_allowed (volume_number_of f) t.greatest (data_size_of f)) 0)))

-- "3: version is not 65,536"
unfoldable pub former_refusal : List ℕ → ℕ
former_refusal f =
    test 1 (length_allowed (length f))
    (test 2 (eqb (signature_of f) signature)
    (test 3 (eqb (version_of f) 65536)
    (test 4 (layout_allowed f (length f))
    (test 5 (equal (control_hash_of f) (control_hash f)) (former_in_list f (walk_of (list_of f)))))))
