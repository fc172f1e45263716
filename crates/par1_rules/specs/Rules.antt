-- The rules of a Par 1.0 file (document 01, "Sizes", "Byte layout", "What comes back").
--
--   length_allowed n         whether a file may have n bytes
--   version_allowed v        whether files of version v are read
--   code_in v                the code of the files of a version v that is read
--   layout_allowed head n    whether list and data lie where they must in a file of n bytes that begins with head
--   number_allowed v n       whether volume v may have n saved files
--   data_allowed v g n       whether volume v, of saved files of at most g bytes, may have n bytes of data
-- Assumes nothing.
use Rattle.std.specs.Prelude.{ℕ, ◌+◌, ◌%◌, Bool, cond, ◌&&◌, ◌||◌, List, leb, eqb}
use Rattle.codes.specs.declared.Code.{Code}
use Rattle.codes.specs.declared.Code.TheVariants.{Powers, Cauchy}
use Rattle.refusals.specs.Limits.{max_volume_length, max_files}
use Rattle.par1_rules.specs.Layout.{version_for, list_start_of, list_size_of, data_start_of, data_size_of}

-- "A volume or index file: 96 to 33,554,432 bytes."
unfoldable pub length_allowed : ℕ → Bool
length_allowed n = leb 96 n && leb n max_volume_length

-- "3: version is not 65,536"; document 02, 2026-13: "test 3 now passes both"
unfoldable pub version_allowed : ℕ → Bool
version_allowed v = eqb v (version_for Powers) || eqb v (version_for Cauchy)

-- document 02, 2026-13: "reading returns it", the code
unfoldable pub code_in : ℕ → Code
code_in v = cond (eqb v (version_for Powers)) Powers Cauchy

-- "List start is 96, data start is 96 plus list size, and the data runs to the end of the file."
unfoldable pub layout_allowed : List ℕ → ℕ → Bool
layout_allowed head n =
    eqb (list_start_of head) 96 && eqb (data_start_of head) (96 + list_size_of head) && eqb (data_start_of head + data_size_of head) n

-- "7: n above 254; or volume number 1 or more with n = 0 or number + n above 255"
unfoldable pub number_allowed : ℕ → ℕ → Bool
number_allowed v n = leb n max_files && (eqb v 0 || (leb 1 n && leb (v + n) 255))

-- "In the index the data area is a comment in 16-bit units, so its size is even."; document 02, 2026-02: "data size is the greatest size among
-- saved entries"
unfoldable pub data_allowed : ℕ → ℕ → ℕ → Bool
data_allowed v greatest n = cond (eqb v 0) (eqb (n % 2) 0) (eqb n greatest)
