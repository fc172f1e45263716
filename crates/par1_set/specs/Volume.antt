-- The volumes and the index of a set of files (document 01, "Byte layout", "The parity bytes"), for any version number and any rule for
-- the coefficients: `rule f v` is that of file f in volume v.
--
--   set_hash_for fs                         the set hash of the files fs
--   hashed_for v fs area                   the bytes of volume v from 32 to the end, with this data area
--   bytes_for version program v fs area    all its bytes, where the program writes it
--   data_for rule v fs                     the data area of volume v: the parity of the saved files
--   volume_for version rule program v fs   volume v of the files fs
--   index_for version program fs comment   the index of the files fs
--   VolumeRight v fs                      the files fs and their volume v keep the rules
--   IndexRight fs comment                 the files fs and their index with this comment keep the rules
-- Assumes nothing.
use Rattle.std.specs.Prelude.{◌≡◌, ℕ, ◌+◌, ◌%◌, ◌≤◌, length}
use mathlib.Core.List.{List, [], ◌∷◌, map, flatten}
use Rattle.cut_lists.specs.All.{All}
use Rattle.little_endian.specs.Bytes.{to_le, numbers}
use Rattle.md5_digest.specs.Digest.{md5}
use Rattle.par1_rules.specs.Layout.{signature}
use Rattle.parity.specs.Parity.{parity}
use Rattle.refusals.specs.Limits.{max_volume_length, max_files}
use Rattle.par1_set.specs.Files.{File, saved_files, file_count, contents_of, list_for, data_size_for, FileRight}

-- ---- the layout

-- "The set hash is the MD5 of the saved entries' whole-file MD5s, joined in list order."
abbrev pub set_hash_for : List File → List ℕ
set_hash_for fs = md5 (flatten (map (λ x. md5 x.contents) (saved_files fs)))

-- "At 32: set hash. Then six 64-bit numbers: at 48 volume number (0 for the index), at 56 number of entries, at 64 list start, at 72 list
-- size, at 80 data start, at 88 data size. List start is 96, data start is 96 plus list size, and the data runs to the end of the file."
unfoldable pub hashed_for : ℕ → List File → List ℕ → List ℕ
hashed_for v fs area =
    let list : List ℕ = list_for fs in
    flatten (set_hash_for fs ∷ numbers (v ∷ length fs ∷ 96 ∷ length list ∷ (96 + length list) ∷ length area ∷ []) ∷ list ∷ area ∷ [])

-- "At 0: "PAR" and five zero bytes. At 8: 32-bit version, 65,536. At 12: 32-bit program identifier, any. At 16: control hash, the MD5 of
-- all bytes from 32 to the end."
unfoldable pub bytes_for : ℕ → ℕ → ℕ → List File → List ℕ → List ℕ
bytes_for version program v fs area =
    let body : List ℕ = hashed_for v fs area in flatten (to_le 8 signature ∷ to_le 4 version ∷ to_le 4 program ∷ md5 body ∷ body ∷ [])

-- ---- volumes and index

-- "Byte p of volume v is the sum, over all saved files, of factor times byte p", for each p below the data size
abbrev pub data_for : (ℕ → ℕ → ℕ) → ℕ → List File → List ℕ
data_for rule v fs = parity rule (file_count fs) (contents_of fs) v (data_size_for fs)

abbrev pub volume_for : ℕ → (ℕ → ℕ → ℕ) → ℕ → ℕ → List File → List ℕ
volume_for version rule program v fs = bytes_for version program v fs (data_for rule v fs)

-- "In the index the data area is a comment"
abbrev pub index_for : ℕ → ℕ → List File → List ℕ → List ℕ
index_for version program fs comment = bytes_for version program 0 fs comment

-- ---- the rules

-- "volume numbers 1 to 255 - n"; "7: .. volume number 1 or more with n = 0"; "A volume or index file: 96 to 33,554,432 bytes."
pub record VolumeRight (v : ℕ) (fs : List File) : Type 0 where
  pub files_right : All FileRight fs
  pub volume_low : 1 ≤ v
  pub volume_high : v + file_count fs ≤ 255
  pub count_low : 1 ≤ file_count fs
  pub length_right : 96 + length (list_for fs) + data_size_for fs ≤ max_volume_length

-- "Saved files n: at most 254"; "a comment in 16-bit units, so its size is even"
pub record IndexRight (fs : List File) (comment : List ℕ) : Type 0 where
  pub files_right : All FileRight fs
  pub count_high : file_count fs ≤ max_files
  pub comment_right : length comment % 2 ≡ 0
  pub length_right : 96 + length (list_for fs) + length comment ≤ max_volume_length
