-- The volume or the index of a set of files, and what `write_volume` makes of its list area.
--
--   set_hash_is     the set hash of the entries is that of the files
--   bytes_are       what `write_volume` writes from the list area are the bytes that the files have
--   length_bytes    their number
--   first_bytes version program, fixed_numbers v n l     the bytes before the control hash; the numbers before the data size
--   bytes_parts     a file of any version, part by part
--   bytes_first, bytes_numbers     these two parts of it
-- Assumes nothing.
use mathlib.Core.Path.{◌≡◌, refl, sym, ap, ap₂, ◌∙◌}
use mathlib.Core.List.{List, [], ◌∷◌, ◌++◌, append_assoc, append-nil, map, flatten}
use Prim.Native.Nat.{ℕ, ◌+◌}
use lib.ListN.{length, take, drop, length-append, length-map}
use Rattle.cut_lists.specs.All.{All, all_none, all_more}
use Rattle.codes.specs.declared.Code.{Code}
use Rattle.entries.specs.Entry.{md5_of, is_saved}
use Rattle.entries.specs.Walk.{entries_of}
use Rattle.entries.proofs.KeepLaws.{all_keep}
use Rattle.lent_bytes.proofs.PartsInRow.{At, at_part, at_next, at_open}
use Rattle.little_endian.specs.Bytes.{to_le, numbers}
use Rattle.little_endian.proofs.Numbers.{length-to_le}
use Rattle.little_endian.proofs.NumberLists.{length-numbers, numbers-append}
use Rattle.md5_digest.specs.Digest.{md5}
use Rattle.par1_rules.specs.Hashes.{set_hash}
use Rattle.par1_rules.specs.Layout.{signature, version_for}
use Rattle.par1_rules.proofs.HashLaws.{length-md5}
use Rattle.par1_write.specs.VolumeWriting.{number_bytes, body_bytes, head_bytes, volume_bytes}
use Rattle.par1_write.proofs.VolumeWritingLaws.{length_volume}
use Rattle.par1_set.specs.Claim.{FileBack}
use Rattle.par1_set.specs.Files.{File, entry_for, entries_for, list_for}
use Rattle.par1_set.specs.Volume.{set_hash_for, hashed_for, bytes_for}
use Rattle.par1_set.proofs.FileEntries.{entries_of_lem, keep_entries}

-- ---- the set hash

md5s_are : {fs : List File} → All FileBack fs → map (λ e. md5_of e) (entries_for fs) ≡ map (λ x. md5 x.contents) fs
md5s_are all_none = refl
md5s_are (all_more b bs) = ap₂ ◌∷◌ b.md5_is (md5s_are bs)

pub set_hash_is : {fs : List File} → All FileBack fs → set_hash (entries_for fs) ≡ set_hash_for fs
unfolding set_hash
set_hash_is bs =
    ap (λ (es : List (List ℕ)). md5 (flatten (map (λ e. md5_of e) es))) (keep_entries is_saved bs)
    ∙ ap (λ (hs : List (List ℕ)). md5 (flatten hs)) (md5s_are (all_keep (λ x. is_saved x.status) bs))

-- ---- all bytes

module _ {fs : List File} (bs : All FileBack fs) (v : ℕ) (area : List ℕ) where
  body_is : body_bytes (length (entries_of (list_for fs)).pieces) v (list_for fs) area ≡ hashed_for v fs area
  unfolding body_bytes hashed_for
  body_is = let pieces : (entries_of (list_for fs)).pieces ≡ entries_for fs = ap (λ c. c.pieces) (entries_of_lem bs) in
      ap₂ (λ (hash : List ℕ) (n : ℕ). flatten (hash ∷ number_bytes v n (length (list_for fs)) (length area) ∷ list_for fs ∷ area ∷ []))
      (ap set_hash pieces ∙ set_hash_is bs) (ap length pieces ∙ length-map fs (λ x. entry_for x))

  pub bytes_are : (c : Code) (program : ℕ) → volume_bytes c program v (list_for fs) area ≡ bytes_for (version_for c) program v fs area
  unfolding volume_bytes head_bytes bytes_for flatten
  bytes_are c program = ap (λ (body : List ℕ). head_bytes c program body ++ body) body_is ∙ simp (append_assoc, append-nil)

  pub length_bytes : (c : Code) (program : ℕ) → length (bytes_for (version_for c) program v fs area) ≡ 96 + length (list_for fs) + length area
  length_bytes c program = ap length (sym (bytes_are c program)) ∙ length_volume c program v (list_for fs) area

-- ---- part by part

abbrev pub first_bytes : ℕ → ℕ → List ℕ
first_bytes version program = flatten (to_le 8 signature ∷ to_le 4 version ∷ to_le 4 program ∷ [])

abbrev pub fixed_numbers : ℕ → ℕ → ℕ → List ℕ
fixed_numbers v n l = numbers (v ∷ n ∷ 96 ∷ l ∷ (96 + l) ∷ [])

length_first : (version program : ℕ) → length (first_bytes version program) ≡ 16
unfolding flatten
length_first version program = simp (length-append, length-to_le)

module _ (v : ℕ) (fs : List File) (area : List ℕ) where
  abbrev hashed_parts : List (List ℕ)
  hashed_parts = set_hash_for fs ∷ fixed_numbers v (length fs) (length (list_for fs)) ∷ to_le 8 (length area) ∷ list_for fs ∷ area ∷ []

  pub hashed_parts_lem : hashed_for v fs area ≡ flatten hashed_parts
  unfolding hashed_for flatten numbers
  hashed_parts_lem = let l : ℕ = length (list_for fs) in
      let six = numbers-append (v ∷ length fs ∷ 96 ∷ l ∷ (96 + l) ∷ []) (length area ∷ []) in
      ap (λ (ns : List ℕ). set_hash_for fs ++ (ns ++ (list_for fs ++ (area ++ [])))) six ∙ simp (append_assoc, append-nil)

  module _ (version program : ℕ) where
    pub bytes_parts : bytes_for version program v fs area
        ≡ flatten (first_bytes version program ∷ md5 (hashed_for v fs area) ∷ hashed_for v fs area ∷ [])
    unfolding bytes_for flatten
    bytes_parts = simp (append_assoc, append-nil)

    at_first : At (bytes_for version program v fs area) 0 (first_bytes version program ∷ md5 (hashed_for v fs area) ∷ hashed_for v fs area ∷ [])
    at_first = record { joined = bytes_parts }

    pub bytes_first : take 16 (bytes_for version program v fs area) ≡ first_bytes version program
    bytes_first = at_part 16 (length_first version program) at_first

    pub bytes_numbers : take 40 (drop 48 (bytes_for version program v fs area)) ≡ fixed_numbers v (length fs) (length (list_for fs))
    bytes_numbers = let at32 = at_next 16 (length-md5 _) (at_next 16 (length_first version program) at_first) in
        let opened : At (bytes_for version program v fs area) 32 (flatten hashed_parts ∷ []) =
        record { joined = at32.joined ∙ ap (λ (l : List ℕ). flatten (l ∷ [])) hashed_parts_lem } in
        at_part 40 (length-numbers (v ∷ length fs ∷ 96 ∷ length (list_for fs) ∷ (96 + length (list_for fs)) ∷ []))
        (at_next 16 (length-md5 _) (at_open hashed_parts opened))
