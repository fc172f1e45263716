-- The fields of a written volume.
--
--   Fields           what the header of a file says, and where its areas lie
--   volume_fields    the header of a written volume
-- Assumes nothing.
use mathlib.Core.Path.{◌≡◌, refl, ap, ◌∙◌}
use mathlib.Core.List.{List, [], ◌∷◌, ◌++◌, flatten}
use Prim.Native.Nat.{ℕ, ◌+◌, ◌^◌, ◌<◌}
use native.Mathlib.Omega.{arith}
use lib.ListN.{length, take, drop}
use Rattle.little_endian.specs.Bytes.{to_le, numbers}
use Rattle.little_endian.proofs.Numbers.{length-to_le}
use Rattle.md5_digest.specs.Digest.{md5}
use Rattle.codes.specs.declared.Code.{Code}
use Rattle.entries.specs.Walk.{entries_of}
use Rattle.par1_rules.specs.Layout.{signature, version_for, signature_of, version_of, program_of, control_hash_of, hashed_of, set_hash_of}
use Rattle.par1_rules.specs.Layout.{volume_number_of, count_of, list_start_of, list_size_of, data_start_of, data_size_of, list_of, data_of}
use Rattle.par1_rules.specs.Hashes.{set_hash}
use Rattle.par1_write.specs.VolumeWriting.{number_bytes, body_bytes, head_bytes}
use Rattle.par1_rules.proofs.HashLaws.{length-md5, length-set_hash}
use Rattle.lent_bytes.proofs.PartsInRow.{At, at_start, at_part, at_next, at_number, at_open, at_last}
use Rattle.par1_rules.proofs.RuleLaws.{signature_is, version_fits}

-- ---- the header

pub record Fields (f : List ℕ) (c : Code) (program : ℕ) (body : List ℕ) (n number : ℕ) (list area : List ℕ) : Type 0 where
  pub begins : signature_of f ≡ signature
  pub version_is : version_of f ≡ version_for c
  pub program_is : program_of f ≡ program
  pub control_is : control_hash_of f ≡ md5 body
  pub hashed_is : hashed_of f ≡ body
  pub set_is : set_hash_of f ≡ set_hash (entries_of list).pieces
  pub number_is : volume_number_of f ≡ number
  pub count_is : count_of f ≡ n
  pub list_start : list_start_of f ≡ 96
  pub list_size_lem : list_size_of f ≡ length list
  pub data_start_lem : data_start_of f ≡ 96 + length list
  pub data_size_lem : data_size_of f ≡ length area
  pub list_is : list_of f ≡ list
  pub data_is : data_of f ≡ area

pub volume_fields : (f : List ℕ) (c : Code) (program n number : ℕ) (list area : List ℕ)
    → f ≡ head_bytes c program (body_bytes n number list area) ++ body_bytes n number list area
    → program < 2 ^ 32 → number < 2 ^ 64 → n < 2 ^ 64 → 96 + length list + length area < 2 ^ 64
    → Fields f c program (body_bytes n number list area) n number list area
unfolding head_bytes body_bytes numbers flatten
volume_fields f c program n number list area e p v k size = let body : List ℕ = body_bytes n number list area in
    let at0 : At f 0 (to_le 8 signature ∷ to_le 4 (version_for c) ∷ to_le 4 program ∷ md5 body ∷ body ∷ []) =
    at_start (to_le 8 signature ∷ to_le 4 (version_for c) ∷ to_le 4 program ∷ md5 body ∷ []) body e in
    let at8 = at_next 8 (length-to_le 8 signature) at0 in
    let at12 = at_next 4 (length-to_le 4 (version_for c)) at8 in
    let at16 = at_next 4 (length-to_le 4 program) at12 in
    let at32 = at_next 16 (length-md5 body) at16 in
    let set = at_open (set_hash (entries_of list).pieces ∷ number_bytes number n (length list) (length area) ∷ list ∷ area ∷ []) at32 in
    let at48 =
    at_open (to_le 8 number ∷ to_le 8 n ∷ to_le 8 96 ∷ to_le 8 (length list) ∷ to_le 8 (96 + length list) ∷ to_le 8 (length area) ∷ [])
    (at_next 16 (length-set_hash (entries_of list).pieces) set) in
    let at56 = at_next 8 (length-to_le 8 number) at48 in
    let at64 = at_next 8 (length-to_le 8 n) at56 in
    let at72 = at_next 8 (length-to_le 8 96) at64 in
    let at80 = at_next 8 (length-to_le 8 (length list)) at72 in
    let at88 = at_next 8 (length-to_le 8 (96 + length list)) at80 in
    let at96 : At f 96 (list ∷ area ∷ []) = at_next 8 (length-to_le 8 (length area)) at88 in
    let list_size_lem : list_size_of f ≡ length list = at_number 8 (length list) (omega arith) at72 in
    record {
      begins = at_number 8 signature (omega (arith, signature_is)) at0;
      version_is = at_number 4 (version_for c) (version_fits c) at8;
      program_is = at_number 4 program (omega arith) at12;
      control_is = at_part 16 (length-md5 body) at16;
      hashed_is = at_last at32;
      set_is = at_part 16 (length-set_hash (entries_of list).pieces) set;
      number_is = at_number 8 number (omega arith) at48;
      count_is = at_number 8 n (omega arith) at56;
      list_start = at_number 8 96 (omega arith) at64;
      list_size_lem = list_size_lem;
      data_start_lem = at_number 8 (96 + length list) (omega arith) at80;
      data_size_lem = at_number 8 (length area) (omega arith) at88;
      list_is = ap (λ (j : ℕ). take j (drop 96 f)) list_size_lem ∙ at_part (length list) refl at96;
      data_is = ap (λ (j : ℕ). drop (96 + j) f) list_size_lem ∙ at_last (at_next (length list) refl at96);
    }
