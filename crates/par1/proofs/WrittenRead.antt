-- Condition 2, second half: an accepted file written again from its parts has the same bytes.
--
--   volume_again     the bytes of the volume that is made of the parts of an accepted file
--   written_read     writing it
-- Assumes nothing.
use mathlib.Core.Path.{◌≡◌, sym, ap, ◌∙◌, subst}
use mathlib.Core.List.{List, [], ◌∷◌, ◌++◌, append_assoc, append-nil, flatten}
use Prim.Native.Nat.{ℕ, ◌+◌, ◌≤◌}
use native.Mathlib.Omega.{arith}
use lib.ListN.{length, take, drop, length-drop}
use lib.Seq.{length-take-le, take_all}
use Rattle.lent_bytes.specs.Writing.{accepted}
use Rattle.lent_bytes.specs.Writing.{Writing}
use Rattle.lent_bytes.proofs.WritingLaws.{unless_accepted}
use Rattle.little_endian.specs.Bytes.{Bytes, to_le, numbers}
use Rattle.entries.specs.Walk.{walk_of}
use Rattle.entries.specs.declared.Totals.{Totals}
use Rattle.entries.specs.Walk.{Walked}
use Rattle.entries.proofs.WalkLaws.{walk_count}
use Rattle.md5_digest.specs.Digest.{md5}
use Rattle.par1_rules.specs.Layout.{signature, version_for, version_of, program_of, hashed_of, volume_number_of, count_of, list_size_of, data_start_of, data_size_of, list_of, data_of}
use Rattle.par1_rules.specs.Hashes.{set_hash}
use Rattle.par1_rules.specs.Rules.{code_in, data_allowed}
use Rattle.par1_read.specs.Reading.{entries_in}
use Rattle.par1_write.specs.VolumeWriting.{body_bytes, head_bytes, volume_bytes, walk_refusal, write_volume_of}
use Rattle.par1_read.specs.declared.reading.Parts.{Parts}
use Rattle.par1.specs.Claim.{WrittenRead}
use Rattle.lent_bytes.proofs.PartLaws.{split, split_number}
use Rattle.par1_read.proofs.ReadingLaws.{Passed, read_tells, data_length}
use Rattle.par1_rules.proofs.RuleLaws.{Between}
use Rattle.par1_write.proofs.VolumeWritingLaws.{volume_none}

nested_head : (a b c d e : List ℕ) → flatten (a ∷ b ∷ c ∷ d ∷ []) ++ e ≡ a ++ (b ++ (c ++ (d ++ e)))
unfolding flatten
nested_head a b c d e = simp (append_assoc, append-nil)

nested_body : (s a b c d e f l t : List ℕ)
    → flatten (s ∷ flatten (a ∷ b ∷ c ∷ d ∷ e ∷ f ∷ []) ∷ l ∷ t ∷ [])
    ≡ s ++ (a ++ (b ++ (c ++ (d ++ (e ++ (f ++ (l ++ t)))))))
unfolding flatten
nested_body s a b c d e f l t = simp (append_assoc, append-nil)

module _ (f : List ℕ) (bytes : Bytes f) (tests : Passed f) where
  list_fits : 96 + list_size_of f ≤ length f
  list_fits = omega (arith, tests.header.layout.data_start_lem, tests.header.layout.data_end)

  list_length : length (list_of f) ≡ list_size_of f
  list_length = length-take-le (list_size_of f) (drop 96 f) (omega (arith, length-drop 96 f, list_fits))

  data_size_lem : length (data_of f) ≡ data_size_of f
  data_size_lem = data_length f tests

  count : length (entries_in f) ≡ count_of f
  count = sym (walk_count (list_of f) tests.walk_is) ∙ tests.totals.count_is

  body_again : body_bytes (length (entries_in f)) (volume_number_of f) (list_of f) (data_of f) ≡ hashed_of f
  unfolding body_bytes numbers flatten
  body_again = let l : List ℕ = list_of f in
      let area : List ℕ = data_of f in
      let low : 96 ≤ length f = tests.header.size.low in
      let starts : 96 + length l ≡ data_start_of f = omega (arith, list_length, tests.header.layout.data_start_lem) in
      let at32 = split 16 32 f in
      let at48 = split_number 8 48 f bytes (omega arith) in
      let at56 = split_number 8 56 f bytes (omega arith) in
      let at64 = split_number 8 64 f bytes (omega arith) in
      let at72 = split_number 8 72 f bytes (omega arith) in
      let at80 = split_number 8 80 f bytes (omega arith) in
      let at88 = split_number 8 88 f bytes (omega arith) in
      let at96 = split (list_size_of f) 96 f in
      nested_body (set_hash (entries_in f)) (to_le 8 (volume_number_of f)) (to_le 8 (length (entries_in f))) (to_le 8 96) (to_le 8 (length l)) (to_le 8 (96 + length l))
      (to_le 8 (length area)) l area
      ∙ cc (tests.totals.set_is, count, list_length, data_size_lem, tests.header.layout.list_start)

  pub volume_again : volume_bytes (code_in (version_of f)) (program_of f) (volume_number_of f) (list_of f) (data_of f) ≡ f
  unfolding volume_bytes head_bytes
  volume_again = let body : List ℕ = body_bytes (length (entries_in f)) (volume_number_of f) (list_of f) (data_of f) in
      let low : 96 ≤ length f = tests.header.size.low in
      let at0 = split_number 8 0 f bytes (omega arith) in
      let at8 = split_number 4 8 f bytes (omega arith) in
      let at12 = split_number 4 12 f bytes (omega arith) in
      let at16 = split 16 16 f in
      nested_head (to_le 8 signature) (to_le 4 (version_for (code_in (version_of f)))) (to_le 4 (program_of f)) (md5 body) body
      ∙ cc (body_again, tests.header.begins, tests.header.version_is, tests.control_is)

  -- the parts that reading gives are the areas of the file
  data_again : take (data_size_of f) (drop (data_start_of f) f) ≡ data_of f
  data_again =
      ap (λ (n : ℕ). take (data_size_of f) (drop n f)) tests.header.layout.data_start_lem
      ∙ take_all (data_size_of f) (data_of f) (omega (arith, data_size_lem))

  write_again : (out : List ℕ) → length f ≤ length out
      → write_volume_of (code_in (version_of f)) (program_of f) (volume_number_of f) (list_of f) (data_of f) out ≡ accepted f out
  unfolding write_volume_of
  write_again out room = let t : Totals = tests.totals_of_lem in
      let l : ℕ = length (list_of f) in
      let d : ℕ = length (data_of f) in
      let s : List ℕ = volume_bytes (code_in (version_of f)) (program_of f) (volume_number_of f) (list_of f) (data_of f) in
      let size : 96 + l + d ≡ length f = omega (arith, list_length, data_size_lem, tests.header.layout.data_start_lem, tests.header.layout.data_end) in
      let right =
      volume_none (volume_number_of f) t l d
      (record {
        number_right = tests.totals.number_right;
        data_right = ap (data_allowed (volume_number_of f) t.greatest) data_size_lem ∙ tests.totals.data_right;
        size = subst Between (sym size) tests.header.size;
      }) in
      let none = ap (λ (w : Walked). (walk_refusal (volume_number_of f) w l d).number) tests.walk_is ∙ right in
      let again : s ≡ f = volume_again in
      unless_accepted (walk_refusal (volume_number_of f) (walk_of (list_of f)) l d) s out none (omega (arith, ap length again))
      ∙ ap (λ (u : List ℕ). accepted u out) again

-- an accepted file, written from what reading gave, into room that holds it
pub written_read : WrittenRead
written_read f p out bytes e room = let told = read_tells f p e in
    let again : Parts → Writing × List ℕ =
    λ q. write_volume_of q.code q.program q.number (take q.list_size (drop 96 f)) (take q.data_size (drop q.data_start f)) out in
    ap again told.parts_are
    ∙ ap (λ (d : List ℕ). write_volume_of (code_in (version_of f)) (program_of f) (volume_number_of f) (list_of f) d out) (data_again f bytes told.tests)
    ∙ write_again f bytes told.tests out room
