-- What reading looks at, and what it refuses.
--
--   HeaderAlone    of the list that begins with the header the tests read no more than its 96 bytes
--   Placed f r     r is the refusal of the first entry of the file f that breaks a rule, or has no place and no number of one
--   ReadPlaced     so is the refusal of every file
--   FaultRead      where tests 1 to 5 hold nowhere and an entry breaks a rule, the file is refused for it
--   FormerSix      a file whose version is not the other code's is refused with 16 to 19 exactly where document 01 alone has 6, and with the same
--                  number everywhere else, where the data size and names go by the rules as they are now (2026-02, 2026-14)
--   FormerThree    a file of the other code's version, with the length and the signature that it must have, is 3 by document 01 alone
--   AlikeButVersion f g    the files f and g differ in bytes 8 to 11 at most
--   parts_with_code c p, with_code c r     the parts p, and the reading r, with the code c
--   VersionAlone   files that differ so, both of versions that are allowed, are read alike but for the code, and refused alike, with number and
--                  place; every file of 12 bytes or more has such a one of each code
-- So what FormerSix says of a file of Par 1.0's version holds too of the same file with the other code's.
-- The contracts of read_from and read cite read_from and read_of.
-- Assumes nothing.
use Rattle.std.specs.Prelude.{◌≡◌, true, List, ◌⊎◌, ℕ, ◌≤◌, ◌<◌, length, take, drop, Ok, Err}
use Rattle.codes.specs.declared.Code.{Code}
use Rattle.refusals.specs.declared.Refusal.{Refusal}
use Rattle.entries.specs.Claim.{FirstFault}
use Rattle.entries.specs.Walk.{Walked}
use Rattle.par1_rules.specs.Layout.{signature, version_for, signature_of, version_of, list_of}
use Rattle.par1_rules.specs.Hashes.{control_hash}
use Rattle.par1_rules.specs.Rules.{length_allowed, version_allowed, code_in}
use Rattle.par1_read.specs.Former.{former_number, former_refusal}
use Rattle.par1_read.specs.Reading.{header_refusal, control_refusal, read_from, read_of, reading_refusal}
use Rattle.par1_read.specs.declared.reading.Parts.{Parts}
use Rattle.par1_read.specs.Reading.{Reading}

-- so a reader that has kept the header and no more of the file gives the same; proved: proofs/HeaderLaws.antt, `header_alone`
abbrev pub HeaderAlone : Type 0
HeaderAlone =
    (f : List ℕ) (n : ℕ) (digest set : List ℕ) (w : Walked) → read_from (take 96 f) n digest set w ≡ read_from f n digest set w

pub data Placed (f : List ℕ) (r : Refusal) : Type 0 where
  at_entry : FirstFault (list_of f) r → Placed f r
  placeless : r.place ≡ 0 → (r.number < 16) ⊎ (r.number ≡ 19) → Placed f r

-- "the first fault is given with the entry's place in the list, from 1"; proved: proofs/PlaceLaws.antt, `read_placed`
abbrev pub ReadPlaced : Type 0
ReadPlaced = (f : List ℕ) (r : Refusal) → read_of f ≡ Err r → Placed f r

-- so 19 and the tests after it come after every entry's; proved: proofs/PlaceLaws.antt, `fault_read`
abbrev pub FaultRead : Type 0
FaultRead =
    (f : List ℕ) (r : Refusal) → header_refusal f (length f) ≡ 0 → control_refusal f (control_hash f) ≡ 0 → FirstFault (list_of f) r
    → read_of f ≡ Err r

-- reading never gives 6 itself, so the numbers 16 to 19, and no others, stand for it; proved: proofs/FormerLaws.antt, `former_six`
abbrev pub FormerSix : Type 0
FormerSix =
    (f : List ℕ) → let n = (reading_refusal (read_of f)).number in
    ((version_of f ≡ 131328 → ⊥) → former_refusal f ≡ former_number n) × (n ≡ 6 → ⊥)

-- document 02, 2026-13: "version 131,328, which our older readers refuse with 3"; proved: proofs/FormerLaws.antt, `former_three`
abbrev pub FormerThree : Type 0
FormerThree =
    (f : List ℕ) → version_of f ≡ 131328 → length_allowed (length f) ≡ true → signature_of f ≡ signature → former_refusal f ≡ 3

-- ---- document 02, 2026-13: "The layout is that of 01 with version 131,328 .. test 3 now passes both; .. reading returns it", the code

-- "At 8: 32-bit version"
pub record AlikeButVersion (f g : List ℕ) : Type 0 where
  pub length-same : length f ≡ length g
  pub first_same : take 8 f ≡ take 8 g
  pub rest-same : drop 12 f ≡ drop 12 g

abbrev pub parts_with_code : Code → Parts → Parts
parts_with_code c p =
    record {
      program = p.program;
      number = p.number;
      entries = p.entries;
      saved = p.saved;
      list_size = p.list_size;
      data_start = p.data_start;
      data_size = p.data_size;
      code = c;
    }

abbrev pub with_code : Code → Reading → Reading
with_code c (Ok p) = Ok (parts_with_code c p)
with_code c (Err r) = Err r

-- the control hash too is the same: "the MD5 of all bytes from 32 to the end"; proved: proofs/VersionLaws.antt, `version_alone`
pub record VersionAlone : Type 0 where
  pub read_alike : (f g : List ℕ) → AlikeButVersion f g → version_allowed (version_of f) ≡ true → version_allowed (version_of g) ≡ true
      → read_of g ≡ with_code (code_in (version_of g)) (read_of f)
  pub some_alike : (f : List ℕ) (c : Code) → 12 ≤ length f → (g : List ℕ) × AlikeButVersion f g × (version_of g ≡ version_for c)
