-- A file of a set comes back by the weights of an accepted query.
--
--   data_at          the data of a volume, byte by byte, is the parity, past its end too
--   data_read        the data that reading finds is the data area
--   written_data     the data area of a volume as it was written is its data
--   missing_only, asked     a query is accepted of a missing file only
--   contents_are     the contents of the files are contents of the listed sizes
--   come_from        the fragments come from them
--   set_recovered    the claim
-- Assumes nothing.
use Rattle.std.specs.Prelude.{Ok}
use mathlib.Core.Path.{◌≡◌, refl, sym, ap, ◌∙◌, subst}
use mathlib.Core.Bool.{Bool, true, false}
use mathlib.Core.List.{List}
use Prim.Native.Nat.{ℕ, ◌+◌, ◌<◌}
use native.Mathlib.Decide.{dec_lt}
use native.Mathlib.Omega.{arith}
use lib.ListN.{length, get_or, take, drop, replicate, length-drop, length-replicate, get_or-eq_default}
use lib.Seq.{take_all}
use Rattle.codes.specs.declared.Code.{Code}
use Rattle.recovery.specs.Recoverable.{State, is_volume, IsContents, ComeFrom, place}
use Rattle.inventory.specs.Model.{Call, query, Reply, queried, opened, GivesQuery, Gives}
use Rattle.inventory.specs.Claim.{Step, size_in}
use Rattle.inventory.specs.declared.Inventory.{Inventory}
use Rattle.inventory.proofs.Calls.{Same, after_same}
use Rattle.inventory.proofs.Condition.{calls_sound, condition}
use Rattle.inventory.proofs.Representation.{meets}
use Rattle.jobs.specs.Claim.{lend_limit}
use Rattle.mul_add_sums.proofs.Boxes.{all_answer}
use Rattle.par1.specs.Checking.{check_of}
use Rattle.par1_read.specs.Reading.{read_of}
use Rattle.par1_read.specs.declared.reading.Parts.{Parts}
use Rattle.par1_read.proofs.ReadingLaws.{read_tells}
use Rattle.par1_rules.specs.Layout.{list_size_of, data_size_of, data_of}
use Rattle.par1_set.specs.Files.{File, file_count, contents_of, data_size_for}
use Rattle.par1_set.specs.Volume.{data_for}
use Rattle.par1_set.proofs.DataSizes.{saved_size}
use Rattle.par1_set.proofs.Sets.{length_data, set_read}
use Rattle.parity.specs.Coefficient.{rule_of}
use Rattle.parity.specs.Parity.{is_file, parity_byte}
use Rattle.parity.proofs.Parities.{parity_at}
use Rattle.parity.proofs.Volumes.{parity_ends}
use Rattle.set_recovery.specs.Claim.{SetRight, entry_of, listed_sizes, state_after, Reached, AsWritten, FragmentsOf, SetRecovered}
use Rattle.set_recovery.proofs.Listed.{file_at, size_at, size_small, check_at}

-- ---- a volume's data

data_at : (code : Code) (v : ℕ) (fs : List File) (p : ℕ) → get_or (data_for (rule_of code) v fs) p 0 ≡ parity_byte (rule_of code) (file_count fs) (contents_of fs) v p
data_at code v fs p = elim (dec_lt p (data_size_for fs)) [
  | yes l ↦ parity_at (rule_of code) (file_count fs) (contents_of fs) v (data_size_for fs) p l
  | no h ↦
      get_or-eq_default (data_for (rule_of code) v fs) 0 (omega (arith, length_data (rule_of code) v fs))
      ∙ sym (parity_ends code (file_count fs) (contents_of fs) v p (omega (arith, saved_size fs)))
]

-- what reading says of where the data lies
data_read : (f : List ℕ) (p : Parts) → read_of f ≡ Ok p → take p.data_size (drop p.data_start f) ≡ data_of f
data_read f p e = let told = read_tells f p e in
    let layout = told.tests.header.layout in
    ap (λ (q : Parts). take q.data_size (drop q.data_start f)) told.parts_are
    ∙ ap (λ (n : ℕ). take (data_size_of f) (drop n f)) layout.data_start_lem
    ∙ take_all (data_size_of f) (data_of f) (omega (arith, length-drop (96 + list_size_of f) f, layout.data_start_lem, layout.data_end))

written_data : {code : Code} {v : ℕ} {fs : List File} {file : List ℕ} → AsWritten code v fs file → data_of file ≡ data_for (rule_of code) v fs
written_data {code} {v} {fs} w = ap (λ (f : List ℕ). data_of f) w.file_is ∙ (set_read code w.program v fs w.program_right w.right).data_is

-- ---- a query

missing_only : (rule : ℕ → ℕ → ℕ) (t : State) (f : ℕ) (room room' : List ℕ) (inside has : Bool) (r : Reply) → r ≡ queried 0 room'
    → GivesQuery rule t f room inside has r → (inside ≡ true) × (has ≡ false)
missing_only rule t f room room' false has r e g = let z : ◌≡◌ {A = ℕ} 0 10 = cc in absurd (omega arith)
missing_only rule t f room room' true true r e g = let z : ◌≡◌ {A = ℕ} 0 13 = cc in absurd (omega arith)
missing_only rule t f room room' true false r e g = (refl, refl)

-- ---- after calls

module _ (code : Code) {fs : List File} (right : SetRight fs) (cs : List Call) where
  abbrev now : State
  now = state_after code fs cs

  kept : Same (opened code (file_count fs) (size_in (listed_sizes fs))) now
  kept = after_same (opened code (file_count fs) (size_in (listed_sizes fs))) cs

  contents_are : IsContents now (contents_of fs)
  contents_are f is_file_lem =
      let inside : is_file (file_count fs) f ≡ true = subst (λ (n : ℕ). is_file n f ≡ true) kept.same_n is_file_lem in
      (sym (size_at right f inside) ∙ ap (λ (size : ℕ → ℕ). size f) (sym kept.same_size), file_at right.bytes f inside)

  come_from : (fragment : ℕ → List ℕ) → FragmentsOf code fs now fragment → ComeFrom (rule_of code) now (contents_of fs) fragment
  come_from fragment from = record {
    of_file = λ f is_file_lem has p.
        ap (λ (l : List ℕ). get_or l p 0) (from.of_file f (subst (λ (n : ℕ). is_file n f ≡ true) kept.same_n is_file_lem) has);
    of_volume = λ v is-volume has p.
        subst (λ (n : ℕ). get_or (fragment (n + v)) p 0 ≡ parity_byte (rule_of code) n (contents_of fs) v p) (sym kept.same_n)
        (let (file, parts, w, accepted, e) = from.of_volume v (subst (λ (n : ℕ). is_volume n v ≡ true) kept.same_n is-volume) has in
        ap (λ (l : List ℕ). get_or l p 0) (e ∙ data_read file parts accepted ∙ written_data w) ∙ data_at code v fs p);
  }

  asked : (s : Inventory) → Reached code fs cs s → (f : ℕ) (room room' : List ℕ) (e : Inventory) → Step rule_of s (query f room) (queried 0 room') e
      → (is_file now.n f ≡ true) × (now.files f ≡ false)
  unfolding Gives
  asked s reached f room room' e did =
      missing_only (rule_of now.code) now f room room' (is_file now.n f) (now.files f) (queried 0 room') refl
      (meets rule_of (size_in (listed_sizes fs)) now s (query f room) (queried 0 room') e
      (calls_sound rule_of code (file_count fs) (listed_sizes fs) reached.accepted cs reached.replies s reached.run).1 did).0

-- ---- the claim

pub set_recovered : SetRecovered
set_recovered code fs right cs s reached f room room' e did fragment from ks once b adds =
    let (inside, missing) = asked code right cs s reached f room room' e did in
    let is_file_lem : is_file (file_count fs) f ≡ true = subst (λ (n : ℕ). is_file n f ≡ true) (kept code right cs).same_n inside in
    let short : length (replicate {A = ℕ} (size_in (listed_sizes fs) f) 0) < lend_limit =
    omega (arith, length-replicate {A = ℕ} (size_in (listed_sizes fs) f) 0, size_small right f is_file_lem) in
    let file_is : b ≡ contents_of fs f =
    all_answer (place (take 255 room')) fragment short adds
    ∙ (condition code (file_count fs) (listed_sizes fs) reached.accepted cs reached.replies s reached.run).follows f is_file_lem missing room room' e did
    (contents_of fs) (contents_are code right cs) fragment (come_from code right cs fragment from) ks once in
    record { is_file_lem = is_file_lem; missing = missing; file_is = file_is; check_is = ap (check_of (entry_of fs f)) file_is ∙ check_at right f is_file_lem }
