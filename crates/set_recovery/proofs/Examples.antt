-- The files of document 01's P6, with one between them that is not saved: file 2, of 1 byte, comes back from file 1 and volume 1, by Cauchy
-- coefficients.
--
--   calls, room         file 1 and volume 1 are added; room for the weights
--   volume, parts       volume 1, and what reading it returns
--   fragment            the fragments of file 1 and volume 1, at places 1 and 3
--   file_back           a run of the calls, a query and a buffer that meet what SetRecovered asks for, and what it says of them
-- Assumes nothing.
use Rattle.std.specs.Prelude.{Ok}
use mathlib.Core.Path.{◌≡◌, refl, sym, ap, ◌∙◌, subst}
use mathlib.Core.Bool.{Bool, true, false, cond, ◌&&◌, ◌||◌, false≢true, and-false}
use mathlib.Core.List.{List, [], ◌∷◌}
use Prim.Native.Nat.{ℕ, zero, suc, ◌+◌, ◌-◌, ◌<◌, ◌≤◌}
use native.Mathlib.Omega.{arith}
use lib.Dec.{leb, eqb}
use lib.ListN.{take, drop, replicate, length-replicate}
use borrow.Author.Tests.{eqb-true, ne_eqb, lt-leb}
use Rattle.cauchy_recovery.specs.Claim.{volumes_present, nonempty_missing}
use Rattle.cauchy_recovery.proofs.Called.{any_will_do_called}
use Rattle.codes.specs.declared.Code.TheVariants.{Cauchy}
use Rattle.cut_lists.specs.All.{All, all_none, all_more}
use Rattle.recovery.specs.Recoverable.{State, place, present}
use Rattle.inventory.specs.Model.{Call, change, query, add_file, add_volume, Reply, reply, queried, opened, insert, changed, number_of, next, after}
use Rattle.inventory.specs.Steps.{open_step}
use Rattle.inventory.specs.Claim.{Step, Run, size_in}
use Rattle.inventory.specs.declared.Inventory.{Inventory}
use Rattle.inventory.proofs.Answered.{answered}
use Rattle.little_endian.specs.Bytes.{Bytes}
use Rattle.mul_add.specs.Once.{count, Once}
use Rattle.mul_add_sums.specs.Adding.{AddsAll}
use Rattle.mul_add_sums.proofs.Boxes.{all_given}
use Rattle.number_sets.specs.Sets.{size_below}
use Rattle.par1.specs.Claim.{parts_for}
use Rattle.par1_read.specs.Reading.{read_of}
use Rattle.par1_read.specs.declared.reading.Parts.{Parts}
use Rattle.par1_rules.specs.Layout.{version_for}
use Rattle.par1_set.specs.Files.{contents_of, list_for}
use Rattle.par1_set.specs.Volume.{data_for, volume_for}
use Rattle.par1_set.proofs.Examples.{p6, p6_list, p6_right}
use Rattle.par1_set.proofs.Sets.{set_read}
use Rattle.parity.specs.Coefficient.{rule_of}
use Rattle.set_recovery.specs.Claim.{SetRight, listed_sizes, state_after, Reached, AsWritten, FragmentsOf, Recovered}
use Rattle.set_recovery.proofs.Listed.{listed_sizes_lem, set-opened}
use Rattle.set_recovery.proofs.Recovery.{set_recovered}

-- ---- the set

of_bytes : (s : List ℕ) → All (λ b. b < 256) s → Bytes s
of_bytes [] all_none i = omega arith
of_bytes (b ∷ s) (all_more h hs) zero = h
of_bytes (b ∷ s) (all_more h hs) (suc i) = of_bytes s hs i

p6_set : SetRight p6
p6_set = record {
  files_right = (p6_right 1 (omega arith) (omega arith)).files_right;
  list_right = omega (arith, p6_list);
  bytes = all_more (of_bytes (1 ∷ 2 ∷ []) (all_more (omega arith) (all_more (omega arith) all_none)))
      (all_more (of_bytes (9 ∷ 9 ∷ 9 ∷ []) (all_more (omega arith) (all_more (omega arith) (all_more (omega arith) all_none))))
      (all_more (of_bytes (3 ∷ []) (all_more (omega arith) all_none)) all_none));
}

p6_sizes : listed_sizes p6 ≡ 2 ∷ 1 ∷ []
p6_sizes = listed_sizes_lem p6_set

-- ---- the calls

abbrev calls : List Call
calls = change add_file 1 ∷ change (add_volume Cauchy) 1 ∷ []

abbrev room : List ℕ
room = replicate 255 0

abbrev now : State
now = state_after Cauchy p6 calls

some_run : (s : Inventory) × Reached Cauchy p6 calls s
some_run = let (rs, s, run) = answered (open_step Cauchy 2 (listed_sizes p6)).next calls in
    (s, record { accepted = set-opened Cauchy p6 p6_set (omega arith) (omega arith); replies = rs; run = run })

as_many : nonempty_missing (after (opened Cauchy 2 (size_in (2 ∷ 1 ∷ []))) calls) ≤ volumes_present (after (opened Cauchy 2 (size_in (2 ∷ 1 ∷ []))) calls)
unfolding after next number_of changed size_below
as_many = omega arith

missing : now.files 2 ≡ false
unfolding after next number_of changed
missing = refl

asked : (s : Inventory) → Reached Cauchy p6 calls s → (room' : List ℕ) × (e : Inventory) × Step rule_of s (query 2 room) (queried 0 room') e
unfolding Run
asked s reached = go (answered s (query 2 room ∷ []))
  where
    go : ((rs : List Reply) × (e : Inventory) × Run rule_of s (query 2 room ∷ []) rs e)
        → (room' : List ℕ) × (e : Inventory) × Step rule_of s (query 2 room) (queried 0 room') e
    go ([], e, q) = absurd q
    go (reply k room' ∷ [], e, (s₁, did, q)) =
        let number : k ≡ 0 =
        any_will_do_called.enough 2 (listed_sizes p6) calls s reached
        (subst (λ (sizes : List ℕ). nonempty_missing (after (opened Cauchy 2 (size_in sizes)) calls) ≤ volumes_present (after (opened Cauchy 2 (size_in sizes)) calls))
        (sym p6_sizes) as_many) 2 refl missing room (omega (arith, length-replicate {A = ℕ} 255 0)) k room' s₁ did in
        (room', s₁, subst (λ (k : ℕ). Step rule_of s (query 2 room) (queried k room') s₁) number did)
    go (r ∷ (r' ∷ rs), e, (s₁, did, q)) = absurd q

-- ---- the fragments

-- volume 1, written by program 7
abbrev volume : List ℕ
volume = volume_for (version_for Cauchy) (rule_of Cauchy) 7 1 p6

abbrev parts : Parts
parts = parts_for Cauchy 7 1 (list_for p6) (data_for (rule_of Cauchy) 1 p6)

abbrev fragment : ℕ → List ℕ
fragment k = cond (eqb k 1) (contents_of p6 1) (take parts.data_size (drop parts.data_start volume))

-- the only one of a set
only : (j k : ℕ) → insert j (λ i. false) k ≡ true → k ≡ j
only j k e = by (eqb k j) refl e
  where
    by : (b : Bool) → eqb k j ≡ b → (b || false) ≡ true → k ≡ j
    by true p e = eqb-true k j p
    by false p e = absurd (false≢true e)

fragments : FragmentsOf Cauchy p6 now fragment
unfolding after next number_of changed
fragments = record {
  of_file = λ f is_file_lem has. subst (λ (g : ℕ). fragment g ≡ contents_of p6 g) (sym (only 1 f has)) refl;
  of_volume = λ v is-volume has.
      let right = p6_right 1 (omega arith) (omega arith) in
      subst (λ (u : ℕ). (file : List ℕ) × (p : Parts) × AsWritten Cauchy u p6 file × (read_of file ≡ Ok p)
      × (fragment (2 + u) ≡ take p.data_size (drop p.data_start file))) (sym (only 1 v has)) (
        volume,
        parts,
        record { right = right; program = 7; program_right = omega arith; file_is = refl },
        (set_read Cauchy 7 1 p6 (omega arith) right).read_is,
        refl,
      );
}

past_both : (a b c x y : Bool) → c ≡ false → y ≡ false → (a && (b && cond c x y)) ≡ false
past_both a b c x y p q = simp (p, q, and-false)

none_else : (k : ℕ) → 3 < k → present now k ≡ false
unfolding after next number_of changed
none_else k h =
    past_both (leb 1 k) (leb k 255) (leb k 2) (now.files k) (now.volumes (k - 2)) (lt-leb k 2 (omega arith))
    (ap (λ (b : Bool). b || false) (ne_eqb (k - 2) 1 (λ e. omega arith)))

both_once : Once (present now) (1 ∷ 3 ∷ [])
unfolding count after next number_of changed
both_once zero = refl
both_once (suc zero) = refl
both_once (suc (suc zero)) = refl
both_once (suc (suc (suc zero))) = refl
both_once (suc (suc (suc (suc k)))) =
    let uncounted : count (suc (suc (suc (suc k)))) (1 ∷ 3 ∷ []) ≡ 0 =
    simp (ne_eqb (suc (suc (suc (suc k)))) 1 (λ e. omega arith), ne_eqb (suc (suc (suc (suc k)))) 3 (λ e. omega arith)) in
    uncounted ∙ sym (ap (λ (b : Bool). cond b 1 0) (none_else (suc (suc (suc (suc k)))) (omega arith)))

-- ---- the file

pub file_back : (s : Inventory) × Reached Cauchy p6 calls s
    × (room' : List ℕ) × (e : Inventory) × Step rule_of s (query 2 room) (queried 0 room') e
    × FragmentsOf Cauchy p6 now fragment
    × Once (present now) (1 ∷ 3 ∷ [])
    × (b : List ℕ) × AddsAll (place (take 255 room')) fragment (1 ∷ 3 ∷ []) (replicate (size_in (listed_sizes p6) 2) 0) b
    × (Recovered p6 now 2 b × (b ≡ 3 ∷ []))
file_back = let (s, reached) = some_run in
    let (room', e, did) = asked s reached in
    let adds = all_given (place (take 255 room')) fragment (1 ∷ 3 ∷ []) (replicate (size_in (listed_sizes p6) 2) 0) in
    let back = set_recovered Cauchy p6 p6_set calls s reached 2 room room' e did fragment fragments (1 ∷ 3 ∷ []) both_once _ adds in
    (s, reached, room', e, did, fragments, both_once, _, adds, (back, back.file_is))
