-- Which refusals reading gives.
--
--   header_most        tests 1 to 4
--   from_within        all tests: a number of at most 19, and the place that the walk found
--   refusal_within, read_within     the same of a file: the place of an entry of 58 bytes or more in it
-- Assumes nothing.
use Rattle.std.specs.Prelude.{Ok, Err}
use mathlib.Core.Path.{◌≡◌, refl, subst}
use mathlib.Core.Bool.{Bool}
use mathlib.Core.List.{List}
use Prim.Native.Nat.{ℕ, ◌+◌, ◌/◌, ◌≤◌}
use native.Mathlib.Omega.{arith}
use lib.Dec.{eqb}
use lib.ListN.{length, drop, length-take, length-drop}
use Rattle.refusals.specs.Tests.{test}
use Rattle.refusals.specs.declared.Refusal.{Refusal}
use Rattle.refusals.proofs.RangeLaws.{Within, test_most, bare-within, or-within}
use Rattle.lent_bytes.specs.Equal.{equal}
use Rattle.entries.specs.Walk.{walk_of}
use Rattle.entries.specs.Walk.{Walked}
use Rattle.entries.proofs.WalkLaws.{walk_refused}
use Rattle.par1_rules.specs.Layout.{signature, signature_of, version_of, control_hash_of, set_hash_of}
use Rattle.par1_rules.specs.Layout.{volume_number_of, count_of, list_size_of, data_size_of, list_of}
use Rattle.par1_rules.specs.Hashes.{set_hash, control_hash}
use Rattle.par1_rules.specs.Rules.{length_allowed, version_allowed, layout_allowed, number_allowed, data_allowed}
use Rattle.par1_read.specs.Reading.{header_refusal, control_refusal, totals_refusal, list_refusal, refusal_from, entries_in, read_of}
use Rattle.par1_read.proofs.ReadingLaws.{refusal_of, refused_is}

four_most : (i j k l : ℕ) (a b c d : Bool) → i ≤ 19 → j ≤ 19 → k ≤ 19 → l ≤ 19 → test i a (test j b (test k c (test l d 0))) ≤ 19
four_most i j k l a b c d p q r s =
    test_most i a (test j b (test k c (test l d 0))) p
    (test_most j b (test k c (test l d 0)) q (test_most k c (test l d 0) r (test_most l d 0 s (omega arith))))

header_most : (head : List ℕ) (n : ℕ) → header_refusal head n ≤ 19
unfolding header_refusal
header_most head n =
    four_most 1 2 3 4 (length_allowed n) (eqb (signature_of head) signature) (version_allowed (version_of head)) (layout_allowed head n)
    (omega arith) (omega arith) (omega arith) (omega arith)

control_most : (head digest : List ℕ) → control_refusal head digest ≤ 19
unfolding control_refusal
control_most head digest = test_most 5 (equal (control_hash_of head) digest) 0 (omega arith) (omega arith)

-- where the refusal that the walk found is within the range, so is that by all tests
module _ (k : ℕ) (head : List ℕ) (n : ℕ) (digest set : List ℕ) where
  list_within : (w : Walked) → ((r : Refusal) → w ≡ Err r → Within k r) → Within k (list_refusal head set w)
  unfolding totals_refusal
  list_within (Ok t) h =
      bare-within k (totals_refusal head set t)
      (four_most 19 7 8 9 (eqb t.entries (count_of head)) (number_allowed (volume_number_of head) t.saved) (equal (set_hash_of head) set)
      (data_allowed (volume_number_of head) t.greatest (data_size_of head)) (omega arith) (omega arith) (omega arith) (omega arith))
  list_within (Err r) h = h r refl

  pub from_within : (w : Walked) → ((r : Refusal) → w ≡ Err r → Within k r) → Within k (refusal_from head n digest set w)
  unfolding refusal_from
  from_within w h =
      or-within k (header_refusal head n) _ (header_most head n) (or-within k (control_refusal head digest) _ (control_most head digest) (list_within w h))

pub refusal_within : (f : List ℕ) → Within (length f / 58 + 1) (refusal_of f)
unfolding refusal_of
refusal_within f = let short : length (list_of f) ≤ length f = omega (arith, length-take (list_size_of f) (drop 96 f), length-drop 96 f) in
    from_within (length f / 58 + 1) f (length f) (control_hash f) (set_hash (entries_in f)) (walk_of (list_of f))
    (λ r e.
    let told = walk_refused (list_of f) e in
    record { number_most = omega (arith, told.high); place_most = omega (arith, told.place_most) })

pub read_within : (f : List ℕ) {r : Refusal} → read_of f ≡ Err r → Within (length f / 58 + 1) r
read_within f e = subst (Within (length f / 58 + 1)) (refused_is f e) (refusal_within f)
