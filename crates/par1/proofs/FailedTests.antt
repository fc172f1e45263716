-- The tests of writing and of checking in the document's words.
--
--   number_decides, data_decides     tests 7 and 9
--   name_decides                     test 18
--   told_decides                     test 15
-- Assumes nothing.
use mathlib.Core.Path.{◌≡◌, refl, sym, ◌∙◌}
use mathlib.Core.Bool.{Bool, true, false, false≢true}
use mathlib.Core.List.{List}
use Prim.Native.Nat.{ℕ, ◌+◌, ◌%◌, ◌≤◌, ◌<◌}
use native.Mathlib.Decide.{dec_lt, ℕ_discrete}
use native.Mathlib.Omega.{arith}
use lib.Dec.{eqb}
use lib.ListN.{length}
use borrow.Author.Tests.{eqb-true, eq-eqb, ne_eqb, le-leb, lt-leb}
use Rattle.lent_bytes.specs.Equal.{equal}
use Rattle.lent_bytes.proofs.EqualLaws.{equal-same, equal_true}
use Rattle.md5_digest.specs.Digest.{md5}
use Rattle.entries.specs.Claim.{BadName}
use Rattle.entries.specs.Entry.{file_size_of, md5_of, md5_of_16k, name_allowed}
use Rattle.entries.proofs.NameFaults.{name_rule}
use Rattle.par1_rules.specs.Hashes.{md5_first}
use Rattle.par1_rules.specs.Rules.{number_allowed, data_allowed}
use Rattle.refusals.proofs.OrderLaws.{Decides, passes, fails, decides_by}
use Rattle.par1.specs.Checking.{is_described}
use Rattle.par1.specs.Claim.{BadNumber, too_many, no_files, past_255, BadData, odd_comment, other_size}
use Rattle.par1.specs.Claim.{Differs, in_length, in_md5, in_md5_16k}

-- ---- 7

pub number_decides : (v n : ℕ) → Decides (number_allowed v n) (BadNumber v n)
unfolding number_allowed
number_decides v n = by (dec_lt 254 n) (ℕ_discrete v 0) (ℕ_discrete n 0) (dec_lt 255 (v + n))
  where
    none : n ≤ 254 → (1 ≤ v → (n ≡ 0 → ⊥) × (v + n ≤ 255)) → BadNumber v n → ⊥
    none few right (too_many h) = omega arith
    none few right (no_files h z) = (right h).0 z
    none few right (past_255 h k) = omega (arith, (right h).1)

    by : Dec (254 < n) → Dec (v ≡ 0) → Dec (n ≡ 0) → Dec (255 < v + n) → Decides (number_allowed v n) (BadNumber v n)
    by (yes h) index empty past = fails (simp (lt-leb n 254 h)) (too_many h)
    by (no h) (yes z) empty past = passes (simp (le-leb n 254 (omega arith), eq-eqb v 0 z)) (none (omega arith) (λ k. absurd (omega arith)))
    by (no h) (no k) (yes z) past = fails (simp (le-leb n 254 (omega arith), ne_eqb v 0 k, lt-leb 1 n (omega arith))) (no_files (omega arith) z)
    by (no h) (no k) (no l) (yes p) =
        fails (simp (le-leb n 254 (omega arith), ne_eqb v 0 k, le-leb 1 n (omega arith), lt-leb (v + n) 255 p)) (past_255 (omega arith) p)
    by (no h) (no k) (no l) (no p) =
        passes (simp (le-leb n 254 (omega arith), ne_eqb v 0 k, le-leb 1 n (omega arith), le-leb (v + n) 255 (omega arith)))
        (none (omega arith) (λ j. (l, omega arith)))

-- ---- 9

pub data_decides : (v greatest n : ℕ) → Decides (data_allowed v greatest n) (BadData v greatest n)
unfolding data_allowed
data_decides v greatest n = by (ℕ_discrete v 0) (ℕ_discrete (n % 2) 0) (ℕ_discrete n greatest)
  where
    none : (v ≡ 0 → n % 2 ≡ 0) → (1 ≤ v → n ≡ greatest) → BadData v greatest n → ⊥
    none even same (odd_comment z h) = omega (arith, even z)
    none even same (other_size h k) = k (same h)

    by : Dec (v ≡ 0) → Dec (n % 2 ≡ 0) → Dec (n ≡ greatest) → Decides (data_allowed v greatest n) (BadData v greatest n)
    by (yes z) (yes h) same = passes (simp (eq-eqb v 0 z, eq-eqb (n % 2) 0 h)) (none (λ k. h) (λ k. absurd (omega arith)))
    by (yes z) (no h) same = fails (simp (eq-eqb v 0 z, ne_eqb (n % 2) 0 h)) (odd_comment z (omega arith))
    by (no k) even (yes h) = passes (simp (ne_eqb v 0 k, eq-eqb n greatest h)) (none (λ z. absurd (k z)) (λ z. h))
    by (no k) even (no h) = fails (simp (ne_eqb v 0 k, ne_eqb n greatest h)) (other_size (omega arith) h)

-- ---- 18

pub name_decides : (name : List ℕ) → Decides (name_allowed name) (BadName name)
name_decides name = decides_by (name_allowed name) (λ e bad. false≢true (sym ((name_rule name).1 bad) ∙ e)) (name_rule name).0

-- ---- 15

pub told_decides : (e m : List ℕ) → Decides (is_described e m) (Differs e m)
unfolding is_described
told_decides e m = by (eqb (file_size_of e) (length m)) (equal (md5_of e) (md5 m)) (equal (md5_of_16k e) (md5_first m)) refl refl refl
  where
    none : file_size_of e ≡ length m → md5_of e ≡ md5 m → md5_of_16k e ≡ md5_first m → Differs e m → ⊥
    none size whole first (in_length h) = h size
    none size whole first (in_md5 h) = h whole
    none size whole first (in_md5_16k h) = h first

    by : (a b c : Bool) → eqb (file_size_of e) (length m) ≡ a → equal (md5_of e) (md5 m) ≡ b → equal (md5_of_16k e) (md5_first m) ≡ c
        → Decides (is_described e m) (Differs e m)
    by false b c p q r = fails (simp p) (in_length (λ z. false≢true (sym p ∙ eq-eqb _ _ z)))
    by true false c p q r = fails (simp (p, q)) (in_md5 (λ z. false≢true (sym q ∙ equal-same z)))
    by true true false p q r = fails (simp (p, q, r)) (in_md5_16k (λ z. false≢true (sym r ∙ equal-same z)))
    by true true true p q r = passes (simp (p, q, r)) (none (eqb-true _ _ p) (equal_true _ _ q) (equal_true _ _ r))
