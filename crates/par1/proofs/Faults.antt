-- Which refusal an entry at fault gets, in a list that is written and alone.
--
--   item_broken                    the number of the rule that an entry breaks is that of its refusal
--   lone_number_lem                    so it is of one that stands alone
--   lone_first                     which breaks a rule, or passes
--   fault_written, lone_refused, checked     the claims
-- Assumes nothing.
use mathlib.Core.Path.{◌≡◌, refl, sym, ap, ◌∙◌, subst}
use mathlib.Core.Bool.{Bool, true, false}
use mathlib.Core.List.{List, [], ◌∷◌}
use Prim.Native.Nat.{ℕ, ◌<◌}
use native.Mathlib.Decide.{ℕ_discrete}
use native.Mathlib.Omega.{arith}
use lib.ListN.{length, take}
use borrow.Author.Tests.{eq-eqb, ne_eqb}
use Rattle.entries.specs.Claim.{Breaks, breaks_size, breaks_file_size, breaks_name}
use Rattle.entries.specs.Entry.{entry_size, file_size_of, name_of, name_allowed, file_size_allowed, entry_size_allowed}
use Rattle.entries.specs.Walk.{Item, first_of}
use Rattle.entries.specs.Walk.{Walked}
use Rattle.entries.proofs.EntryLaws.{sized, first_entry}
use Rattle.entries.proofs.FirstFaults.{breaks_number, broken_first, first_refused}
use Rattle.lent_bytes.specs.Writing.{written_unless}
use Rattle.par1_write.specs.VolumeWriting.{volume_bytes, walk_refusal, write_volume_of}
use Rattle.refusals.specs.Tests.{bare, test, or_else}
use Rattle.refusals.specs.declared.Refusal.{Refusal}
use Rattle.refusals.proofs.TestLaws.{or_else_lem}
use Rattle.par1.specs.Checking.{item_number, lone_refusal, is_described, check_of}
use Rattle.par1.specs.Claim.{FaultWritten, LoneBreaks, short_of_slice, breaks_rule, LoneRefused}
use Rattle.par1.specs.Claim.{Differs, Checks, bad_entry, different, as_told, Checked}
use Rattle.par1.proofs.CheckingLaws.{check_lone}
use Rattle.refusals.proofs.OrderLaws.{Decides, passes, fails, fails_where, passes_where}
use Rattle.par1.proofs.FailedTests.{told_decides}

pub fault_written : FaultWritten
unfolding write_volume_of written_unless
fault_written c program number list area out r fault = let s : List ℕ = volume_bytes c program number list area in
    ap (λ (w : Walked). written_unless (walk_refusal number w (length list) (length area)) s out) ((first_refused list r).1 fault)
    ∙ simp (ne_eqb r.number 0 (breaks_number fault.breaks))

-- ---- an entry that stands alone

pub item_broken : (e : List ℕ) {n : ℕ} → Breaks e n → item_number (first_of e) ≡ n
unfolding first_of
item_broken [] (breaks_size p) = refl
item_broken [] (breaks_file_size p q) = absurd (let z = sized (entry_size []) 0 p in omega (arith, z.low, z.high))
item_broken [] (breaks_name p q r) = absurd (let z = sized (entry_size []) 0 p in omega (arith, z.low, z.high))
item_broken (b ∷ e) broken = let told = broken_first (b ∷ e) (omega arith) broken in ap (λ (i : Item). item_number i) told.0 ∙ told.1

module _ {e : List ℕ} where
  pub lone_number_lem : {n : ℕ} → LoneBreaks e n → lone_refusal e ≡ n
  unfolding lone_refusal
  lone_number_lem (short_of_slice h) = simp (ne_eqb (entry_size e) (length e) h)
  lone_number_lem (breaks_rule h broken) = simp (eq-eqb (entry_size e) (length e) h) (item_broken e broken)

  pub lone_some : {n : ℕ} → LoneBreaks e n → n ≡ 0 → ⊥
  lone_some (short_of_slice h) z = omega arith
  lone_some (breaks_rule h broken) z = breaks_number broken z

pub lone_refused : LoneRefused
unfolding check_of
lone_refused e m n broken = ap (λ (k : ℕ). or_else k (bare (test 15 (is_described e m) 0))) (lone_number_lem broken) ∙ or_else_lem n _ (lone_some broken)

-- it breaks a rule, or passes
pub lone_first : (e : List ℕ) (P : Type 0) → ((n : ℕ) → LoneBreaks e n → P) → (lone_refusal e ≡ 0 → P) → P
unfolding lone_refusal
lone_first e P some none = by (ℕ_discrete (entry_size e) (length e))
  where
    ruled : entry_size e ≡ length e → (a b c : Bool) → entry_size_allowed (entry_size e) (length e) ≡ a
        → file_size_allowed (file_size_of (take (entry_size e) e)) ≡ b → name_allowed (name_of (take (entry_size e) e)) ≡ c → P
    ruled fills false b c p q r = some _ (breaks_rule fills (breaks_size p))
    ruled fills true false c p q r = some _ (breaks_rule fills (breaks_file_size p q))
    ruled fills true true false p q r = some _ (breaks_rule fills (breaks_name p q r))
    ruled fills true true true p q r = let z = sized (entry_size e) (length e) p in
        let long : 0 < length e = omega (arith, z.low, z.high) in
        none (simp (eq-eqb (entry_size e) (length e) fills, first_entry e long refl p q r))

    by : Dec (entry_size e ≡ length e) → P
    by (no h) = some _ (short_of_slice h)
    by (yes h) =
        ruled h (entry_size_allowed (entry_size e) (length e)) (file_size_allowed (file_size_of (take (entry_size e) e)))
        (name_allowed (name_of (take (entry_size e) e))) refl refl refl

module _ (e : List ℕ) where
  pub lone_passed : ((n : ℕ) → LoneBreaks e n → ⊥) → lone_refusal e ≡ 0
  lone_passed none = lone_first e (lone_refusal e ≡ 0) (λ n broken. absurd (none n broken)) (λ z. z)

  pub lone_kept : lone_refusal e ≡ 0 → (n : ℕ) → LoneBreaks e n → ⊥
  lone_kept z n broken = lone_some broken (sym (lone_number_lem broken) ∙ z)

pub checked : Checked
checked e m r = (to, from)
  where
    to : {q : Refusal} → Checks e m q → check_of e m ≡ q
    to (bad_entry {n} broken) = lone_refused e m n broken
    to (different none d) = check_lone e m (lone_passed e none) ∙ simp (fails_where (told_decides e m) d)
    to (as_told none same) = check_lone e m (lone_passed e none) ∙ simp (passes_where (told_decides e m) same)

    -- what checking gives is what it says
    gives : {q : Refusal} → check_of e m ≡ r → Checks e m q → Checks e m r
    gives is c = subst (Checks e m) (sym (to c) ∙ is) c

    alone : check_of e m ≡ r → lone_refusal e ≡ 0 → Decides (is_described e m) (Differs e m) → Checks e m r
    alone is z (fails p d) = gives is (different (lone_kept e z) d)
    alone is z (passes p same) = gives is (as_told (lone_kept e z) same)

    from : check_of e m ≡ r → Checks e m r
    from is = lone_first e (Checks e m r) (λ n broken. gives is (bad_entry broken)) (λ z. alone is z (told_decides e m))
