-- Which refusal reading gives.
--
--   equal_decides, eqb_decides     what a comparison decides
--   length_decides, signature_decides, version_decides, layout_decides, control_decides     tests 1 to 5
--   head_told, totals_told  the tests before those on the entries, and those after them
--   reading_refused     the claim
-- A test is passed where it does not hold.
-- Assumes nothing.
use Rattle.std.specs.Prelude.{Ok, Err}
use mathlib.Core.Path.{◌≡◌, refl, sym, ap, ◌∙◌, subst}
use mathlib.Core.Bool.{Bool, true, false, false≢true}
use mathlib.Core.List.{List, [], ◌∷◌}
use mathlib.Core.Logic.{◌⊎◌, inl, inr}
use Prim.Native.Nat.{ℕ, ◌+◌, ◌≤◌, ◌<◌}
use native.Mathlib.Decide.{dec_lt, ℕ_discrete}
use native.Mathlib.Omega.{arith}
use lib.Dec.{eqb}
use lib.ListN.{length, take}
use borrow.Author.Tests.{eq-eqb, ne_eqb, lt-leb}
use Rattle.little_endian.specs.Bytes.{Bytes, from_le, le_at, to_le}
use Rattle.little_endian.proofs.Reading.{to_le_at}
use Rattle.lent_bytes.specs.Equal.{equal}
use Rattle.lent_bytes.proofs.EqualLaws.{equal-same, equal_true}
use Rattle.refusals.specs.Limits.{max_volume_length}
use Rattle.refusals.specs.Order.{First}
use Rattle.refusals.specs.Tests.{bare, test, or_else}
use Rattle.refusals.specs.declared.Refusal.{Refusal}
use Rattle.refusals.proofs.OrderLaws.{Decides, passes, fails, decides_as, Told, none, some, told_end, told_test, told_first, told_none}
use Rattle.refusals.proofs.TestLaws.{or_else_lem}
use Rattle.entries.specs.Walk.{walk_of}
use Rattle.entries.specs.declared.Totals.{Totals}
use Rattle.entries.specs.Walk.{Walked}
use Rattle.entries.proofs.FirstFaults.{breaks_number, first_refused}
use Rattle.par1_rules.specs.Layout.{signature, signature_of, version_of, control_hash_of, set_hash_of, volume_number_of, count_of}
use Rattle.par1_rules.specs.Layout.{list_start_of, list_size_of, data_start_of, data_size_of, list_of}
use Rattle.par1_rules.specs.Hashes.{set_hash, control_hash}
use Rattle.par1_rules.specs.Rules.{length_allowed, version_allowed, layout_allowed}
use Rattle.par1_rules.proofs.RuleLaws as rules
use Rattle.par1_rules.proofs.RuleLaws.{code_versions, between, long_enough, Laid, not_laid, laid_out}
use Rattle.par1_read.specs.Reading.{header_refusal, control_refusal, totals_refusal, list_refusal, refusal_from, entries_in, read_of}
use Rattle.par1_read.proofs.ReadingLaws.{refusal_of, read_refused, refused_is, refused_some}
use Rattle.par1.specs.Claim.{HeadFails, too_short, too_long, other_signature, other_version}
use Rattle.par1.specs.Claim.{list_elsewhere, data_elsewhere, ends_elsewhere, other_control}
use Rattle.par1.specs.Claim.{BadNumber, BadData, TotalsFail, other_count, bad_volume, other_set, bad_size}
use Rattle.par1.specs.Claim.{ReadRefuses, by_head, by_entry, by_totals, ReadRefused}
use Rattle.par1.proofs.FailedTests.{number_decides, data_decides}

-- ---- what a comparison decides

equal_decides : (s t : List ℕ) → Decides (equal s t) (s ≡ t → ⊥)
equal_decides s t = by (equal s t) refl
  where
    by : (b : Bool) → equal s t ≡ b → Decides (equal s t) (s ≡ t → ⊥)
    by true e = passes e (λ h. h (equal_true s t e))
    by false e = fails e (λ z. false≢true (sym e ∙ equal-same z))

eqb_decides : (m n : ℕ) → Decides (eqb m n) (m ≡ n → ⊥)
eqb_decides m n = by (ℕ_discrete m n)
  where
    by : Dec (m ≡ n) → Decides (eqb m n) (m ≡ n → ⊥)
    by (yes e) = passes (eq-eqb m n e) (λ h. h e)
    by (no h) = fails (ne_eqb m n h) h

-- ---- tests 1 to 5

module _ (f : List ℕ) where
  length_decides : Decides (length_allowed (length f)) (HeadFails f 1)
  unfolding length_allowed
  length_decides = by (dec_lt (length f) 96) (dec_lt max_volume_length (length f))
    where
      right : 96 ≤ length f → length f ≤ max_volume_length → HeadFails f 1 → ⊥
      right low high (too_short h) = omega arith
      right low high (too_long h) = omega arith

      by : Dec (length f < 96) → Dec (max_volume_length < length f) → Decides (length_allowed (length f)) (HeadFails f 1)
      by (yes h) long = fails (simp (lt-leb 96 (length f) h)) (too_short h)
      by (no h) (yes k) = fails (rules.too_long (length f) k) (too_long k)
      by (no h) (no k) = passes (long_enough (length f) (omega arith) (omega arith)) (right (omega arith) (omega arith))

-- ""PAR" and five zero bytes", and its number
signature_spelled : to_le 8 signature ≡ 80 ∷ 65 ∷ 82 ∷ 0 ∷ 0 ∷ 0 ∷ 0 ∷ 0 ∷ []
unfolding to_le signature from_le
signature_spelled = refl

signature_read : (f : List ℕ) → take 8 f ≡ 80 ∷ 65 ∷ 82 ∷ 0 ∷ 0 ∷ 0 ∷ 0 ∷ 0 ∷ [] → signature_of f ≡ signature
unfolding le_at signature
signature_read f e = ap from_le e

module _ (f : List ℕ) where
  -- the first eight bytes are there where test 1 is passed
  signature_decides : Bytes f → 96 ≤ length f → Decides (eqb (signature_of f) signature) (HeadFails f 2)
  signature_decides bytes long = decides_as (eqb_decides (signature_of f) signature) (λ h. other_signature (λ e. h (signature_read f e))) back
    where
      back : HeadFails f 2 → signature_of f ≡ signature → ⊥
      back (other_signature h) e = h (sym (to_le_at 8 f 0 bytes (omega arith)) ∙ ap (to_le 8) e ∙ signature_spelled)

  version_decides : Decides (version_allowed (version_of f)) (HeadFails f 3)
  version_decides = by (version_allowed (version_of f)) refl
    where
      right : (version_of f ≡ 65536) ⊎ (version_of f ≡ 131328) → HeadFails f 3 → ⊥
      right (inl e) (other_version h k) = h e
      right (inr e) (other_version h k) = k e

      wrong : version_allowed (version_of f) ≡ false → (version_of f ≡ 65536) ⊎ (version_of f ≡ 131328) → ⊥
      wrong e v = false≢true (sym e ∙ (code_versions.no_others (version_of f)).1 v)

      by : (b : Bool) → version_allowed (version_of f) ≡ b → Decides (version_allowed (version_of f)) (HeadFails f 3)
      by true e = passes e (right ((code_versions.no_others (version_of f)).0 e))
      by false e = fails e (other_version (λ v. wrong e (inl v)) (λ v. wrong e (inr v)))

  layout_decides : Decides (layout_allowed f (length f)) (HeadFails f 4)
  layout_decides =
      by (ℕ_discrete (list_start_of f) 96) (ℕ_discrete (data_start_of f) (96 + list_size_of f)) (ℕ_discrete (data_start_of f + data_size_of f) (length f))
    where
      right : Laid f (length f) → HeadFails f 4 → ⊥
      right l (list_elsewhere h) = h l.list_start
      right l (data_elsewhere h) = h l.data_start_lem
      right l (ends_elsewhere h) = h l.data_end

      by : Dec (list_start_of f ≡ 96) → Dec (data_start_of f ≡ 96 + list_size_of f) → Dec (data_start_of f + data_size_of f ≡ length f)
          → Decides (layout_allowed f (length f)) (HeadFails f 4)
      by (no h) start ends = fails (not_laid f (length f) (λ l. h l.list_start)) (list_elsewhere h)
      by (yes a) (no h) ends = fails (not_laid f (length f) (λ l. h l.data_start_lem)) (data_elsewhere h)
      by (yes a) (yes b) (no h) = fails (not_laid f (length f) (λ l. h l.data_end)) (ends_elsewhere h)
      by (yes a) (yes b) (yes c) =
          let l : Laid f (length f) = record { list_start = a; data_start_lem = b; data_end = c } in passes (laid_out f (length f) l) (right l)

  control_decides : Decides (equal (control_hash_of f) (control_hash f)) (HeadFails f 5)
  control_decides = decides_as (equal_decides (control_hash_of f) (control_hash f)) other_control back
    where
      back : HeadFails f 5 → control_hash_of f ≡ control_hash f → ⊥
      back (other_control h) = h

  -- the number that they give together
  head_number : ℕ
  head_number =
      test 1 (length_allowed (length f))
      (test 2 (eqb (signature_of f) signature)
      (test 3 (version_allowed (version_of f)) (test 4 (layout_allowed f (length f)) (test 5 (equal (control_hash_of f) (control_hash f)) 0))))

  head_told : Bytes f → Told (HeadFails f) (1 ∷ 2 ∷ 3 ∷ 4 ∷ 5 ∷ []) head_number
  unfolding head_number
  head_told bytes =
      told_test 1 (λ z. omega arith) (length_decides f)
      (λ one. told_test 2 (λ z. omega arith) (signature_decides bytes (between (length f) one).low)
      (λ two. told_test 3 (λ z. omega arith) version_decides
      (λ three. told_test 4 (λ z. omega arith) layout_decides (λ four. told_test 5 (λ z. omega arith) control_decides (λ five. told_end)))))

-- ---- tests 19 and 7 to 9

module _ (f : List ℕ) (t : Totals) where
  totals_told : Told (TotalsFail f t) (19 ∷ 7 ∷ 8 ∷ 9 ∷ []) (totals_refusal f (set_hash (entries_in f)) t)
  unfolding totals_refusal
  totals_told =
      told_test 19 (λ z. omega arith) (decides_as (eqb_decides t.entries (count_of f)) other_count count_back)
      (λ one. told_test 7 (λ z. omega arith) (decides_as (number_decides (volume_number_of f) t.saved) bad_volume volume_back)
      (λ two. told_test 8 (λ z. omega arith) (decides_as (equal_decides (set_hash_of f) (set_hash (entries_in f))) other_set set_back)
      (λ three. told_test 9 (λ z. omega arith) (decides_as (data_decides (volume_number_of f) t.greatest (data_size_of f)) bad_size size_back)
      (λ four. told_end))))
    where
      count_back : TotalsFail f t 19 → t.entries ≡ count_of f → ⊥
      count_back (other_count h) = h

      volume_back : TotalsFail f t 7 → BadNumber (volume_number_of f) t.saved
      volume_back (bad_volume b) = b

      set_back : TotalsFail f t 8 → set_hash_of f ≡ set_hash (entries_in f) → ⊥
      set_back (other_set h) = h

      size_back : TotalsFail f t 9 → BadData (volume_number_of f) t.greatest (data_size_of f)
      size_back (bad_size b) = b

-- ---- the claim

joined : (a b c d e : Bool) (r : Refusal)
    → or_else (test 1 a (test 2 b (test 3 c (test 4 d 0)))) (or_else (test 5 e 0) r) ≡ or_else (test 1 a (test 2 b (test 3 c (test 4 d (test 5 e 0))))) r
joined false b c d e r = refl
joined true false c d e r = refl
joined true true false d e r = refl
joined true true true false e r = refl
joined true true true true e r = refl

module _ (f : List ℕ) (bytes : Bytes f) where
  abbrev list_refusal_lem : Walked → Refusal
  list_refusal_lem = list_refusal f (set_hash (entries_in f))

  joined_is : refusal_of f ≡ or_else (head_number f) (list_refusal_lem (walk_of (list_of f)))
  unfolding refusal_of refusal_from header_refusal control_refusal head_number
  joined_is =
      joined (length_allowed (length f)) (eqb (signature_of f) signature) (version_allowed (version_of f)) (layout_allowed f (length f))
      (equal (control_hash_of f) (control_hash f)) _

  -- where tests 1 to 5 are passed, the list decides
  by_list : {w : Walked} → head_number f ≡ 0 → walk_of (list_of f) ≡ w → refusal_of f ≡ list_refusal_lem w
  by_list head e = joined_is ∙ ap (λ (n : ℕ). or_else n (list_refusal_lem (walk_of (list_of f)))) head ∙ ap list_refusal_lem e

  refuses : ((refusal_of f).number ≡ 0 → ⊥) → ReadRefuses f (refusal_of f)
  refuses h = by (head_told f bytes)
    where
      by_totals_of : (t : Totals) → head_number f ≡ 0 → ((k : ℕ) → First (HeadFails f) (1 ∷ 2 ∷ 3 ∷ 4 ∷ 5 ∷ []) k → ⊥)
          → walk_of (list_of f) ≡ Ok t → Told (TotalsFail f t) (19 ∷ 7 ∷ 8 ∷ 9 ∷ []) (totals_refusal f (set_hash (entries_in f)) t)
          → ReadRefuses f (refusal_of f)
      by_totals_of t z passed e (none k l) = absurd (h (ap (λ (r : Refusal). r.number) (by_list z e) ∙ k))
      by_totals_of t z passed e (some k l) = subst (ReadRefuses f) (sym (by_list z e)) (by_totals passed e l)

      by_walk : (w : Walked) → walk_of (list_of f) ≡ w → head_number f ≡ 0 → ((k : ℕ) → First (HeadFails f) (1 ∷ 2 ∷ 3 ∷ 4 ∷ 5 ∷ []) k → ⊥)
          → ReadRefuses f (refusal_of f)
      by_walk (Err r) e z passed = subst (ReadRefuses f) (sym (by_list z e)) (by_entry passed ((first_refused (list_of f) r).0 e))
      by_walk (Ok t) e z passed = by_totals_of t z passed e (totals_told f t)

      by : Told (HeadFails f) (1 ∷ 2 ∷ 3 ∷ 4 ∷ 5 ∷ []) (head_number f) → ReadRefuses f (refusal_of f)
      by (some l first) = subst (ReadRefuses f) (sym (joined_is ∙ or_else_lem (head_number f) _ l)) (by_head first)
      by (none z passed) = by_walk (walk_of (list_of f)) refl z passed

  refused_by : {r : Refusal} → ReadRefuses f r → read_of f ≡ Err r
  refused_by (by_head first) = let told = told_first (head_told f bytes) first in
      read_refused f (sym (joined_is ∙ or_else_lem (head_number f) _ (λ z. told.1 (sym told.0 ∙ z)) ∙ ap bare told.0)) told.1
  refused_by (by_entry {r} passed fault) =
      read_refused f (sym (by_list (told_none (head_told f bytes) passed) ((first_refused (list_of f) r).1 fault))) (breaks_number fault.breaks)
  refused_by (by_totals {t} passed e first) = let told = told_first (totals_told f t) first in
      read_refused f (sym (by_list (told_none (head_told f bytes) passed) e ∙ ap bare told.0)) told.1

pub reading_refused : ReadRefused
reading_refused f bytes r = (
  λ e. let is = refused_is f e in
      subst (ReadRefuses f) is (refuses f bytes (λ z. refused_some f e (ap (λ (q : Refusal). q.number) (sym is) ∙ z))),
  refused_by f bytes,
)
