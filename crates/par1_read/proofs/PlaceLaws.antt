-- The place of a file's refusal.
--
--   tests_placed     tests 1 to 5 have no place, and those on the list come after them
--   totals_low       nor have tests 19 and 7 to 9
--   read_placed, fault_read     the claims
-- Assumes nothing.
use Rattle.std.specs.Prelude.{Ok, Err}
use mathlib.Core.Path.{◌≡◌, refl, sym, ◌∙◌, subst}
use mathlib.Core.Bool.{Bool, true, false}
use mathlib.Core.List.{List}
use mathlib.Core.Logic.{◌⊎◌, inl, inr}
use Prim.Native.Nat.{ℕ, zero, suc, ◌<◌}
use native.Mathlib.Omega.{arith}
use lib.Dec.{eqb}
use lib.ListN.{length}
use Rattle.lent_bytes.specs.Equal.{equal}
use Rattle.refusals.specs.Tests.{test, or_else}
use Rattle.refusals.specs.declared.Refusal.{Refusal}
use Rattle.entries.specs.Walk.{walk_of}
use Rattle.entries.specs.Walk.{Walked}
use Rattle.entries.proofs.FirstFaults.{breaks_number, first_refused}
use Rattle.par1_rules.specs.Layout.{signature, signature_of, version_of, control_hash_of, set_hash_of}
use Rattle.par1_rules.specs.Layout.{volume_number_of, count_of, data_size_of, list_of}
use Rattle.par1_rules.specs.Hashes.{set_hash, control_hash}
use Rattle.par1_rules.specs.Rules.{length_allowed, version_allowed, layout_allowed, number_allowed, data_allowed}
use Rattle.par1_read.specs.Claim.{Placed, at_entry, placeless, ReadPlaced, FaultRead}
use Rattle.par1_read.specs.Reading.{header_refusal, control_refusal, totals_refusal, list_refusal, refusal_from, entries_in}
use Rattle.par1_read.proofs.ReadingLaws.{refusal_of, read_accepted, read_refused}

totals_low : (a b c d : Bool) → let n = test 19 a (test 7 b (test 8 c (test 9 d 0))) in (n < 16) ⊎ (n ≡ 19)
totals_low false b c d = inr refl
totals_low true false c d = inl (omega arith)
totals_low true true false d = inl (omega arith)
totals_low true true true false = inl (omega arith)
totals_low true true true true = inl (omega arith)

module _ (f : List ℕ) where
  tests_placed : (a b c d e : Bool) (r : Refusal) → Placed f r
      → Placed f (or_else (test 1 a (test 2 b (test 3 c (test 4 d 0)))) (or_else (test 5 e 0) r))
  tests_placed false b c d e r p = placeless refl (inl (omega arith))
  tests_placed true false c d e r p = placeless refl (inl (omega arith))
  tests_placed true true false d e r p = placeless refl (inl (omega arith))
  tests_placed true true true false e r p = placeless refl (inl (omega arith))
  tests_placed true true true true false r p = placeless refl (inl (omega arith))
  tests_placed true true true true true r p = p

  list_placed : (w : Walked) → walk_of (list_of f) ≡ w → Placed f (list_refusal f (set_hash (entries_in f)) w)
  unfolding totals_refusal
  list_placed (Ok t) e =
      placeless refl
      (totals_low (eqb t.entries (count_of f)) (number_allowed (volume_number_of f) t.saved) (equal (set_hash_of f) (set_hash (entries_in f)))
      (data_allowed (volume_number_of f) t.greatest (data_size_of f)))
  list_placed (Err r) e = at_entry ((first_refused (list_of f) r).0 e)

  refusal_placed : Placed f (refusal_of f)
  unfolding refusal_of refusal_from header_refusal control_refusal
  refusal_placed =
      tests_placed (length_allowed (length f)) (eqb (signature_of f) signature) (version_allowed (version_of f)) (layout_allowed f (length f))
      (equal (control_hash_of f) (control_hash f)) (list_refusal f (set_hash (entries_in f)) (walk_of (list_of f))) (list_placed (walk_of (list_of f)) refl)

pub read_placed : ReadPlaced
read_placed f r e = by (refusal_of f).number refl
  where
    by : (n : ℕ) → n ≡ (refusal_of f).number → Placed f r
    by zero n = let found = read_accepted f (sym n) in absurd (let z : ◌≡◌ {A = ℕ} 0 1 = cc in omega arith)
    by (suc m) n = let both : Err (refusal_of f) ≡ Err r = sym (read_refused f refl (λ z. omega arith)) ∙ e in
        let same : refusal_of f ≡ r = cc in subst (Placed f) same (refusal_placed f)

pub fault_read : FaultRead
unfolding refusal_of refusal_from
fault_read f r header control fault = let walked-is = (first_refused (list_of f) r).1 fault in
    let is : refusal_of f ≡ r = simp (header, control, walked-is) in
    read_refused f (sym is) (breaks_number fault.breaks)
