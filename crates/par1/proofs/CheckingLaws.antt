-- What checking gives, from the refusal of the entry.
--
--   check_lone          an entry that stands alone and passes
--   Lone, lone_tells    what it then tells
-- A test of document 01 is passed where it does not hold.
-- Assumes nothing.
use Rattle.std.specs.Prelude.{Some, None, Ok, Err}
use mathlib.Core.Path.{◌≡◌, refl, sym, ap, ◌∙◌}
use mathlib.Core.Bool.{true}
use mathlib.Core.List.{List}
use Prim.Native.Nat.{ℕ, ◌≤◌}
use native.Mathlib.Omega.{arith}
use lib.Dec.{eqb}
use lib.ListN.{length, take}
use lib.Seq.{take-length}
use borrow.Author.Tests.{eqb-true}
use Rattle.computed_tests.proofs.Tests.{and_both}
use Rattle.entries.specs.Entry.{entry_size, file_size_of, file_size_allowed, entry_size_allowed, body_allowed, entry_allowed}
use Rattle.entries.specs.Walk.{Item, fault_number, first_of}
use Rattle.entries.specs.declared.Fault.{Fault}
use Rattle.entries.specs.declared.Fault.TheVariants.{Size, FileSize, Name}
use Rattle.entries.proofs.EntryLaws.{sized, is_entry}
use Rattle.refusals.specs.Tests.{bare, test}
use Rattle.refusals.proofs.TestLaws.{test_passed}
use Rattle.par1.specs.Checking.{item_number, lone_refusal, is_described, check_of}

pub check_lone : (e m : List ℕ) → lone_refusal e ≡ 0 → check_of e m ≡ bare (test 15 (is_described e m) 0)
unfolding check_of
check_lone e m z = simp z

-- ---- what an entry tells that stands alone and passes

pub record Lone (e : List ℕ) : Type 0 where
  pub fills : entry_size e ≡ length e
  pub low : 58 ≤ length e
  pub size_right : file_size_allowed (file_size_of e) ≡ true

-- no fault has the number 0
fault_some : (f : Fault) → fault_number f ≡ 0 → ⊥
fault_some Size z = omega arith
fault_some FileSize z = omega arith
fault_some Name z = omega arith

allowed_lone : (e : List ℕ) → entry_size e ≡ length e → entry_allowed e ≡ true → Lone e
unfolding entry_allowed body_allowed
allowed_lone e fills allowed = let both = and_both (entry_size_allowed (entry_size e) (length e)) _ allowed in
    let body = and_both (file_size_allowed (file_size_of (take (entry_size e) e))) _ both.1 in
    let own : take (entry_size e) e ≡ e = ap (λ (k : ℕ). take k e) fills ∙ take-length e in
    record {
      fills = fills;
      low = omega (arith, (sized _ _ both.0).low);
      size_right = ap (λ (l : List ℕ). file_size_allowed (file_size_of l)) (sym own) ∙ body.0;
    }

pub lone_tells : (e : List ℕ) → lone_refusal e ≡ 0 → Lone e
unfolding lone_refusal
lone_tells e z = let passed = test_passed 16 (eqb (entry_size e) (length e)) (item_number (first_of e)) (omega arith) z in
    by (first_of e) refl (eqb-true _ _ passed.0) passed.1
  where
    by : (i : Item) → i ≡ first_of e → entry_size e ≡ length e → item_number i ≡ 0 → Lone e
    by (Ok (Some i)) f fills z = allowed_lone e fills (is_entry f).allowed
    by (Ok None) f fills z = absurd (omega arith)
    by (Err k) f fills z = absurd (fault_some k z)
