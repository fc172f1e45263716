-- Whether an entry ends.
--
--   Whole hd at        the entry with the first bytes hd is as long as it says, after at bytes
--   not_whole          where that cannot be, it does not end
--   settled_either     what holds where it ends and where it does not
-- Assumes nothing.
use Rattle.std.proofs.Common.{◌≡◌, ℕ, ◌%◌, ◌≤◌, Bool, true, false, cond, ◌&&◌, eqb, List, refl, eqb-true}
use Rattle.computed_tests.proofs.Tests.{test_fails, and_both}
use Rattle.md5_digest.specs.declared.Md5.{Md5}
use Rattle.entries.specs.declared.Totals.{Totals}
use Rattle.entries.specs.Entry.{entry_size, file_size_of, file_size_allowed, entry_size_allowed}
use Rattle.entries.proofs.EntryLaws.{sized}
use Rattle.list_scan.specs.declared.NameSoFar.{NameSoFar}
use Rattle.list_scan.specs.declared.Scan.{Scan}
use Rattle.list_scan.specs.Name.{name_ended}
use Rattle.list_scan.specs.Scan.{is_whole, scan_with, entry_ended, settled}

pub record Whole (hd : List ℕ) (at : ℕ) : Type 0 where
  pub size_is : entry_size hd ≡ at
  pub even : at % 2 ≡ 0
  pub low : 58 ≤ at

module _ (hd : List ℕ) (at : ℕ) (named : NameSoFar) where
  whole_at : is_whole hd at named ≡ true → Whole hd at
  unfolding is_whole
  whole_at e = let body : Bool = file_size_allowed (file_size_of hd) && name_ended named at in
      let first = and_both (eqb (entry_size hd) at) (entry_size_allowed at at && body) e in
      let z = sized at at (and_both (entry_size_allowed at at) body first.1).0 in
      record { size_is = eqb-true _ _ first.0; even = z.even; low = z.low }

  pub not_whole : (Whole hd at → ⊥) → is_whole hd at named ≡ false
  not_whole h = test_fails _ (λ e. h (whole_at e))

pub settled_either : (P : Scan → Type 0) (hd : List ℕ) (at low : ℕ) (named : NameSoFar) (t : Totals) (h : Md5)
    → (58 ≤ at → P (entry_ended hd t h)) → P (scan_with hd at low named t h) → P (settled hd at low named t h)
settled_either P hd at low named t h ends goes_on = by (is_whole hd at named) refl
  where
    by : (w : Bool) → is_whole hd at named ≡ w → P (cond w (entry_ended hd t h) (scan_with hd at low named t h))
    by true e = ends (whole_at hd at named e).low
    by false e = goes_on
