-- What a reading tells of its file.
--
--   list_in   the list that it tells of lies in the file
-- Assumes nothing.
use mathlib.Core.Path.{◌≡◌, refl, sym, subst}
use mathlib.Core.List.{List}
use Prim.Native.Nat.{ℕ, zero, suc}
use native.Mathlib.Omega.{arith}
use lib.ListN.{length}
use Rattle.refusals.proofs.TestLaws.{or-none}
use Rattle.par1_read.specs.Reading.{header_refusal, refusal_from, read_of}
use Rattle.par1_read.specs.Reading.{Reading}
use Rattle.par1_read.proofs.ReadingLaws.{HeaderPassed, header_passed, refusal_of, read_accepted, read_refused}
use Rattle.listing.specs.Listing.{ListIn}

by_refusal : (f : List ℕ) (n : ℕ) → n ≡ (refusal_of f).number → ListIn (read_of f) f
unfolding refusal_of refusal_from
by_refusal f zero e = let h : HeaderPassed f (length f) = header_passed f (length f) (or-none (header_refusal f (length f)) _ (sym e)).0 in
    rw (read_accepted f (sym e)) (refl, omega (arith, h.layout.data_start_lem, h.layout.data_end))
by_refusal f (suc n) e = rw (read_refused f refl (λ z. omega arith)) tt

pub list_in : (f : List ℕ) {r : Reading} → r ≡ read_of f → ListIn r f
list_in f e = subst (λ (r : Reading). ListIn r f) (sym e) (by_refusal f (refusal_of f).number refl)
