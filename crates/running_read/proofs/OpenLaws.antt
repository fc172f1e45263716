-- The counts of a job that goes on.
--
--   Open c        the counts c of a job that goes on, in numbers
--   open_tells    the test tells them
--   is_open_lem       where they hold, the test passes
--   tested        the test, as the code makes it
--   open_short, open_few    a job that goes on has at most the cap of bytes, and of entries
-- Assumes nothing.
use mathlib.Core.Path.{◌≡◌, sym, ap, ◌∙◌}
use mathlib.Core.Bool.{Bool, true, false, not}
use Prim.Native.Nat.{◌+◌, ◌-◌, ◌*◌, ◌≤◌}
use native.Mathlib.Omega.{arith}
use lib.Dec.{leb, eqb}
use borrow.Author.Tests.{not-true, leb-true, eqb-true, eq-eqb, le-leb}
use Rattle.computed_tests.proofs.Tests.{and_both}
use Rattle.running_read.specs.declared.Counts.{Counts}
use Rattle.running_read.specs.declared.RunningRead.{RunningRead}
use Rattle.running_read.specs.Running.{cap, counts_of, is_open}

pub record Open (c : Counts) : Type 0 where
  pub goes : c.ended ≡ false
  pub short : c.total ≤ cap
  pub control_is : c.control ≡ c.total - 32
  pub within : c.at + 58 * c.entries ≤ c.total - 96
  pub some : c.saved ≤ c.entries
  pub set_is : c.set ≡ 16 * c.saved

module _ (c : Counts) where
  pub open_tells : is_open c ≡ true → Open c
  unfolding is_open
  open_tells e = let one = and_both (not c.ended) _ e in
      let two = and_both (leb c.total cap) _ one.1 in
      let three = and_both (eqb c.control (c.total - 32)) _ two.1 in
      let four = and_both (leb (c.at + 58 * c.entries) (c.total - 96)) _ three.1 in
      let five = and_both (leb c.saved c.entries) (eqb c.set (16 * c.saved)) four.1 in
      record {
        goes = not-true c.ended one.0;
        short = leb-true _ _ two.0;
        control_is = eqb-true _ _ three.0;
        within = leb-true _ _ four.0;
        some = leb-true _ _ five.0;
        set_is = eqb-true _ _ five.1;
      }

  pub open_set : c.ended ≡ false → c.total ≤ cap → c.control ≡ c.total - 32 → c.at + 58 * c.entries ≤ c.total - 96
      → c.saved ≤ c.entries → is_open c ≡ eqb c.set (16 * c.saved)
  unfolding is_open
  open_set a b d e f = simp (a, le-leb _ _ b, eq-eqb _ _ d, le-leb _ _ e, le-leb _ _ f)

  pub is_open_lem : Open c → is_open c ≡ true
  is_open_lem o = open_set o.goes o.short o.control_is o.within o.some ∙ eq-eqb _ _ o.set_is

pub tested : (j : RunningRead) {c : Counts} {b : Bool} → c ≡ counts_of j → b ≡ is_open c → is_open (counts_of j) ≡ b
tested j e f = sym (f ∙ ap is_open e)

pub open_short : (j : RunningRead) → is_open (counts_of j) ≡ true → j.total ≤ cap
unfolding counts_of
open_short j e = (open_tells (counts_of j) e).short

pub open_few : (j : RunningRead) → is_open (counts_of j) ≡ true → j.list.totals.entries ≤ cap
unfolding counts_of
open_few j e = let o = open_tells (counts_of j) e in omega (arith, o.within, o.short)
