-- A push, as the code works it out.
--
--   push_by       a push, part by part
--   push_open, push_refused     what a push gives
--   end_open, end_refused       what an end gives
-- Assumes nothing.
use Rattle.std.specs.Prelude.{Err}
use mathlib.Core.Path.{◌≡◌}
use mathlib.Core.Bool.{true, false}
use mathlib.Core.List.{List}
use Prim.Native.Nat.{ℕ, ◌+◌, ◌-◌}
use lib.ListN.{length, take, drop}
use lib.Seq.{sets}
use Rattle.refusals.specs.Tests.{bare}
use Rattle.md5_digest.specs.declared.Md5.{Md5}
use Rattle.md5_digest.specs.Running.{pushed}
use Rattle.par1_rules.specs.Layout.{list_size_of}
use Rattle.list_scan.specs.declared.Scan.{Scan}
use Rattle.list_scan.specs.Room as scan
use Rattle.running_read.specs.declared.RunningRead.{RunningRead}
use Rattle.running_read.specs.Running.{cap, push_of, reading_of, over_of, counts_of, is_open, push_answer, end_answer}

module _ (j : RunningRead) (bs : List ℕ) where
  pub push_by : {most size : ℕ} {s header p q : List ℕ} {control : Md5} {list : Scan} → most ≡ cap - j.total → s ≡ take most bs
      → header ≡ sets j.header j.total s → size ≡ list_size_of header → p ≡ drop (32 - j.total) s → control ≡ pushed j.control p
      → q ≡ take (size - (j.total - 96)) (drop (96 - j.total) s) → list ≡ scan.pushed j.list q
      → record { total = j.total + length s; header = header; control = control; list = list; ended = j.ended } ≡ push_of j bs
  unfolding push_of
  push_by m s h z p c q l = cc

  pub push_open : is_open (counts_of j) ≡ true → push_answer j bs ≡ record { number = 0; next = push_of j bs }
  unfolding push_answer
  push_open e = simp e

  pub push_refused : is_open (counts_of j) ≡ false → push_answer j bs ≡ record { number = 20; next = j }
  unfolding push_answer
  push_refused e = simp e

module _ (j : RunningRead) where
  pub end_open : is_open (counts_of j) ≡ true → end_answer j ≡ record { reading = reading_of j; next = over_of j }
  unfolding end_answer
  end_open e = simp e

  pub end_refused : is_open (counts_of j) ≡ false → end_answer j ≡ record { reading = Err (bare 20); next = j }
  unfolding end_answer
  end_refused e = simp e
