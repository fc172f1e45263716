-- The counts of a scan are numbers of 64 bits.
--
--   sum_fits n m    64 bits hold n + m
--   has_room sc n   the counts of the scan sc have room for n bytes more
--   pushed sc l    the scan sc after the bytes l; where its counts have no room for so many, as it is
-- Assumes nothing.
use Rattle.std.specs.Prelude.{ℕ, ◌+◌, ◌^◌, Bool, cond, ◌&&◌, List, length, nat_lt}
use Rattle.list_scan.specs.declared.Scan.{Scan}
use Rattle.list_scan.specs.Scan.{scanned}

unfoldable pub sum_fits : ℕ → ℕ → Bool
sum_fits n m = nat_lt (n + m) (2 ^ 64)

-- with each byte, no count grows by more than 1
unfoldable pub has_room : Scan → ℕ → Bool
has_room sc n = sum_fits sc.at n && (sum_fits sc.totals.entries n && sum_fits sc.totals.saved n)

unfoldable pub pushed : Scan → List ℕ → Scan
pushed sc l = cond (has_room sc (length l)) (scanned sc l) sc
