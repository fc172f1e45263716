-- The room of the counts of a scan.
--
--   fits_by            the sum of two counts and 64 bits, as the code tests it
--   Room sc n, room    the counts of sc have room for n bytes more, in numbers
--   pushed_room        bytes that there is room for are scanned
--   room_run           each byte takes up one of the room at most
-- Assumes nothing.
use Rattle.std.proofs.Common.{◌≡◌, ℕ, ◌+◌, ◌-◌, ◌^◌, ◌<◌, Bool, true, false, ◌&&◌, ltb, leb, List, [], ◌∷◌, length, set, refl, subst, arith, ltb-false, ltb-true, le-leb}
use borrow.Author.Tests.{lt-leb}
use Rattle.computed_tests.proofs.Tests.{and_both}
use Rattle.entries.specs.Entry.{status_of, file_size_of}
use Rattle.entries.proofs.WalkLaws.{add_added}
use Rattle.list_scan.specs.declared.Scan.{Scan}
use Rattle.list_scan.specs.Scan.{name_byte, entry_ended, step_of, scanned}
use Rattle.list_scan.specs.Room.{sum_fits, has_room, pushed}
use Rattle.list_scan.proofs.StepLaws.{settled_either}

pub fits_by : (n m : ℕ) → m < 2 ^ 64 → leb n (18446744073709551615 - m) ≡ sum_fits n m
unfolding sum_fits
fits_by n m h = by (ltb (n + m) (2 ^ 64)) refl
  where
    by : (t : Bool) → ltb (n + m) (2 ^ 64) ≡ t → leb n (18446744073709551615 - m) ≡ t
    by true e = le-leb n (18446744073709551615 - m) (omega (arith, ltb-true (n + m) (2 ^ 64) e))
    by false e = lt-leb n (18446744073709551615 - m) (omega (arith, ltb-false (n + m) (2 ^ 64) e))

-- the counts have room for n more
pub record Room (sc : Scan) (n : ℕ) : Type 0 where
  pub at_fits : sc.at + n < 2 ^ 64
  pub entries_fit : sc.totals.entries + n < 2 ^ 64
  pub saved_fit : sc.totals.saved + n < 2 ^ 64

pub room : (sc : Scan) (n : ℕ) → has_room sc n ≡ true → Room sc n
unfolding has_room sum_fits
room sc n e = let first = and_both (sum_fits sc.at n) (sum_fits sc.totals.entries n && sum_fits sc.totals.saved n) e in
    let rest = and_both (sum_fits sc.totals.entries n) (sum_fits sc.totals.saved n) first.1 in
    record { at_fits = ltb-true _ _ first.0; entries_fit = ltb-true _ _ rest.0; saved_fit = ltb-true _ _ rest.1 }

pub pushed_room : (sc : Scan) (l : List ℕ) → has_room sc (length l) ≡ true → pushed sc l ≡ scanned sc l
unfolding pushed
pushed_room sc l e = simp e

room_step : (sc : Scan) (b n : ℕ) → Room sc (n + 1) → Room (step_of sc b) n
unfolding step_of entry_ended
room_step sc b n r = let head : List ℕ = set sc.head sc.at b in
    let more = add_added sc.totals (status_of head) (file_size_of head) in
    settled_either (λ sd. Room sd n) head (sc.at + 1) b (name_byte sc.named sc.at sc.low b) sc.totals sc.hash
    (λ low.
    record {
      at_fits = omega (arith, r.at_fits);
      entries_fit = omega (arith, r.entries_fit, more.entries_is);
      saved_fit = omega (arith, r.saved_fit, more.saved_most);
    })
    (record { at_fits = omega (arith, r.at_fits); entries_fit = omega (arith, r.entries_fit); saved_fit = omega (arith, r.saved_fit) })

pub room_run : (sc : Scan) (l : List ℕ) (n : ℕ) → Room sc (length l + n) → Room (scanned sc l) n
unfolding scanned
room_run sc [] n r = subst (Room sc) (let e : 0 + n ≡ n = omega arith in e) r
room_run sc (b ∷ l) n r = let e : length (b ∷ l) + n ≡ length l + n + 1 = omega arith in
    room_run (step_of sc b) l n (room_step sc b (length l + n) (subst (Room sc) e r))
