-- Files with given counts.
--
--   file_with n l z     a file whose header says no more than that its list has n bytes, with the list l and the data z
--   Gives c m          the bytes m have the length of the counts c, and a list with those of its list
--   given              counts of a job that goes on are given so
-- Assumes nothing.
use mathlib.Core.Path.{◌≡◌, refl, sym, ap, ap₂, ◌∙◌}
use mathlib.Core.Logic.{◌⊎◌, inl, inr}
use mathlib.Core.List.{List, [], ◌++◌, append_assoc}
use Prim.Native.Nat.{ℕ, ◌+◌, ◌-◌, ◌*◌, ◌^◌, ◌≤◌, ◌<◌}
use native.Mathlib.Nat.{mod-eq_of_lt}
use native.Mathlib.Omega.{arith}
use lib.ListN.{length, take, drop, replicate, length-append, length-replicate, drop_of_length-le}
use lib.Seq.{take-nil, take_at, drop_at}
use Rattle.little_endian.specs.Bytes.{Bytes, from_le, to_le, le_at}
use Rattle.little_endian.proofs.Numbers.{length-to_le, from_to, bytes_append, bytes_to_le}
use Rattle.par1_rules.specs.Layout.{list_size_of, list_of}
use Rattle.list_scan.specs.declared.Scan.{Scan}
use Rattle.list_scan.specs.Scan.{scanned, scan_start}
use Rattle.list_scan.proofs.Witness.{many, list_with}
use Rattle.list_scan.proofs.WitnessLaws.{ListCounts, length_list, list_counts, bytes_zeros, bytes_list}
use Rattle.running_read.specs.declared.Counts.{Counts}
use Rattle.running_read.proofs.AfterLaws.{cap_small}
use Rattle.running_read.proofs.OpenLaws.{Open}
use Rattle.running_read.proofs.PartLaws.{order}

abbrev header_with : ℕ → List ℕ
header_with n = replicate 72 0 ++ (to_le 8 n ++ replicate 16 0)

unfoldable file_with : ℕ → List ℕ → List ℕ → List ℕ
file_with n l z = header_with n ++ (l ++ z)

length_header : (n : ℕ) → length (header_with n) ≡ 96
length_header n =
    length-append (replicate 72 0) (to_le 8 n ++ replicate 16 0)
    ∙ omega (arith, length-append (to_le 8 n) (replicate 16 0), length-to_le 8 n, length-replicate {A = ℕ} 72 0, length-replicate {A = ℕ} 16 0)

module _ (n : ℕ) (l z : List ℕ) (fits : n < 256 ^ 8) (is : length l ≡ n) where
  file_size : list_size_of (file_with n l z) ≡ n
  unfolding file_with le_at
  file_size =
      ap (λ (r : List ℕ). from_le (take 8 (drop 72 r))) (append_assoc (replicate 72 0) (to_le 8 n ++ replicate 16 0) (l ++ z))
      ∙ ap (λ (r : List ℕ). from_le (take 8 r)) (drop_at (replicate 72 0) ((to_le 8 n ++ replicate 16 0) ++ (l ++ z)) 72 (length-replicate {A = ℕ} 72 0))
      ∙ ap (λ (r : List ℕ). from_le (take 8 r)) (append_assoc (to_le 8 n) (replicate 16 0) (l ++ z))
      ∙ ap from_le (take_at (to_le 8 n) (replicate 16 0 ++ (l ++ z)) 8 (length-to_le 8 n)) ∙ from_to 8 n ∙ mod-eq_of_lt fits

  file_list : list_of (file_with n l z) ≡ l
  unfolding file_with
  file_list = ap₂ (λ (k : ℕ) (r : List ℕ). take k r) file_size (drop_at (header_with n) (l ++ z) 96 (length_header n)) ∙ take_at l z n is

  file_length : length (file_with n l z) ≡ 96 + n + length z
  unfolding file_with
  file_length = length-append (header_with n) (l ++ z) ∙ omega (arith, length_header n, length-append l z)

file_bytes : (n : ℕ) (l z : List ℕ) → Bytes l → Bytes z → Bytes (file_with n l z)
unfolding file_with
file_bytes n l z a b =
    bytes_append (header_with n) (l ++ z)
    (bytes_append (replicate 72 0) (to_le 8 n ++ replicate 16 0) (bytes_zeros 72)
    (bytes_append (to_le 8 n) (replicate 16 0) (bytes_to_le 8 n) (bytes_zeros 16)))
    (bytes_append l z a b)

-- ---- the counts

pub record Gives (c : Counts) (m : List ℕ) : Type 0 where
  pub length_is : length m ≡ c.total
  pub are_bytes : Bytes m
  pub list_is : ListCounts (scanned scan_start (list_of m)) c.at c.entries c.saved

listed : (m : List ℕ) {a n s : ℕ} → list_of m ≡ list_with a n s → s ≤ n → ListCounts (scanned scan_start (list_of m)) a n s
listed m {a} {n} {s} e h = let c = list_counts a n s h in
    let scan = ap (scanned scan_start) e in
    record {
      at_is = ap (λ (k : Scan). k.at) scan ∙ c.at_is;
      entries_is = ap (λ (k : Scan). k.totals.entries) scan ∙ c.entries_is;
      saved_is = ap (λ (k : Scan). k.totals.saved) scan ∙ c.saved_is;
    }

empty_list : {a n s : ℕ} → a ≡ 0 → n ≡ 0 → s ≡ 0 → list_with a n s ≡ []
unfolding list_with many
empty_list a n s = rw (a, n, s) refl

no_list : (m : List ℕ) → length m < 96 → list_of m ≡ []
no_list m h = ap (take (list_size_of m)) (drop_of_length-le m {i = 96} (omega arith)) ∙ take-nil (list_size_of m)

module _ (c : Counts) (o : Open c) where
  -- zeros, where no list has begun
  short_file : c.total < 96 → Gives c (replicate c.total 0)
  short_file h = let size : length (replicate {A = ℕ} c.total 0) ≡ c.total = length-replicate {A = ℕ} c.total 0 in
      let empty : list_with c.at c.entries c.saved ≡ [] =
      empty_list (omega (arith, o.within)) (omega (arith, o.within)) (omega (arith, o.within, o.some)) in
      record {
        length_is = size;
        are_bytes = bytes_zeros c.total;
        list_is = listed (replicate c.total 0) (no_list (replicate c.total 0) (omega arith) ∙ sym empty) o.some;
      }

  abbrev list_size : ℕ
  list_size = 58 * c.entries + c.at

  abbrev file_of : List ℕ
  file_of = file_with list_size (list_with c.at c.entries c.saved) (replicate (c.total - 96 - list_size) 0)

  long_file : 96 ≤ c.total → Gives c file_of
  long_file h = let l : List ℕ = list_with c.at c.entries c.saved in
      let z : List ℕ = replicate (c.total - 96 - list_size) 0 in
      let fits : list_size < 256 ^ 8 = omega (arith, o.within, o.short, cap_small) in
      let is : length l ≡ list_size = length_list c.at c.entries c.saved o.some in
      record {
        length_is = file_length list_size l z fits is ∙ omega (arith, o.within, length-replicate {A = ℕ} (c.total - 96 - list_size) 0);
        are_bytes = file_bytes list_size l z (bytes_list c.at c.entries c.saved) (bytes_zeros (c.total - 96 - list_size));
        list_is = listed file_of (file_list list_size l z fits is) o.some;
      }

  pub given : (m : List ℕ) × Gives c m
  given = by (order c.total 96)
    where
      by : (c.total < 96) ⊎ (96 ≤ c.total) → (m : List ℕ) × Gives c m
      by (inl h) = (replicate c.total 0, short_file h)
      by (inr h) = (file_of, long_file h)
