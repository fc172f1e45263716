-- The counts that a scan may have, each with a list that gives them.
--
--   length_list                the list has so many bytes
--   ListCounts, list_counts    the scan over it has these counts
--   bytes_zeros                zeros are bytes
--   bytes_list                 those of the list are
-- Assumes nothing.
use Rattle.std.proofs.Common.{◌≡◌, ℕ, zero, suc, ◌+◌, ◌-◌, ◌*◌, ◌<◌, ◌≤◌, List, [], ◌∷◌, ◌++◌, length, get_or, replicate, sym, refl, ap, ◌∙◌, subst, append-nil, suc-mul, zero-mul, arith, length-append}
use lib.ListN.{length-replicate}
use Rattle.little_endian.specs.Bytes.{Bytes, from_le, le_at}
use Rattle.little_endian.proofs.Numbers.{bytes_append}
use Rattle.little_endian.proofs.Reading.{le_at_suc}
use Rattle.lent_bytes.specs.Equal.{equal}
use Rattle.md5_digest.specs.declared.Md5.{Md5}
use Rattle.entries.specs.Entry.{saved_count, units_of, length_of}
use Rattle.entries.specs.Entry.{unit_allowed, is_dots, name_allowed, entry_size_allowed, body_allowed, entry_allowed}
use Rattle.entries.specs.Walk.{first_of, add_entry}
use Rattle.entries.specs.declared.Totals.{Totals}
use Rattle.entries.proofs.EntryLaws.{IsEntry, is_entry}
use Rattle.list_scan.specs.declared.Scan.{Scan}
use Rattle.list_scan.specs.Scan.{scanned, scan_start}
use Rattle.list_scan.proofs.Amid.{Amid}
use Rattle.list_scan.proofs.Witness.{plain_entry, many, list_with}
use Rattle.list_scan.proofs.WalkLaws.{runs, entry_scan, start_amid, scanned-append}

-- ---- entries

entry_saved : IsEntry (plain_entry 1) 58 1 0
unfolding first_of entry_allowed entry_size_allowed body_allowed name_allowed is_dots equal units_of unit_allowed le_at from_le plain_entry
entry_saved = is_entry refl

entry_unsaved : IsEntry (plain_entry 0) 58 0 0
unfolding first_of entry_allowed entry_size_allowed body_allowed name_allowed is_dots equal units_of unit_allowed le_at from_le plain_entry
entry_unsaved = is_entry refl

-- a scan between two entries, after n of them, s of them saved
record Grown (sc : Scan) (n s : ℕ) : Type 0 where
  again : Amid sc.totals sc.hash [] sc
  entries_is : sc.totals.entries ≡ n
  saved_is : sc.totals.saved ≡ s

grown_as : {sc sd : Scan} {n m s r : ℕ} → sd ≡ sc → n ≡ m → s ≡ r → Grown sc n s → Grown sd m r
grown_as {sc} {sd} {n} {m} {s} {r} e f h g =
    subst (λ (k : Scan). Grown k m r) (sym e) (record { again = g.again; entries_is = g.entries_is ∙ f; saved_is = g.saved_is ∙ h })

module _ {status : ℕ} (entry : IsEntry (plain_entry status) 58 status 0) where
  one_more : {sc : Scan} {n s : ℕ} → Grown sc n s → Grown (scanned sc (plain_entry status)) (n + 1) (s + saved_count status)
  unfolding add_entry plain_entry
  one_more g = let m = entry_scan 58 entry g.again in
      record {
        again = record {
          at_is = m.at_is;
          low_is = m.low_is;
          named_is = m.named_is;
          totals_is = refl;
          hash_is = refl;
          head_size = m.head_size;
          head_is = m.head_is;
        };
        entries_is = ap (λ (t : Totals). t.entries) m.totals_is ∙ ap (λ (k : ℕ). k + 1) g.entries_is;
        saved_is = ap (λ (t : Totals). t.saved) m.totals_is ∙ ap (λ (k : ℕ). k + saved_count status) g.saved_is;
      }

  all_more : (k : ℕ) {sc : Scan} {n s : ℕ} → Grown sc n s → Grown (scanned sc (many k status)) (n + k) (s + k * saved_count status)
  unfolding many scanned
  all_more zero {sc} {n} {s} g = grown_as refl (omega arith) (omega (arith, zero-mul (saved_count status))) g
  all_more (suc k) {sc} {n} {s} g =
      grown_as (scanned-append sc (plain_entry status) (many k status)) (omega arith) (omega (arith, suc-mul k (saved_count status)))
      (all_more k (one_more g))

-- ---- bytes that end no entry

zeros_at : (n p : ℕ) → ◌≡◌ {A = ℕ} (get_or (replicate n 0) p 0) 0
zeros_at zero p = refl
zeros_at (suc n) zero = refl
zeros_at (suc n) (suc p) = zeros_at n p

zeros_number : (k n i : ℕ) → le_at k (replicate n 0) i ≡ 0
unfolding le_at from_le
zeros_number zero n i = refl
zeros_number (suc k) n i = le_at_suc k (replicate n 0) i ∙ omega (arith, zeros_at n i, zeros_number k n (suc i))

none-zeros : (n : ℕ) → length_of (replicate n 0) ≡ 0
unfolding length_of entry_allowed entry_size_allowed
none-zeros n = simp (zeros_number 8 n 0)

amid_zeros : (a : ℕ) {t : Totals} {h : Md5} {sc : Scan} → Amid t h [] sc → Amid t h (replicate a 0) (scanned sc (replicate a 0))
amid_zeros a m =
    runs (replicate a 0) [] (replicate a 0) [] (sym (append-nil (replicate a 0))) (λ j pos up is. omega (arith, none-zeros a)) m

-- ---- all of it

length_many : (k status : ℕ) → length (many k status) ≡ 58 * k
unfolding many plain_entry
length_many zero status = refl
length_many (suc k) status = length-append (plain_entry status) (many k status) ∙ omega (arith, length_many k status)

pub length_list : (a n s : ℕ) → s ≤ n → length (list_with a n s) ≡ 58 * n + a
unfolding list_with
length_list a n s h =
    length-append (many s 1 ++ many (n - s) 0) (replicate a 0)
    ∙ omega (arith, length-append (many s 1) (many (n - s) 0), length_many s 1, length_many (n - s) 0, length-replicate {A = ℕ} a 0)

pub record ListCounts (sc : Scan) (a n s : ℕ) : Type 0 where
  pub at_is : sc.at ≡ a
  pub entries_is : sc.totals.entries ≡ n
  pub saved_is : sc.totals.saved ≡ s

start_grown : Grown scan_start 0 0
unfolding scan_start
start_grown = record { again = start_amid; entries_is = refl; saved_is = refl }

pub list_counts : (a n s : ℕ) → s ≤ n → ListCounts (scanned scan_start (list_with a n s)) a n s
unfolding list_with
list_counts a n s h = let sc : Scan = scanned scan_start (many s 1 ++ many (n - s) 0) in
    let g : Grown sc n s =
    grown_as (scanned-append scan_start (many s 1) (many (n - s) 0)) (omega arith) (omega arith)
    (all_more entry_unsaved (n - s) (all_more entry_saved s start_grown)) in
    let m = amid_zeros a g.again in
    let e = scanned-append scan_start (many s 1 ++ many (n - s) 0) (replicate a 0) in
    record {
      at_is = ap (λ (k : Scan). k.at) e ∙ m.at_is ∙ length-replicate {A = ℕ} a 0;
      entries_is = ap (λ (k : Scan). k.totals.entries) e ∙ ap (λ (t : Totals). t.entries) m.totals_is ∙ g.entries_is;
      saved_is = ap (λ (k : Scan). k.totals.saved) e ∙ ap (λ (t : Totals). t.saved) m.totals_is ∙ g.saved_is;
    }

-- ---- they are bytes

bytes_cons : (a : ℕ) (s : List ℕ) → a < 256 → Bytes s → Bytes (a ∷ s)
bytes_cons a s h b zero = h
bytes_cons a s h b (suc i) = b i

pub bytes_zeros : (n : ℕ) → Bytes (replicate n 0)
bytes_zeros n i = omega (arith, zeros_at n i)

bytes_entry : (status : ℕ) → status < 256 → Bytes (plain_entry status)
unfolding plain_entry
bytes_entry status h =
    bytes_append (58 ∷ replicate 7 0) (status ∷ replicate 47 0 ++ (65 ∷ 0 ∷ [])) (bytes_cons 58 (replicate 7 0) (omega arith) (bytes_zeros 7))
    (bytes_cons status (replicate 47 0 ++ (65 ∷ 0 ∷ [])) h
    (bytes_append (replicate 47 0) (65 ∷ 0 ∷ []) (bytes_zeros 47) (bytes_cons 65 (0 ∷ []) (omega arith) (bytes_zeros 1))))

bytes_many : (k status : ℕ) → status < 256 → Bytes (many k status)
unfolding many
bytes_many zero status h = bytes_zeros 0
bytes_many (suc k) status h = bytes_append (plain_entry status) (many k status) (bytes_entry status h) (bytes_many k status h)

pub bytes_list : (a n s : ℕ) → Bytes (list_with a n s)
unfolding list_with
bytes_list a n s =
    bytes_append (many s 1 ++ many (n - s) 0) (replicate a 0)
    (bytes_append (many s 1) (many (n - s) 0) (bytes_many s 1 (omega arith)) (bytes_many (n - s) 0 (omega arith))) (bytes_zeros a)
