-- The entries of a set of files.
--
--   files_back         each of them is that of its file
--   entries_of_lem         the list area is cut into them
--   keep_entries       the kept ones are those of the kept files
--   greatest_is        their greatest size is the data size
--   totals_for, walk_is     their totals
--   number_contents    the file of an entry is the one that its file number names
--   set-listed         how the files stand in their list
-- Assumes nothing.
use Rattle.std.specs.Prelude.{Ok}
use mathlib.Core.Path.{◌≡◌, refl, sym, ap, ap₂, ◌∙◌}
use mathlib.Core.Bool.{Bool, true}
use mathlib.Core.List.{List, [], ◌∷◌, map, foldr, flatten}
use Prim.Native.Nat.{ℕ, zero, suc, ◌+◌, ◌-◌, ◌^◌, ◌<◌, max}
use native.Mathlib.Omega.{arith}
use lib.ListN.{length, take, get_or, length-append, length-map}
use Rattle.cut_lists.specs.All.{All, all_none, all_more}
use Rattle.cut_lists.specs.Pieces.{before}
use Rattle.cut_lists.proofs.AllLaws.{all_take, all_map}
use Rattle.cut_lists.proofs.CutLaws.{cut-none}
use Rattle.entries.specs.Entry.{status_of, file_size_of, is_saved, is_counted, length_of}
use Rattle.entries.specs.Numbering.{keep, saved_of, file_number}
use Rattle.entries.specs.Walk.{entries_of, greatest_of, totals_of, walked_to, walk_of}
use Rattle.entries.specs.declared.Totals.{Totals}
use Rattle.entries.proofs.KeepLaws.{keep_at, keep_same, keep-map, all_keep}
use Rattle.entries.proofs.NumberingLaws.{number_saved}
use Rattle.par1.proofs.EntryWritten.{entry_back}
use Rattle.par1_set.specs.Claim.{FileBack, SetListed}
use Rattle.par1_set.proofs.DataSizes.{saved_size}
use Rattle.par1_set.specs.Files.{File, no_file, saved_files, file_count, contents_of, entry_for, entries_for, list_for, data_size_for, FileRight}

-- ---- each entry

pub files_back : {fs : List File} → All FileRight fs → length (list_for fs) < 2 ^ 64 → All FileBack fs
unfolding flatten
files_back all_none h = all_none
files_back (all_more {x} {xs = fs} r rs) h = let n = length-append (entry_for x) (list_for fs) in
    all_more (entry_back x.contents x.status x.name r.size_right r.status_right r.name_right (omega arith)) (files_back rs (omega arith))

-- ---- all entries

pub entries_of_lem : {fs : List File} → All FileBack fs → entries_of (list_for fs) ≡ record { pieces = entries_for fs; rest = [] }
unfolding flatten
entries_of_lem all_none = cut-none length_of
entries_of_lem (all_more {x} {xs = fs} b bs) = b.entries_are (list_for fs) ∙ ap (before (entry_for x)) (entries_of_lem bs)

-- by a test on the status
pub keep_entries : (t : ℕ → Bool) {fs : List File} → All FileBack fs
    → keep (λ e. t (status_of e)) (entries_for fs) ≡ entries_for (keep (λ x. t x.status) fs)
keep_entries t {fs} bs =
    keep-map (λ e. t (status_of e)) (λ x. entry_for x) fs ∙ ap entries_for (keep_same (all_map (λ x b. ap t b.status_is) bs))

sizes_are : {fs : List File} → All FileBack fs
    → foldr max 0 (map (λ e. file_size_of e) (entries_for fs)) ≡ foldr max 0 (map (λ x. length x.contents) fs)
sizes_are all_none = refl
sizes_are (all_more b bs) = ap₂ max b.size_is (sizes_are bs)

greatest_is : {fs : List File} → All FileBack fs → greatest_of (entries_for fs) ≡ data_size_for fs
greatest_is bs =
    ap (λ (es : List (List ℕ)). foldr max 0 (map (λ e. file_size_of e) es)) (keep_entries is_counted bs)
    ∙ sizes_are (all_keep (λ x. is_counted x.status) bs)

saved_count_lem : {fs : List File} → All FileBack fs → length (saved_of (entries_for fs)) ≡ file_count fs
saved_count_lem {fs} bs = ap length (keep_entries is_saved bs) ∙ length-map (saved_files fs) (λ x. entry_for x)

abbrev pub totals_for : List File → Totals
totals_for fs = record { entries = length fs; saved = file_count fs; greatest = data_size_for fs }

pub walk_is : {fs : List File} → All FileBack fs → walk_of (list_for fs) ≡ Ok (totals_for fs)
unfolding walk_of
walk_is {fs} bs = ap (λ c. walked_to (totals_of c.pieces) c.rest) (entries_of_lem bs) ∙ ap Ok totals
  where
    totals : totals_of (entries_for fs) ≡ totals_for fs
    totals = let n = length-map fs (λ x. entry_for x) in cc (n, saved_count_lem bs, greatest_is bs)

-- ---- file numbers

take_entries : (k : ℕ) (fs : List File) → take k (entries_for fs) ≡ entries_for (take k fs)
take_entries zero fs = refl
take_entries (suc k) [] = refl
take_entries (suc k) (x ∷ fs) = ap (λ (es : List (List ℕ)). entry_for x ∷ es) (take_entries k fs)

status_at : {fs : List File} → All FileBack fs → (k : ℕ) → k < length fs → status_of (get_or (entries_for fs) k []) ≡ (get_or fs k no_file).status
status_at all_none k h = absurd (omega arith)
status_at (all_more b bs) zero h = b.status_is
status_at (all_more b bs) (suc k) h = status_at bs k (omega arith)

module _ {fs : List File} (bs : All FileBack fs) (k : ℕ) (h : k < length fs) (t : is_saved (get_or fs k no_file).status ≡ true) where
  number_is : file_number (entries_for fs) k ≡ file_count (take k fs) + 1
  number_is =
      number_saved (entries_for fs) k (ap is_saved (status_at bs k h) ∙ t)
      ∙ ap (λ (n : ℕ). n + 1) (ap (λ (es : List (List ℕ)). length (saved_of es)) (take_entries k fs) ∙ saved_count_lem (all_take k bs))

  number_contents : contents_of fs (file_number (entries_for fs) k) ≡ (get_or fs k no_file).contents
  number_contents = let n : file_number (entries_for fs) k - 1 ≡ file_count (take k fs) = omega (arith, number_is) in
      ap (λ (j : ℕ). (get_or (saved_files fs) j no_file).contents) n
      ∙ ap (λ (x : File). x.contents) (keep_at (λ x. is_saved x.status) no_file fs k h t).element_is

-- ---- the claim

pub set-listed : SetListed
set-listed fs right short = let bs = files_back right (omega arith) in
    record {
      entries_are = entries_of_lem bs;
      files_are = bs;
      saved_are = keep_entries is_saved bs;
      numbered = number_contents bs;
      data_size_lem = sym (greatest_is bs);
      of_saved = saved_size fs;
    }
