-- What the list of a set tells of its files, by their numbers.
--
--   at_map           an element of a list of images
--   file_at          what holds of each file holds of file f
--   saved_entries_lem    the saved entries are those of the saved files
--   listed_sizes_lem, size_at, size_small     the listed sizes are those of their contents, and allowed
--   check_at         checking accepts file f by its entry
--   set-opened       the claim
-- Assumes nothing.
use mathlib.Core.Path.{◌≡◌, refl, ap, ap₂, ◌∙◌, subst}
use mathlib.Core.Bool.{Bool, true, cond, ◌&&◌}
use mathlib.Core.List.{List, [], ◌∷◌, map}
use Prim.Native.Nat.{ℕ, zero, suc, ◌-◌, ◌<◌, ◌≤◌}
use native.Mathlib.Omega.{arith}
use lib.Dec.{leb, eqb}
use lib.ListN.{length, get_or, length-map}
use borrow.Author.Tests.{leb-true, le-leb, eq-eqb}
use Rattle.computed_tests.specs.Numbers.{one_to, all_below}
use Rattle.computed_tests.proofs.Tests.{one_to_in, all_true}
use Rattle.cut_lists.specs.All.{All, all_none, all_more}
use Rattle.cut_lists.proofs.AllLaws.{all_at}
use Rattle.entries.specs.Entry.{file_size_of, is_saved}
use Rattle.entries.specs.Numbering.{saved_of}
use Rattle.entries.proofs.KeepLaws.{all_keep}
use Rattle.inventory.specs.Steps.{fresh, outcome, refused_opening, open_step}
use Rattle.inventory.specs.Claim.{size_in}
use Rattle.inventory.specs.Outcome.{Outcome}
use Rattle.par1.specs.Checking.{check_of}
use Rattle.par1_set.specs.Claim.{FileBack, FilesListed}
use Rattle.par1_set.specs.Files.{File, no_file, saved_files, file_count, contents_of, entry_for, entries_for}
use Rattle.par1_set.proofs.FileEntries.{set-listed}
use Rattle.parity.specs.Parity.{is_file}
use Rattle.parity.proofs.Files.{is_file_inside}
use Rattle.refusals.specs.Limits.{max_file_size, max_files}
use Rattle.refusals.specs.Tests.{bare}
use Rattle.set_recovery.specs.Claim.{SetRight, saved_entries, entry_of, listed_sizes, SetOpened}

at_map : {A B : Type 0} (g : A → B) (d : A) (z : B) (xs : List A) (k : ℕ) → k < length xs → get_or (map g xs) k z ≡ g (get_or xs k d)
at_map g d z [] k h = absurd (omega arith)
at_map g d z (x ∷ xs) zero h = refl
at_map g d z (x ∷ xs) (suc k) h = at_map g d z xs k (omega arith)

-- the place of file f among n
place_inside : (n f : ℕ) → is_file n f ≡ true → f - 1 < n
place_inside n f is_file_lem = let inside = is_file_inside n f is_file_lem in omega (arith, inside.0, inside.1)

sizes_are : {xs : List File} → All FileBack xs → map (λ e. file_size_of e) (entries_for xs) ≡ map (λ x. length x.contents) xs
sizes_are all_none = refl
sizes_are (all_more b bs) = ap₂ (λ (n : ℕ) (ns : List ℕ). n ∷ ns) b.size_is (sizes_are bs)

-- what holds of each file, by number
pub file_at : {P : File → Type 0} {fs : List File} → All P fs → (f : ℕ) → is_file (file_count fs) f ≡ true → P (get_or (saved_files fs) (f - 1) no_file)
file_at {P} {fs} all f is_file_lem = all_at no_file (all_keep (λ x. is_saved x.status) all) (f - 1) (place_inside (file_count fs) f is_file_lem)

module _ {fs : List File} (right : SetRight fs) where
  listed : FilesListed fs
  listed = set-listed fs right.files_right right.list_right

  saved_entries_lem : saved_entries fs ≡ entries_for (saved_files fs)
  saved_entries_lem = ap (λ c. saved_of c.pieces) listed.entries_are ∙ listed.saved_are

  pub listed_sizes_lem : listed_sizes fs ≡ map (λ x. length x.contents) (saved_files fs)
  listed_sizes_lem = ap (λ (es : List (List ℕ)). map (λ e. file_size_of e) es) saved_entries_lem ∙ sizes_are (all_keep (λ x. is_saved x.status) listed.files_are)

  pub size_at : (f : ℕ) → is_file (file_count fs) f ≡ true → size_in (listed_sizes fs) f ≡ length (contents_of fs f)
  size_at f is_file_lem =
      ap (λ (sizes : List ℕ). get_or sizes (f - 1) 0) listed_sizes_lem
      ∙ at_map (λ (x : File). length x.contents) no_file 0 (saved_files fs) (f - 1) (place_inside (file_count fs) f is_file_lem)

  pub size_small : (f : ℕ) → is_file (file_count fs) f ≡ true → size_in (listed_sizes fs) f ≤ max_file_size
  size_small f is_file_lem =
      let h : length (contents_of fs f) ≤ max_file_size = leb-true _ _ (file_at right.files_right f is_file_lem).size_right in
      omega (arith, size_at f is_file_lem)

  pub check_at : (f : ℕ) → is_file (file_count fs) f ≡ true → check_of (entry_of fs f) (contents_of fs f) ≡ bare 0
  check_at f is_file_lem =
      ap (λ (e : List ℕ). check_of e (contents_of fs f))
      (ap (λ (es : List (List ℕ)). get_or es (f - 1) []) saved_entries_lem
      ∙ at_map (λ (x : File). entry_for x) no_file [] (saved_files fs) (f - 1) (place_inside (file_count fs) f is_file_lem))
      ∙ (file_at listed.files_are f is_file_lem).check_is

  length_sizes : length (listed_sizes fs) ≡ file_count fs
  length_sizes = ap length listed_sizes_lem ∙ length-map (saved_files fs) (λ x. length x.contents)

-- ---- opening

both_pass : (a b : Bool) (x y z : Outcome) → a ≡ true → b ≡ true → cond a (cond b x y) z ≡ x
both_pass a b x y z p q = simp (p, q)

pub set-opened : SetOpened
unfolding open_step
set-opened code fs right low high =
    ap (λ (o : Outcome). o.number)
    (both_pass (one_to max_files n && eqb (length sizes) n) (all_below n (λ i. leb (get_or sizes i 0) max_file_size))
    (outcome (fresh code n sizes) 0) (refused_opening 1) (refused_opening 10)
    (ap₂ (λ (a b : Bool). a && b) (one_to_in max_files n low high) (eq-eqb (length sizes) n (length_sizes right)))
    (all_true n (λ i. leb (get_or sizes i 0) max_file_size) allowed))
  where
    n : ℕ
    n = file_count fs

    sizes : List ℕ
    sizes = listed_sizes fs

    allowed : (i : ℕ) → i < n → leb (get_or sizes i 0) max_file_size ≡ true
    allowed i l = let at : suc i - 1 ≡ i = omega arith in
        subst (λ (k : ℕ). leb (get_or sizes k 0) max_file_size ≡ true) at (le-leb _ _ (size_small right (suc i) (one_to_in n (suc i) (omega arith) l)))
