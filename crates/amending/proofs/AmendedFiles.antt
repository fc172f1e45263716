-- A set of files of which one has changed.
--
--   Placed fs j k, placed     the saved file number j, from 0, stands at place k of the files fs
--   change_placed             where the changed file stands
--   amended-count, amended_new, amended_other     the number and the contents of the files after a change
--   spliced-length            the length of a file after a change
--   file_fits                 no file is longer than the data size
--   amended_size              the data size after a change
--   entries_set, statuses_are, amended_list_lem       the entries and the list area after a change
--   amended_list_length       the list area is as long as it was
-- Assumes nothing.
use mathlib.Core.Path.{◌≡◌, refl, sym, ap, ap₂, ◌∙◌}
use mathlib.Core.Bool.{Bool, true, false, cond}
use mathlib.Core.List.{List, [], ◌∷◌, ◌++◌, map, foldr, flatten}
use Prim.Native.Nat.{ℕ, zero, suc, ◌+◌, ◌-◌, ◌≤◌, ◌<◌, max}
use native.Mathlib.Omega.{arith}
use lib.ListN.{length, take, drop, get_or, set, length-append, length-drop, length-set}
use lib.Seq.{length-take-le, get_or-set_same, get_or-set_other}
use Rattle.cut_lists.specs.All.{All, all_none, all_more}
use Rattle.entries.specs.Entry.{is_saved, is_counted}
use Rattle.par1_write.proofs.EntryWritingLaws.{length-entry}
use Rattle.parity.proofs.Parities.{file_le_greatest}
use Rattle.par1_set.specs.Claim.{FileBack}
use Rattle.par1_set.specs.Files.{File, no_file, saved_files, file_count, contents_of, entry_for, entries_for, list_for, data_size_for}
use Rattle.par1_set.proofs.DataSizes.{saved_size}
use Rattle.par1_set.proofs.FileEntries.{entries_of_lem}
use Rattle.amending.specs.Amending.{Change, Stretch, inside, on_end, spliced, changed, saved_place, place_of, amended}
use Rattle.amending.specs.Amending.{statuses_of, amended_list}

-- ---- the place of a file

abbrev statuses : List File → List ℕ
statuses fs = map (λ x. x.status) fs

pub record Placed (fs : List File) (j k : ℕ) : Type 0 where
  pub within : k < length fs
  pub saved : is_saved (get_or fs k no_file).status ≡ true
  pub file_is : get_or fs k no_file ≡ get_or (saved_files fs) j no_file
  pub after : (y : File) → is_saved y.status ≡ true → saved_files (set fs k y) ≡ set (saved_files fs) j y

module _ (x : File) (fs : List File) where
  placed_here : is_saved x.status ≡ true → Placed (x ∷ fs) 0 0
  placed_here e = record { within = omega arith; saved = e; file_is = simp e; after = λ y h. simp (e, h) }

  placed_skip : {j k : ℕ} → is_saved x.status ≡ false → Placed fs j k → Placed (x ∷ fs) j (suc k)
  placed_skip e p = record { within = omega (arith, p.within); saved = p.saved; file_is = simp e p.file_is; after = λ y h. simp e (p.after y h) }

  placed_step : {j k : ℕ} → is_saved x.status ≡ true → Placed fs j k → Placed (x ∷ fs) (suc j) (suc k)
  placed_step e p = record {
    within = omega (arith, p.within);
    saved = p.saved;
    file_is = simp e p.file_is;
    after = λ y h. simp e (ap (λ (l : List File). x ∷ l) (p.after y h));
  }

pub placed : (fs : List File) (j : ℕ) → j < file_count fs → Placed fs j (saved_place (statuses fs) j)
placed [] j h = absurd (omega arith)
placed (x ∷ fs) zero h = by (is_saved x.status) refl h (λ l. placed fs zero l)
  where
    by : (b : Bool) → is_saved x.status ≡ b → zero < length (cond b (x ∷ saved_files fs) (saved_files fs))
        → (zero < file_count fs → Placed fs zero (saved_place (statuses fs) zero))
        → Placed (x ∷ fs) zero (cond b 0 (suc (saved_place (statuses fs) zero)))
    by true e h r = placed_here x fs e
    by false e h r = placed_skip x fs e (r h)
placed (x ∷ fs) (suc j) h = by (is_saved x.status) refl h (λ l. placed fs j l) (λ l. placed fs (suc j) l)
  where
    by : (b : Bool) → is_saved x.status ≡ b → suc j < length (cond b (x ∷ saved_files fs) (saved_files fs))
        → (j < file_count fs → Placed fs j (saved_place (statuses fs) j))
        → (suc j < file_count fs → Placed fs (suc j) (saved_place (statuses fs) (suc j)))
        → Placed (x ∷ fs) (suc j) (cond b (suc (saved_place (statuses fs) j)) (suc (saved_place (statuses fs) (suc j))))
    by true e h r q = placed_step x fs e (r (omega arith))
    by false e h r q = placed_skip x fs e (q h)

-- ---- the files after a change

module _ (c : Change) (fs : List File) (low : 1 ≤ c.file) (high : c.file ≤ file_count fs) where
  pub change_placed : Placed fs (c.file - 1) (place_of fs c.file)
  change_placed = placed fs (c.file - 1) (omega arith)

  -- the file that is changed is the one with that number
  pub own_contents : (get_or fs (place_of fs c.file) no_file).contents ≡ contents_of fs c.file
  own_contents = ap (λ (x : File). x.contents) change_placed.file_is

  amended_saved : saved_files (amended c fs) ≡ set (saved_files fs) (c.file - 1) (changed c (get_or (saved_files fs) (c.file - 1) no_file))
  amended_saved =
      change_placed.after (changed c (get_or fs (place_of fs c.file) no_file)) change_placed.saved
      ∙ ap (λ (x : File). set (saved_files fs) (c.file - 1) (changed c x)) change_placed.file_is

  pub amended-count : file_count (amended c fs) ≡ file_count fs
  amended-count = ap length amended_saved ∙ length-set (saved_files fs) (c.file - 1) _

  pub amended_new : contents_of (amended c fs) c.file ≡ spliced c (contents_of fs c.file)
  amended_new =
      ap (λ (l : List File). (get_or l (c.file - 1) no_file).contents) amended_saved
      ∙ ap (λ (x : File). x.contents) (get_or-set_same (saved_files fs) (c.file - 1) _ no_file (omega arith))

  pub amended_other : (g : ℕ) → 1 ≤ g → (g ≡ c.file → ⊥) → contents_of (amended c fs) g ≡ contents_of fs g
  amended_other g h q =
      ap (λ (l : List File). (get_or l (g - 1) no_file).contents) amended_saved
      ∙ ap (λ (x : File). x.contents) (get_or-set_other (saved_files fs) (c.file - 1) (g - 1) _ no_file (λ e. q (omega arith)))

-- ---- the data size

pub spliced-length : (c : Change) (m : List ℕ) → Stretch m c → length (spliced c m) ≡ length m + (length c.new - length c.old)
spliced-length c m kind = by kind
  where
    parts : c.place ≤ length m → length (spliced c m) ≡ c.place + (length c.new + (length m - (c.place + length c.old)))
    parts h = let rest : List ℕ = drop (c.place + length c.old) m in
        let front = length-take-le c.place m h in
        let left = length-drop (c.place + length c.old) m in
        omega (arith, length-append (take c.place m) (c.new ++ rest), length-append c.new rest)

    by : Stretch m c → length (spliced c m) ≡ length m + (length c.new - length c.old)
    by (inside e h) = omega (arith, parts (omega arith))
    by (on_end e h) = omega (arith, parts (omega arith), ap length e)

pub file_fits : (fs : List File) (g : ℕ) → 1 ≤ g → g ≤ file_count fs → length (contents_of fs g) ≤ data_size_for fs
file_fits fs g low high = omega (arith, saved_size fs, file_le_greatest (file_count fs) (λ f. length (contents_of fs f)) g low high)

-- the greatest size, where one file is no shorter than it was
sizes_set : (xs : List File) (k : ℕ) (y : File) → k < length xs → length (get_or xs k no_file).contents ≤ length y.contents
    → foldr max 0 (map (λ x. length x.contents) (set xs k y)) ≡ max (foldr max 0 (map (λ x. length x.contents) xs)) (length y.contents)
sizes_set [] k y h l = absurd (omega arith)
sizes_set (x ∷ xs) zero y h l = omega arith
sizes_set (x ∷ xs) (suc k) y h l = let e = sizes_set xs k y (omega arith) l in omega arith

pub amended_size : (c : Change) (fs : List File) → 1 ≤ c.file → c.file ≤ file_count fs → Stretch (contents_of fs c.file) c
    → data_size_for (amended c fs) ≡ max (data_size_for fs) (length (spliced c (contents_of fs c.file)))
unfolding is_counted
amended_size c fs low high kind =
    ap (λ (xs : List File). foldr max 0 (map (λ x. length x.contents) xs)) (amended_saved c fs low high)
    ∙ sizes_set (saved_files fs) (c.file - 1) (changed c (get_or (saved_files fs) (c.file - 1) no_file)) (omega arith)
    (omega (arith, spliced-length c _ kind))

-- ---- the list

pub entries_set : (fs : List File) (k : ℕ) (y : File) → entries_for (set fs k y) ≡ set (entries_for fs) k (entry_for y)
entries_set [] k y = refl
entries_set (x ∷ fs) zero y = refl
entries_set (x ∷ fs) (suc k) y = ap (λ (es : List (List ℕ)). entry_for x ∷ es) (entries_set fs k y)

pub entries_at : (fs : List File) (k : ℕ) → k < length fs → get_or (entries_for fs) k [] ≡ entry_for (get_or fs k no_file)
entries_at [] k h = absurd (omega arith)
entries_at (x ∷ fs) zero h = refl
entries_at (x ∷ fs) (suc k) h = entries_at fs k (omega arith)

pub statuses_are : {fs : List File} → All FileBack fs → statuses_of (entries_for fs) ≡ statuses fs
statuses_are all_none = refl
statuses_are (all_more b bs) = ap₂ ◌∷◌ b.status_is (statuses_are bs)

pub amended_list_lem : (c : Change) {fs : List File} → All FileBack fs
    → amended_list c.file (entry_for (changed c (get_or fs (place_of fs c.file) no_file))) (list_for fs) ≡ list_for (amended c fs)
amended_list_lem c {fs} bs = let e : List ℕ = entry_for (changed c (get_or fs (place_of fs c.file) no_file)) in
    ap (λ k. flatten (set k.pieces (saved_place (statuses_of k.pieces) (c.file - 1)) e)) (entries_of_lem bs)
    ∙ ap (λ (ss : List ℕ). flatten (set (entries_for fs) (saved_place ss (c.file - 1)) e)) (statuses_are bs)
    ∙ ap flatten (sym (entries_set fs (place_of fs c.file) _))

-- an entry's length is told by the name
list_length : (fs : List File) (k : ℕ) (y : File) → length y.name ≡ length (get_or fs k no_file).name
    → length (list_for (set fs k y)) ≡ length (list_for fs)
unfolding flatten
list_length [] k y e = refl
list_length (x ∷ fs) zero y e = let new = length-entry y.contents y.status y.name in
    let old = length-entry x.contents x.status x.name in
    omega (arith, length-append (entry_for y) (list_for fs), length-append (entry_for x) (list_for fs))
list_length (x ∷ fs) (suc k) y e =
    omega (arith, list_length fs k y e, length-append (entry_for x) (list_for (set fs k y)), length-append (entry_for x) (list_for fs))

pub amended_list_length : (c : Change) (fs : List File) → length (list_for (amended c fs)) ≡ length (list_for fs)
amended_list_length c fs = list_length fs (place_of fs c.file) _ refl
