-- When a missing file comes back, and by which weights (document 01, "The sheet"), over any rule for the coefficients.
--
--   State                       what is known of a set of n files: their sizes, which files and which volumes are present, which
--                               volumes are quarantined (set aside), which are not present, and the code of the volumes
--   is_volume n v                whether v is the number of a volume of n files
--   IsContents t X              the bytes of X are as many as the sizes say
--   Alike rule t X Y            X and Y have the same bytes in the files present, and the same parity in the volumes present
--   Recoverable rule t f        any two contents that are alike have the same file f
--   RecoverableNow rule t f     file f is missing, and recoverable
--   column t g                  whether file g is missing and of size 1 or more
--   SumOfLower rule t v         the row of volume v is a sum of multiples of rows of lower volumes that are present
--   Used rule t v               volume v is present, and its row is no such sum
--   place w k                   the weight of place k, from 1: files 1 to n, then volumes
--   weighted rule t w g         the sum, over the volumes, of weight times the coefficient of file g
--   IsWeights rule t f w        w is the 255 weights of file f
--   present t k                 whether the fragment of place k is present
--   ComeFrom rule t X fragment  the fragments present are those of the contents X, with any number of zeros after
-- Sentences in quotation marks are document 01's, document 02's, or the tender's condition 3.
-- Assumes nothing.
use Rattle.std.specs.Prelude.{◌≡◌, Bool, true, false, not, cond, ◌&&◌, List, ℕ, suc, ◌<◌, ◌+◌, ◌-◌, leb, eqb, length, get_or}
use Rattle.computed_tests.specs.Numbers.{one_to}
use Rattle.gf256.specs.Polynomial.{sum_below}
use Rattle.gf256.specs.Field.{product}
use Rattle.parity.specs.Parity.{Contents, is_file, greatest, parity_byte}
use Rattle.codes.specs.declared.Code.{Code}

-- "It holds n, the sizes, and which files and volumes are in hand", "its tally keeps .. what is set aside" (2026-10), "Its tally and its new
-- sheet have the code of the opening" (2026-13)
pub record State : Type 0 where
  pub n : ℕ
  pub size : ℕ → ℕ
  pub files : ℕ → Bool
  pub volumes : ℕ → Bool
  pub quarantined : ℕ → Bool
  pub code : Code

-- "volume numbers 1 to 255 - n"
abbrev pub is_volume : ℕ → ℕ → Bool
is_volume n v = one_to (255 - n) v

-- "A set of contents gives each file 1 to n as many bytes as its listed size."
abbrev pub IsContents : State → Contents → Type 0
IsContents t X = (f : ℕ) → is_file t.n f ≡ true → (length (X f) ≡ t.size f) × ((p : ℕ) → get_or (X f) p 0 < 256)

-- "a column": "the lost files of size 1 or more"
abbrev pub column : State → ℕ → Bool
column t g = not (t.files g) && leb 1 (t.size g)

abbrev pub place : List ℕ → ℕ → ℕ
place w k = get_or w (k - 1) 0

-- "place f for file f, place n + v for volume v"
abbrev pub present : State → ℕ → Bool
present t k = leb 1 k && (leb k 255 && cond (leb k t.n) (t.files k) (t.volumes (k - t.n)))

module _ (rule : ℕ → ℕ → ℕ) where
  -- "alike in the files in hand and in the parity of the volumes in hand": "byte p of volume v .. for every p below the
  -- greatest listed size"
  pub record Alike (t : State) (X Y : Contents) : Type 0 where
    pub same_files : (f : ℕ) → is_file t.n f ≡ true → t.files f ≡ true → X f ≡ Y f
    pub same-parity : (v : ℕ) → is_volume t.n v ≡ true → t.volumes v ≡ true
        → (p : ℕ) → p < greatest t.n t.size → parity_byte rule t.n X v p ≡ parity_byte rule t.n Y v p

  -- "exactly when every two sets of contents with the listed sizes, alike in the files in hand and in the parity of the
  -- volumes in hand, are alike in that file"
  abbrev pub Recoverable : State → ℕ → Type 0
  Recoverable t f = (X Y : Contents) → IsContents t X → IsContents t Y → Alike t X Y → X f ≡ Y f

  -- "the file numbers that are rebuildable now" (2026-11); a file in hand is not asked to be rebuilt, and an empty one not in hand always is
  abbrev pub RecoverableNow : State → ℕ → Type 0
  RecoverableNow t f = (is_file t.n f ≡ true) × (t.files f ≡ false) × Recoverable t f

  unfoldable pub SumOfLower : State → ℕ → Type 0
  SumOfLower t v =
      (c : ℕ → ℕ) × ((u : ℕ) → c u < 256)
      × ((g : ℕ) → is_file t.n g ≡ true → column t g ≡ true
      → rule g v ≡ sum_below (v - 1) (λ s. cond (t.volumes (suc s)) (product (c (suc s)) (rule g (suc s))) 0))

  -- "A volume is used if its row is no sum of multiples of the rows of lower-numbered volumes in hand."
  abbrev pub Used : State → ℕ → Type 0
  Used t v = (is_volume t.n v ≡ true) × (t.volumes v ≡ true) × ¬ SumOfLower t v

  unfoldable pub weighted : State → List ℕ → ℕ → ℕ
  weighted t w g = sum_below (255 - t.n) (λ s. product (place w (t.n + suc s)) (rule g (suc s)))

  pub record IsWeights (t : State) (f : ℕ) (w : List ℕ) : Type 0 where
    -- "A recipe is 255 weights"
    pub places : length w ≡ 255
    pub bytes : (p : ℕ) → get_or w p 0 < 256
    -- "The weights of used volumes are the only ones that sum those rows to 1 in the asked file and 0 in other columns."
    pub columns : (g : ℕ) → is_file t.n g ≡ true → column t g ≡ true → weighted t w g ≡ cond (eqb f g) 1 0
    -- "Each file in hand has as weight the sum, over used volumes, of volume weight times factor."
    pub of_files : (g : ℕ) → is_file t.n g ≡ true → t.files g ≡ true → place w g ≡ weighted t w g
    -- "All other places are 0."
    pub of_unused : (v : ℕ) → is_volume t.n v ≡ true → ¬ Used t v → place w (t.n + v) ≡ 0
    pub of_missing : (g : ℕ) → is_file t.n g ≡ true → t.files g ≡ false → place w g ≡ 0

  -- "each file's piece is that file in the set and each volume's piece is the set's parity in it, with any number of zeros after"
  -- bytes past a fragment's end count as 0, so one whose last bytes are 0 may also end early
  pub record ComeFrom (t : State) (X : Contents) (fragment : ℕ → List ℕ) : Type 0 where
    pub of_file : (f : ℕ) → is_file t.n f ≡ true → t.files f ≡ true → (p : ℕ) → get_or (fragment f) p 0 ≡ get_or (X f) p 0
    pub of_volume : (v : ℕ) → is_volume t.n v ≡ true → t.volumes v ≡ true
        → (p : ℕ) → get_or (fragment (t.n + v)) p 0 ≡ parity_byte rule t.n X v p
