-- A code where any volumes will do (document 02, 2026-13): with Cauchy coefficients the numbers of volumes and of files decide what
-- comes back, over the very notion of it that the queries go by.
--
--   volumes_present t       how many volumes are present
--   nonempty_missing t      how many files of size 1 or more are missing
--   state_after n sizes cs  the model's state after the calls cs on n files of these sizes, opened for this code
--   Reached n sizes cs s   the calls cs on an inventory so opened, refused ones too, lead to the inventory s
--   by_two_volumes missing size     24 files with those listed missing, and volumes 1 and 4
-- The claims:
--   AnyWillDo              with as many volumes as such files every missing file is recoverable, with fewer none of those is
--   AnyWillDoCalled        so a query answers after any list of calls: the one is accepted, the other refused with 12
--   BothReached            calls lead to both
--   LeftInverses           each part of the matrix of the coefficients with no more columns than rows has a left inverse
--   BesideP10              files 7 and 24 of 24 by volumes 1 and 4, which document 01's coefficients do not give back; with 5 missing too, none
-- States with as many volumes, and with fewer, are there (BesideP10), calls lead to such states (BothReached), and a query has its reply (crate
-- `inventory`: Answered), so no claim is empty.
-- Sentences in quotation marks are document 02's, or document 001's where it says so.
-- Assumes nothing.
use Rattle.std.specs.Prelude.{◌≡◌, Bool, true, false, cond, ◌&&◌, List, [], ◌∷◌, ℕ, suc, ◌<◌, ◌≤◌, ◌-◌, eqb, length}
use Rattle.gf256.specs.Polynomial.{sum_below}
use Rattle.gf256.specs.Field.{product}
use Rattle.codes.specs.declared.Code.TheVariants.{Cauchy}
use Rattle.parity.specs.Coefficient.{rule_of}
use Rattle.parity.specs.Parity.{is_file}
use Rattle.number_sets.specs.Sets.{size_below}
use Rattle.recovery.specs.Recoverable.{State, is_volume, column, Recoverable}
use Rattle.inventory.specs.Model.{Call, change, query, add_volume, queried}
use Rattle.inventory.specs.Claim as calls
use Rattle.inventory.specs.Claim.{Step, size_in}
use Rattle.inventory.specs.declared.Inventory.{Inventory}
use Rattle.worked_examples.specs.Examples.{state_of, NoneEmpty}

-- "volumes .. in hand"
abbrev pub volumes_present : State → ℕ
volumes_present t = size_below 256 (λ v. is_volume t.n v && t.volumes v)

-- "files of size 1 or more .. lost"
abbrev pub nonempty_missing : State → ℕ
nonempty_missing t = size_below 256 (λ g. is_file t.n g && column t g)

-- "For this code also"; proved: proofs/AnyWillDo.antt, `any_will_do`
pub record AnyWillDo : Type 0 where
  -- "if at least as many volumes are in hand as files of size 1 or more are lost, all lost files are rebuildable"
  pub enough : (t : State) → t.code ≡ Cauchy → t.n ≤ 254 → nonempty_missing t ≤ volumes_present t
      → (f : ℕ) → is_file t.n f ≡ true → t.files f ≡ false → Recoverable (rule_of t.code) t f
  -- "if fewer, none of those is"
  pub too_few : (t : State) → t.code ≡ Cauchy → t.n ≤ 254 → volumes_present t < nonempty_missing t
      → (f : ℕ) → is_file t.n f ≡ true → t.files f ≡ false → 1 ≤ t.size f → ¬ Recoverable (rule_of t.code) t f

-- ---- over the calls

-- "A sheet is opened for one code or the other", here for this one
abbrev pub state_after : ℕ → List ℕ → List Call → State
state_after n sizes cs = calls.state_after Cauchy n sizes cs

abbrev pub Reached : ℕ → List ℕ → List Call → Inventory → Type 0
Reached n sizes cs s = calls.Reached rule_of Cauchy n sizes cs s

-- a query of each missing file, after any list of calls; proved: proofs/Called.antt, `any_will_do_called`
pub record AnyWillDoCalled : Type 0 where
  -- "all lost files are rebuildable", with room for the weights
  pub enough : (n : ℕ) (sizes : List ℕ) (cs : List Call) (s : Inventory) → Reached n sizes cs s
      → nonempty_missing (state_after n sizes cs) ≤ volumes_present (state_after n sizes cs)
      → (f : ℕ) → is_file n f ≡ true → (state_after n sizes cs).files f ≡ false
      → (room : List ℕ) → 255 ≤ length room → (number : ℕ) (room' : List ℕ) (e : Inventory)
      → Step rule_of s (query f room) (queried number room') e → number ≡ 0
  -- "none of those is", with whatever room
  pub too_few : (n : ℕ) (sizes : List ℕ) (cs : List Call) (s : Inventory) → Reached n sizes cs s
      → volumes_present (state_after n sizes cs) < nonempty_missing (state_after n sizes cs)
      → (f : ℕ) → is_file n f ≡ true → (state_after n sizes cs).files f ≡ false → 1 ≤ size_in sizes f
      → (room : List ℕ) (number : ℕ) (room' : List ℕ) (e : Inventory)
      → Step rule_of s (query f room) (queried number room') e → (number ≡ 12) × (room' ≡ room)

-- of one file of one byte, with no volume, and with volume 1; proved: proofs/Examples.antt, `both_reached`
pub record BothReached : Type 0 where
  pub few : (s : Inventory) × Reached 1 (1 ∷ []) [] s
      × (volumes_present (state_after 1 (1 ∷ []) []) < nonempty_missing (state_after 1 (1 ∷ []) []))
  pub many : (s : Inventory) × Reached 1 (1 ∷ []) (change (add_volume Cauchy) 1 ∷ []) s
      × (nonempty_missing (state_after 1 (1 ∷ []) (change (add_volume Cauchy) 1 ∷ []))
      ≤ volumes_present (state_after 1 (1 ∷ []) (change (add_volume Cauchy) 1 ∷ [])))

-- ---- the coefficients

-- document 001: "any submatrix which doesn't have more columns than rows, has a left inverse": of the columns of some files and the
-- rows of some volumes; proved: proofs/LeftInverses.antt, `left_inverses`
abbrev pub LeftInverses : Type 0
LeftInverses =
    (n : ℕ) → n ≤ 254 → (files volumes : ℕ → Bool)
    → size_below 256 (λ f. is_file n f && files f) ≤ size_below 256 (λ v. is_volume n v && volumes v)
    → (inverse : ℕ → ℕ → ℕ) × ((f v : ℕ) → inverse f v < 256)
    × ((f g : ℕ) → is_file n f ≡ true → files f ≡ true → is_file n g ≡ true → files g ≡ true
    → sum_below (255 - n) (λ s. cond (volumes (suc s)) (product (inverse f (suc s)) (rule_of Cauchy g (suc s))) 0) ≡ cond (eqb f g) 1 0)

-- ---- an example

-- document 01, P10: "n = 24, .. volumes 1 and 4", with the files listed missing, of this code
abbrev pub by_two_volumes : List ℕ → (ℕ → ℕ) → State
by_two_volumes missing size = state_of Cauchy 24 size missing (1 ∷ 4 ∷ [])

-- document 01, P10: "none empty, all in hand but 7 and 24, volumes 1 and 4: neither is fixed": here both are. P11: "5 also lost": here none of
-- the three is fixed; proved: proofs/Examples.antt, `beside_p10`
pub record BesideP10 : Type 0 where
  pub both : (size : ℕ → ℕ) → NoneEmpty 24 size
      → Recoverable (rule_of Cauchy) (by_two_volumes (7 ∷ 24 ∷ []) size) 7 × Recoverable (rule_of Cauchy) (by_two_volumes (7 ∷ 24 ∷ []) size) 24
  pub none : (size : ℕ → ℕ) → NoneEmpty 24 size
      → (¬ Recoverable (rule_of Cauchy) (by_two_volumes (5 ∷ 7 ∷ 24 ∷ []) size) 5)
      × (¬ Recoverable (rule_of Cauchy) (by_two_volumes (5 ∷ 7 ∷ 24 ∷ []) size) 7)
      × (¬ Recoverable (rule_of Cauchy) (by_two_volumes (5 ∷ 7 ∷ 24 ∷ []) size) 24)
