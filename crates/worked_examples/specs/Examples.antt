-- The worked examples of document 01 ("Soundings"), one table under one statement.
--
--   contents_of files   the contents that a list of files gives
--   volume_of files v   the data of volume v of these files
--   listed k l         whether k is in the list l
--   state_of c n size missing volumes   n files of these sizes, with the files listed missing and the volumes listed present, of code c
--   two_files missing volumes           such a state of two files, of Par 1.0's code
--   Example            a row: what the document says
--   NoneEmpty n size   none of n files of these sizes is empty
--   Holds e            what a row claims of the definitions
--   examples           the table
--   row k              row k of the table, counted from 0
--   ExamplesHold       the statement: each row holds
-- Assumes nothing.
use Rattle.std.specs.Prelude.{◌≡◌, Bool, true, false, not, ◌||◌, List, [], ◌∷◌, ◌++◌, ℕ, ◌≤◌, ◌-◌, eqb, length, get_or, replicate}
use Rattle.gf256.specs.Field.{product, power}
use Rattle.codes.specs.declared.Code.{Code}
use Rattle.codes.specs.declared.Code.TheVariants.{Powers}
use Rattle.parity.specs.Coefficient.{rule_of}
use Rattle.parity.specs.Parity.{Contents, is_file, greatest, parity}
use Rattle.recovery.specs.Recoverable.{State, Recoverable, IsWeights}

-- files 1, 2, .. as a list has them
unfoldable pub contents_of : List (List ℕ) → Contents
contents_of files f = get_or files (f - 1) []

-- the data of volume v of these files, as long as the longest of them
unfoldable pub volume_of : List (List ℕ) → ℕ → List ℕ
volume_of files v =
    parity (rule_of Powers) (length files) (contents_of files) v (greatest (length files) (λ f. length (contents_of files f)))

abbrev pub listed : ℕ → List ℕ → Bool
listed k [] = false
listed k (j ∷ l) = eqb k j || listed k l

abbrev pub state_of : Code → ℕ → (ℕ → ℕ) → List ℕ → List ℕ → State
state_of c n size missing volumes = record {
  n = n;
  size = size;
  files = λ f. not (listed f missing);
  volumes = λ v. listed v volumes;
  quarantined = λ v. false;
  code = c;
}

-- n = 2, sizes 2 and 1
abbrev pub two_files : List ℕ → List ℕ → State
two_files = state_of Powers 2 (λ f. get_or (2 ∷ 1 ∷ []) (f - 1) 0)

pub data Example : Type 0 where
  -- the numbers that the definitions give are those stated
  numbers : (computed stated : List ℕ) → Example
  -- of two files, with these missing and these volumes present, the weights of file f start so, and the rest is 0
  weights : (missing volumes : List ℕ) (f : ℕ) (start : List ℕ) → Example
  -- of n files, none empty, with these missing and these volumes present, file f is recoverable, or is not
  recoverable : (n : ℕ) (missing volumes : List ℕ) (f : ℕ) → Example
  undetermined : (n : ℕ) (missing volumes : List ℕ) (f : ℕ) → Example

abbrev pub NoneEmpty : ℕ → (ℕ → ℕ) → Type 0
NoneEmpty n size = (f : ℕ) → is_file n f ≡ true → 1 ≤ size f

abbrev pub Holds : Example → Type 0
Holds (numbers computed stated) = computed ≡ stated
Holds (weights missing volumes f start) =
    let t : State = two_files missing volumes in IsWeights (rule_of t.code) t f (start ++ replicate (255 - length start) 0)
Holds (recoverable n missing volumes f) =
    (size : ℕ → ℕ) → NoneEmpty n size → let t : State = state_of Powers n size missing volumes in Recoverable (rule_of t.code) t f
Holds (undetermined n missing volumes f) =
    (size : ℕ → ℕ) → NoneEmpty n size → let t : State = state_of Powers n size missing volumes in ¬ Recoverable (rule_of t.code) t f

abbrev pub examples : List Example
examples =
    -- P1: 2 times 128 is 29
    numbers (product 2 128 ∷ []) (29 ∷ [])
    -- P2: 3 times 244 is 1
    ∷ numbers (product 3 244 ∷ []) (1 ∷ [])
    -- P3: 2 times 142 is 1
    ∷ numbers (product 2 142 ∷ []) (1 ∷ [])
    -- P4: 214 times 214 is 215
    ∷ numbers (product 214 214 ∷ []) (215 ∷ [])
    -- P5: 7 cubed and 24 cubed are both 107; 5 cubed is 85
    ∷ numbers (power 7 3 ∷ power 24 3 ∷ power 5 3 ∷ []) (107 ∷ 107 ∷ 85 ∷ [])
    -- P6: files (1, 2) and (3): volume 1 is (2, 2), volume 2 is (7, 2), volume 3 is (13, 2)
    ∷ numbers (volume_of ((1 ∷ 2 ∷ []) ∷ (3 ∷ []) ∷ []) 1) (2 ∷ 2 ∷ [])
    ∷ numbers (volume_of ((1 ∷ 2 ∷ []) ∷ (3 ∷ []) ∷ []) 2) (7 ∷ 2 ∷ [])
    ∷ numbers (volume_of ((1 ∷ 2 ∷ []) ∷ (3 ∷ []) ∷ []) 3) (13 ∷ 2 ∷ [])
    -- P7: n = 2, sizes 2 and 1, volumes 1 and 2 present: weights of file 2 and of file 1
    ∷ weights (1 ∷ 2 ∷ []) (1 ∷ 2 ∷ []) 2 (0 ∷ 0 ∷ 244 ∷ 244 ∷ [])
    ∷ weights (1 ∷ 2 ∷ []) (1 ∷ 2 ∷ []) 1 (0 ∷ 0 ∷ 245 ∷ 244 ∷ [])
    -- P8: the same with file 1 present and volume 2 only
    ∷ weights (2 ∷ []) (2 ∷ []) 2 (142 ∷ 0 ∷ 0 ∷ 142 ∷ [])
    -- P9: with volumes 1 and 2
    ∷ weights (2 ∷ []) (1 ∷ 2 ∷ []) 2 (1 ∷ 0 ∷ 1 ∷ 0 ∷ [])
    -- P10: n = 24, none empty, all present but 7 and 24, volumes 1 and 4: neither is fixed
    ∷ undetermined 24 (7 ∷ 24 ∷ []) (1 ∷ 4 ∷ []) 7
    ∷ undetermined 24 (7 ∷ 24 ∷ []) (1 ∷ 4 ∷ []) 24
    -- P11: 5 also missing: 5 is recoverable, 7 and 24 are not
    ∷ recoverable 24 (5 ∷ 7 ∷ 24 ∷ []) (1 ∷ 4 ∷ []) 5
    ∷ undetermined 24 (5 ∷ 7 ∷ 24 ∷ []) (1 ∷ 4 ∷ []) 7
    ∷ undetermined 24 (5 ∷ 7 ∷ 24 ∷ []) (1 ∷ 4 ∷ []) 24
    -- P12: volume 2 too: all three are
    ∷ recoverable 24 (5 ∷ 7 ∷ 24 ∷ []) (1 ∷ 2 ∷ 4 ∷ []) 5
    ∷ recoverable 24 (5 ∷ 7 ∷ 24 ∷ []) (1 ∷ 2 ∷ 4 ∷ []) 7
    ∷ recoverable 24 (5 ∷ 7 ∷ 24 ∷ []) (1 ∷ 2 ∷ 4 ∷ []) 24
    ∷ []

-- past the end of the table a row claims nothing
abbrev pub row : ℕ → Example
row k = get_or examples k (numbers [] [])

-- proved: proofs/Examples.antt, `examples_hold`
abbrev pub ExamplesHold : Type 0
ExamplesHold = (k : ℕ) → Holds (row k)
