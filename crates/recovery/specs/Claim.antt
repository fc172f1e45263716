-- What holds of missing files and their weights, and of the answers.
--
--   EmptyRecoverable      a missing empty file is recoverable, and its weights are zeros
--   AsRecoverable         what `query` and `recoverable_files` promise is what the notions say: which files are recoverable, and their weights
--   OneAnswer, OneSet     and it determines what they give
-- Sentences in quotation marks are document 01's.
-- Assumes nothing.
use Rattle.std.specs.Prelude.{◌≡◌, Bool, true, false, ◌↔◌, List, ℕ, suc, ◌<◌, ◌≤◌, replicate, take}
use Rattle.codes.specs.declared.Code.{Code}
use Rattle.parity.specs.Coefficient.{rule_of}
use Rattle.number_sets.specs.Sets.{member}
use Rattle.parity.specs.Parity.{is_file}
use Rattle.recovery.specs.Recoverable.{State, Recoverable, RecoverableNow, IsWeights}
use Rattle.recovery.specs.Answers.{state_of, InRange, Matches, Answers, Gathered}
use Rattle.recovery.specs.declared.Answer.{Answer}
use Rattle.recovery.specs.declared.Answer.TheVariants as answer

-- "An empty file not in hand is always rebuildable", "its own recipe is all zeros"
-- proved: proofs/EmptyFiles.antt, `empty_file`
abbrev pub EmptyRecoverable : Type 0
EmptyRecoverable =
    (t : State) (f : ℕ) → is_file t.n f ≡ true → t.files f ≡ false → t.size f ≡ 0
    → Recoverable (rule_of t.code) t f × IsWeights (rule_of t.code) t f (replicate 255 0)

-- of sets in range, whatever is quarantined, and for all sizes that they can stand for
-- proved: proofs/GatheredLaws.antt, `as_recoverable`
abbrev pub AsRecoverable : Type 0
AsRecoverable =
    (c : Code) (n : ℕ) (files volumes nonempty : List ℕ) (aside : ℕ → Bool) (size : ℕ → ℕ)
    → n ≤ 254 → InRange n nonempty → Matches n nonempty size
    → let t = state_of n files volumes aside c size in
    ((i : ℕ) → i < n → (room room' : List ℕ)
    → (Answers (rule_of c) n files volumes nonempty i room answer.Recoverable room'
    → Recoverable (rule_of c) t (suc i) × IsWeights (rule_of c) t (suc i) (take 255 room'))
    × (Answers (rule_of c) n files volumes nonempty i room answer.Undetermined room' → ¬ Recoverable (rule_of c) t (suc i)))
    × ((r : List ℕ) → Gathered (rule_of c) n files volumes nonempty r → (f : ℕ) → (member r f ≡ true) ↔ RecoverableNow (rule_of c) t f)

-- of the file of any column, a byte, and of any sets
-- proved: proofs/Determined.antt, `one_answer`
abbrev pub OneAnswer : Type 0
OneAnswer =
    (c : Code) (n : ℕ) (files volumes nonempty : List ℕ) (i : ℕ) → i < 256
    → (room : List ℕ) (r r' : Answer) (a b : List ℕ)
    → Answers (rule_of c) n files volumes nonempty i room r a → Answers (rule_of c) n files volumes nonempty i room r' b → (r ≡ r') × (a ≡ b)

-- proved: proofs/Determined.antt, `one_set`
abbrev pub OneSet : Type 0
OneSet =
    (c : Code) (n : ℕ) (files volumes nonempty r r' : List ℕ)
    → Gathered (rule_of c) n files volumes nonempty r → Gathered (rule_of c) n files volumes nonempty r' → r ≡ r'
