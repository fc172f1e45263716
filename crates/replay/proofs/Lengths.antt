-- How long the lines and the text of a replay are.
--
--   files_length        no more files than numbers
--   numbers_short       the line of at most 254 numbers up to 999
--   files_short, refused_short      that of the files of a set, and of a refusal
--   number_small, opening_small     the numbers of refusals
--   text_fits           the text of a log
-- Assumes nothing.
use mathlib.Core.Path.{◌≡◌, refl, sym, subst}
use mathlib.Core.Bool.{Bool, true, false, cond, ◌&&◌, ◌||◌}
use mathlib.Core.List.{List, [], ◌∷◌, ◌++◌, map, flatten}
use Prim.Native.Nat.{ℕ, zero, suc, ◌+◌, ◌*◌, ◌^◌, ◌<◌, ◌≤◌}
use native.Mathlib.Omega.{arith}
use native.Mathlib.Decide.{ℕ_discrete}
use lib.Dec.{leb, eqb}
use lib.ListN.{length, get_or, drop, length-append}
use borrow.Author.Tests.{leb-true, eq-eqb, ne_eqb}
use Rattle.cut_lists.specs.Pieces.{Cut, cut}
use Rattle.cut_lists.proofs.CutLaws.{cut-count}
use Rattle.parity.specs.Parity.{is_file}
use Rattle.codes.specs.Codes.{same}
use Rattle.codes.specs.declared.Code.TheVariants.{Powers}
use Rattle.recovery.specs.Recoverable.{State, is_volume}
use Rattle.inventory.specs.Model.{Change, add_file, remove_file, add_volume, remove_volume, quarantine, release, change, opened, number_of, next}
use Rattle.computed_tests.specs.Numbers.{one_to, all_below}
use Rattle.inventory.specs.Steps.{open_step, outcome, fresh, refused_opening}
use Rattle.inventory.specs.Claim.{size_in}
use Rattle.inventory.proofs.Calls.{next-same}
use Rattle.inventory.proofs.Openings.{opened_represents}
use Rattle.text.specs.Ascii.{ascii}
use Rattle.text.specs.Decimal.{decimal, field}
use Rattle.text.specs.TextLines.{line_length}
use Rattle.text.proofs.DecimalLaws.{decimal-length}
use Rattle.replay.specs.Log.{body_of, is_first_line, numbers_of, change_of, is_event_line, number_in}
use Rattle.replay.specs.Lines.{refused_line, files_of, numbers_line}
use Rattle.replay.specs.Replay.{event_line, event_lines, opened_lines, log_lines, replay_of}
use Rattle.replay.specs.Claim.{TextFits}
use Rattle.replay.proofs.Files.{files_most}

-- ---- a line

files_length : (test : ℕ → Bool) (n : ℕ) → length (files_of n test) ≤ n
unfolding files_of
files_length test zero = omega arith
files_length test (suc n) = go (test (suc n)) (files_length test n)
  where
    go : (b : Bool) → length (files_of n test) ≤ n → length (files_of n test ++ cond b (suc n ∷ []) []) ≤ suc n
    go true h = omega (arith, length-append (files_of n test) (suc n ∷ []))
    go false h = omega (arith, length-append (files_of n test) [])

-- numbers of at most three digits, and a space before each
rest_short : (ks : List ℕ) → ((i : ℕ) → i < length ks → get_or ks i 0 < 1000) → length (flatten (map (field (ascii " ")) ks)) ≤ 4 * length ks
unfolding flatten
rest_short [] h = omega arith
rest_short (k ∷ ks) h = let r = rest_short ks (λ i l. h (suc i) (omega arith)) in
    let d = decimal-length k 2 (h 0 (omega arith)) in
    omega (arith, length-append (decimal k) (flatten (map (field (ascii " ")) ks)))

numbers_short : (ks : List ℕ) → ((i : ℕ) → i < length ks → get_or ks i 0 < 1000) → length ks ≤ 254 → length (numbers_line ks) ≤ 1024
numbers_short [] h l = omega arith
numbers_short (k ∷ ks) h l = let r = rest_short ks (λ i l. h (suc i) (omega arith)) in
    let d = decimal-length k 2 (h 0 (omega arith)) in
    omega (
      arith,
      length-append (decimal k) (flatten (map (field (ascii " ")) ks)),
      length-append (decimal k ++ flatten (map (field (ascii " ")) ks)) (10 ∷ []),
    )

pub files_short : (test : ℕ → Bool) (n : ℕ) → n ≤ 254 → length (numbers_line (files_of n test)) ≤ 1024
files_short test n l = numbers_short (files_of n test) (λ i h. let m = files_most test n i h in omega arith) (let m = files_length test n in omega arith)

pub refused_short : (k : ℕ) → k < 1000 → length (refused_line k) ≤ 1024
unfolding refused_line
refused_short k l = let d = decimal-length k 2 l in
    omega (arith, length-append (field (ascii "refused ") k) (10 ∷ []), length-append (ascii "refused ") (decimal k))

-- ---- the refusals

of_cond : (a : Bool) (x y : ℕ) → x < 1000 → y < 1000 → cond a x y < 1000
of_cond true x y h k = h
of_cond false x y h k = k

ranged : (a : Bool) (x : ℕ) → x < 1000 → cond a x 10 < 1000
ranged a x h = of_cond a x 10 h (omega arith)

number_small : (t : State) (c : Change) (k : ℕ) → number_of t c k < 1000
unfolding number_of
number_small t add_file f = ranged (is_file t.n f) (cond (t.files f) 11 0) (of_cond (t.files f) 11 0 (omega arith) (omega arith))
number_small t remove_file f = ranged (is_file t.n f) (cond (t.files f) 0 11) (of_cond (t.files f) 0 11 (omega arith) (omega arith))
number_small t (add_volume c) v = let own : ℕ = cond (t.quarantined v) 27 (cond (t.volumes v) 11 0) in
    ranged (is_volume t.n v) (cond (same c t.code) own 29)
    (of_cond (same c t.code) own 29
    (of_cond (t.quarantined v) 27 (cond (t.volumes v) 11 0) (omega arith) (of_cond (t.volumes v) 11 0 (omega arith) (omega arith))) (omega arith))
number_small t remove_volume v = let here : Bool = t.volumes v || t.quarantined v in
    ranged (is_volume t.n v) (cond here 0 11) (of_cond here 0 11 (omega arith) (omega arith))
number_small t quarantine v = ranged (is_volume t.n v) (cond (t.volumes v) 0 11) (of_cond (t.volumes v) 0 11 (omega arith) (omega arith))
number_small t release v = ranged (is_volume t.n v) (cond (t.quarantined v) 0 11) (of_cond (t.quarantined v) 0 11 (omega arith) (omega arith))

pub opening_small : (n : ℕ) (sizes : List ℕ) → (open_step Powers n sizes).number < 1000
unfolding open_step
opening_small n sizes = go (one_to 254 n && eqb (length sizes) n) (all_below n (λ i. leb (get_or sizes i 0) 16777216))
  where
    go : (a b : Bool) → (cond a (cond b (outcome (fresh Powers n sizes) 0) (refused_opening 1)) (refused_opening 10)).number < 1000
    go true true = omega arith
    go true false = omega arith
    go false b = omega arith

-- ---- the text

module _ (d : State → ℕ → Bool) where
  line_short : (t : State) → t.n ≤ 254 → (c : Change) (k : ℕ) → length (event_line d t c k) ≤ 1024
  unfolding event_line
  line_short t l c k = go (eqb (number_of t c k) 0)
    where
      t' : State
      t' = next t (change c k)

      few : t'.n ≤ 254
      few = subst (λ (n : ℕ). n ≤ 254) (sym (next-same t (change c k)).same_n) l

      go : (b : Bool) → length (cond b (numbers_line (files_of t'.n (d t'))) (refused_line (number_of t c k))) ≤ 1024
      go true = files_short (d t') t'.n few
      go false = refused_short (number_of t c k) (number_small t c k)

  lines_short : (t : State) → t.n ≤ 254 → (ls : List (List ℕ)) (rest : List ℕ) → length (event_lines d t ls rest) ≤ 1024 * (length ls + 1)
  unfolding event_lines
  lines_short t l [] [] = omega arith
  lines_short t l [] (b ∷ rest) = let r = refused_short 28 (omega arith) in omega arith
  lines_short t l (x ∷ ls) rest =
      go (is_event_line (body_of x)) (line_short t l c k)
      (lines_short (next t (change c k)) (subst (λ (n : ℕ). n ≤ 254) (sym (next-same t (change c k)).same_n) l) ls rest)
    where
      c : Change
      c = change_of (get_or (body_of x) 0 0)

      k : ℕ
      k = number_in (body_of x)

      go : (b : Bool) → length (event_line d t c k) ≤ 1024 → length (event_lines d (next t (change c k)) ls rest) ≤ 1024 * (length ls + 1)
          → length (cond b (event_line d t c k ++ event_lines d (next t (change c k)) ls rest) (refused_line 28)) ≤ 1024 * (suc (length ls) + 1)
      go true h r = omega (arith, length-append (event_line d t c k) (event_lines d (next t (change c k)) ls rest))
      go false h r = let q = refused_short 28 (omega arith) in omega arith

  opened_short : (n : ℕ) (sizes : List ℕ) (ls : List (List ℕ)) (rest : List ℕ) → length (opened_lines d n sizes ls rest) ≤ 1024 * (length ls + 1)
  unfolding opened_lines
  opened_short n sizes ls rest =
      elim (ℕ_discrete (open_step Powers n sizes).number 0) [
        | yes e ↦
            subst (λ (b : Bool). length (cond b (event_lines d (opened Powers n (size_in sizes)) ls rest) (refused_line (open_step Powers n sizes).number)) ≤ 1024 * (length ls + 1))
            (sym (eq-eqb (open_step Powers n sizes).number 0 e)) (lines_short (opened Powers n (size_in sizes)) (opened_represents Powers n sizes e).0 ls rest)
        | no q ↦
            subst (λ (b : Bool). length (cond b (event_lines d (opened Powers n (size_in sizes)) ls rest) (refused_line (open_step Powers n sizes).number)) ≤ 1024 * (length ls + 1))
            (sym (ne_eqb (open_step Powers n sizes).number 0 q)) (let r = refused_short (open_step Powers n sizes).number (opening_small n sizes) in omega arith)
      ]

  log_short : (ls : List (List ℕ)) (rest : List ℕ) → length (log_lines d ls rest) ≤ 1024 * (length ls + 1)
  unfolding log_lines
  log_short [] rest = let r = refused_short 28 (omega arith) in omega arith
  log_short (l ∷ ls) rest = go (is_first_line (body_of l)) (opened_short (get_or (numbers_of (body_of l)) 0 0) (drop 1 (numbers_of (body_of l))) ls rest)
    where
      go : (b : Bool) → length (opened_lines d (get_or (numbers_of (body_of l)) 0 0) (drop 1 (numbers_of (body_of l))) ls rest) ≤ 1024 * (length ls + 1)
          → length (cond b (opened_lines d (get_or (numbers_of (body_of l)) 0 0) (drop 1 (numbers_of (body_of l))) ls rest) (refused_line 28)) ≤ 1024 * (suc (length ls) + 1)
      go true h = omega arith
      go false h = let r = refused_short 28 (omega arith) in omega arith

pub text_fits : TextFits
unfolding replay_of
text_fits d log = go (leb (length log) 65536) refl
  where
    lines : Cut
    lines = cut line_length log

    go : (b : Bool) → leb (length log) 65536 ≡ b → length (cond b (log_lines d lines.pieces lines.rest) (refused_line 1)) < 2 ^ 59
    go true e = let l = leb-true (length log) 65536 e in
        let c = cut-count line_length log in
        let s = log_short d lines.pieces lines.rest in omega arith
    go false e = let r = refused_short 1 (omega arith) in omega arith
