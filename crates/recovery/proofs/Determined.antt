-- What `query` and `recoverable_files` promise determines what they give.
--
--   answer_one     one answer, and one room after it, meet the promise of `query`, over any rule
--   one_answer     so at the rules of the two codes
--   one_set        one set meets the promise of `recoverable_files`
-- Assumes nothing.
use mathlib.Core.Path.{◌≡◌, refl, sym, ap, ◌∙◌}
use mathlib.Core.Bool.{Bool, true, false, cond, true≢false}
use mathlib.Core.List.{List}
use Prim.Native.Nat.{ℕ, suc, ◌<◌, ◌+◌, ◌-◌}
use native.Mathlib.Omega.{arith}
use native.Mathlib.Decide.{dec_lt}
use lib.ListN.{length, get_or}
use lib.Seq.{ext_get_or}
use Rattle.computed_tests.specs.Lists.{list_below}
use Rattle.computed_tests.proofs.Lists.{length-list_below, list_below_at}
use Rattle.gf256.specs.Field.{product}
use Rattle.gf256.proofs.Polynomials.{sum_below-same}
use Rattle.parity.specs.Coefficient.{rule_of}
use Rattle.number_sets.specs.Sets.{member, gathered}
use Rattle.volume_weights.specs.Weights.{weight_at, Solved, solved, unsolved, file_weight}
use Rattle.volume_weights.proofs.Determined.{solved_determined, columns_determined}
use Rattle.recovery.specs.Answers.{Found, empty, not_empty, Written, Answers, present, undetermined, no_room, recoverable, is_empty}
use Rattle.recovery.specs.Claim.{OneAnswer, OneSet}
use Rattle.recovery.specs.declared.Answer.{Answer}

module _ (rule : ℕ → ℕ → ℕ) (n : ℕ) (files volumes nonempty : List ℕ) (i : ℕ) (inside : i < 256) where
  -- ---- the weights that are found

  -- a solution with its weights in 256 places
  abbrev in_places : (ws : List ℕ) (found : Bool) → Solved rule nonempty files volumes (255 - n) i ws found → Type 0
  in_places ws found S =
      (ls : List ℕ) × (length ls ≡ 256) × Solved rule nonempty files volumes (255 - n) i ls found × ((v : ℕ) → v < 256 → get_or ws v 0 ≡ get_or ls v 0)

  in_places_lem : (ws : List ℕ) (found : Bool) (S : Solved rule nonempty files volumes (255 - n) i ws found) → in_places ws found S
  in_places_lem ws found (solved w W h) =
      let weight = weight_at (255 - n) w in (
        list_below 256 weight,
        length-list_below 256 weight,
        solved w W (list_below_at 256 weight),
        λ v l. h v l ∙ sym (list_below_at 256 weight v l),
      )
  in_places_lem ws found (unsolved x X z) = (ws, ap length z, unsolved x X z, λ v l. refl)

  found_one : (ws ws' : List ℕ) (a b : Bool) → Found rule n files volumes nonempty i a ws → Found rule n files volumes nonempty i b ws'
      → (a ≡ b) × ((v : ℕ) → v < 256 → get_or ws v 0 ≡ get_or ws' v 0)
  found_one ws ws' a b (empty e y z) (empty e' y' z') = (y ∙ sym y', λ v l. z v ∙ sym (z' v))
  found_one ws ws' a b (empty e y z) (not_empty e' S') = absurd (true≢false (sym e' ∙ e))
  found_one ws ws' a b (not_empty e S) (empty e' y' z') = absurd (true≢false (sym e ∙ e'))
  found_one ws ws' a b (not_empty e S) (not_empty e' S') = let (ls, k, T, h) = in_places_lem ws a S in
      let (ls', k', T', h') = in_places_lem ws' b S' in
      let (same, lists) = solved_determined rule nonempty files volumes (255 - n) i inside a b ls ls' k k' T T' in
      (same, λ v l. h v l ∙ ap (λ (zs : List ℕ). get_or zs v 0) lists ∙ sym (h' v l))

  -- ---- the room with the weights

  weight_same : (ws ws' : List ℕ) → ((v : ℕ) → v < 256 → get_or ws v 0 ≡ get_or ws' v 0)
      → (p : ℕ) → file_weight rule files ws (255 - n) p ≡ file_weight rule files ws' (255 - n) p
  unfolding file_weight
  weight_same ws ws' same p =
      sum_below-same (255 - n) (λ v. product (get_or ws (suc v) 0) (cond (member files (suc p)) (rule (suc p) (suc v)) 0))
      (λ v. product (get_or ws' (suc v) 0) (cond (member files (suc p)) (rule (suc p) (suc v)) 0))
      (λ v l. ap (λ (x : ℕ). product x (cond (member files (suc p)) (rule (suc p) (suc v)) 0)) (same (suc v) (omega arith)))

  written_one : (ws ws' room a b : List ℕ) → ((v : ℕ) → v < 256 → get_or ws v 0 ≡ get_or ws' v 0)
      → Written rule n files ws room a 255 → Written rule n files ws' room b 255 → a ≡ b
  written_one ws ws' room a b same W W' = ext_get_or 0 a b (W.same_length ∙ sym W'.same_length) (λ p l. at p)
    where
      at : (p : ℕ) → get_or a p 0 ≡ get_or b p 0
      at p =
          elim (dec_lt p 255) [
            | no q ↦ W.rest p (omega arith) ∙ sym (W'.rest p (omega arith))
            | yes k ↦ elim (dec_lt p n) [
              | yes h ↦ W.of_files p k h ∙ weight_same ws ws' same p ∙ sym (W'.of_files p k h)
              | no q ↦
                  W.of_volumes p k (omega arith) ∙ same (p - n + 1) (omega arith) ∙ sym (W'.of_volumes p k (omega arith))
            ]
          ]

  -- ---- the answer

  both : member files (suc i) ≡ true → member files (suc i) ≡ false → ⊥
  both m m' = true≢false (sym m ∙ m')

  not_both : (ws ws' : List ℕ) → Found rule n files volumes nonempty i true ws → Found rule n files volumes nonempty i false ws' → ⊥
  not_both ws ws' F F' = true≢false (found_one ws ws' true false F F').0

  answer_one : (room : List ℕ) (r r' : Answer) (a b : List ℕ)
      → Answers rule n files volumes nonempty i room r a → Answers rule n files volumes nonempty i room r' b → (r ≡ r') × (a ≡ b)
  answer_one room r r' a b (present m) (present m') = (refl, refl)
  answer_one room r r' a b (present m) (undetermined m' ws' F') = absurd (both m m')
  answer_one room r r' a b (present m) (no_room m' ws' F' l') = absurd (both m m')
  answer_one room r r' a b (present m) (recoverable m' ws' F' l' _ W') = absurd (both m m')
  answer_one room r r' a b (undetermined m ws F) (present m') = absurd (both m' m)
  answer_one room r r' a b (undetermined m ws F) (undetermined m' ws' F') = (refl, refl)
  answer_one room r r' a b (undetermined m ws F) (no_room m' ws' F' l') = absurd (not_both ws' ws F' F)
  answer_one room r r' a b (undetermined m ws F) (recoverable m' ws' F' l' _ W') = absurd (not_both ws' ws F' F)
  answer_one room r r' a b (no_room m ws F l) (present m') = absurd (both m' m)
  answer_one room r r' a b (no_room m ws F l) (undetermined m' ws' F') = absurd (not_both ws ws' F F')
  answer_one room r r' a b (no_room m ws F l) (no_room m' ws' F' l') = (refl, refl)
  answer_one room r r' a b (no_room m ws F l) (recoverable m' ws' F' l' _ W') = absurd (omega (arith, l, l'))
  answer_one room r r' a b (recoverable m ws F l _ W) (present m') = absurd (both m' m)
  answer_one room r r' a b (recoverable m ws F l _ W) (undetermined m' ws' F') = absurd (not_both ws ws' F F')
  answer_one room r r' a b (recoverable m ws F l _ W) (no_room m' ws' F' l') = absurd (omega (arith, l, l'))
  answer_one room r r' a b (recoverable m ws F l _ W) (recoverable m' ws' F' l' _ W') =
      (refl, written_one ws ws' room a b (found_one ws ws' true true F F').1 W W')

pub one_answer : OneAnswer
one_answer c = answer_one (rule_of c)

pub one_set : OneSet
one_set c n files volumes nonempty r r' G G' =
    G.with_empty
    ∙ ap (λ (solved : List ℕ). gathered solved suc (is_empty files nonempty) n)
    (columns_determined (rule_of c) nonempty files volumes (255 - n) G.solved G'.solved G.columns G'.columns)
    ∙ sym G'.with_empty
