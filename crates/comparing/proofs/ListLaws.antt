-- The lines on the entries of two lists, side by side, as a loop over them meets them.
--
--   Next k xs ys es ds t    of the entries xs and ys, t is the text on those at place k, and es and ds are the others
--   next_of_both, next_left     what comes next where the first list goes on, and the second too, or not
--   lines_left              where the first list is over the lines are those on what the second has left
--   more_lacking, none_lacking     what comes next of these, and nothing where the second is over too
-- Assumes nothing.
use mathlib.Core.Path.{◌≡◌, refl, ap}
use mathlib.Core.List.{List, [], ◌∷◌, ◌++◌, map, flatten}
use Prim.Native.Nat.{ℕ, suc, ◌+◌, ◌≤◌}
use native.Mathlib.Omega.{arith}
use lib.ListN.{length}
use native.Mathlib.Numerals.{add-one}
use Rattle.comparing.specs.Lines.{entry, all, line_text, text_of}
use Rattle.comparing.specs.Differences.{entry_table, differing, all_lines, entry_lines}
use Rattle.comparing.proofs.TextLaws.{text_append}

pub record Next (k : ℕ) (xs ys es ds : List (List ℕ)) (t : List ℕ) : Type 0 where
  pub shorter : suc (length es + length ds) ≤ length xs + length ys
  pub text_is : text_of (entry_lines k xs ys) ≡ t ++ text_of (entry_lines (k + 1) es ds)

pub next_of_both : (k : ℕ) {xs ys es ds : List (List ℕ)} {e d : List ℕ} → xs ≡ e ∷ es → ys ≡ d ∷ ds
    → Next k xs ys es ds (text_of (map (entry k) (differing entry_table e d)))
unfolding entry_lines
next_of_both k {es = es} {ds = ds} {e = e} {d = d} is_x is_y = record {
  shorter = omega (arith, ap length is_x, ap length is_y);
  text_is = rw (is_x, is_y, add-one) (text_append (map (entry k) (differing entry_table e d)) (entry_lines (suc k) es ds));
}

pub next_left : (k : ℕ) {xs ys es ds : List (List ℕ)} {e : List ℕ} → xs ≡ e ∷ es → (ys ≡ []) × (ds ≡ []) → Next k xs ys es ds (line_text (all k))
unfolding entry_lines all_lines flatten
next_left k {es = es} is over = record { shorter = omega (arith, ap length is, ap length over.0, ap length over.1); text_is = rw (is, over.0, over.1, add-one) (by es) }
  where
    by : (es : List (List ℕ)) → text_of (all k ∷ all_lines (suc k) es) ≡ line_text (all k) ++ text_of (entry_lines (suc k) es [])
    by [] = refl
    by (e ∷ es) = refl

pub lines_left : (k : ℕ) {es : List (List ℕ)} (ds : List (List ℕ)) → es ≡ [] → entry_lines k es ds ≡ all_lines k ds
unfolding entry_lines
lines_left k ds over = rw over refl

pub more_lacking : (k : ℕ) {e : List ℕ} {es ds : List (List ℕ)} → ds ≡ e ∷ es → text_of (all_lines k ds) ≡ line_text (all k) ++ text_of (all_lines (k + 1) es)
unfolding all_lines flatten
more_lacking k is = rw (is, add-one) refl

pub none_lacking : (k : ℕ) {es : List (List ℕ)} → es ≡ [] → text_of (all_lines k es) ≡ []
unfolding all_lines flatten
none_lacking k is = rw is refl
