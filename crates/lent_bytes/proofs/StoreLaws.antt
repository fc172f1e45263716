-- Stores in lent bytes: lib.Seq's `sets s i v`, the list s with v stored from index i on.
--
--   sets_over         a store at the front of a list that holds it
--   sets_fitting      a store of what has room is a store of all
--   sets_more         a store with one byte more
--   Stores s i ps t   t is s after the parts ps were stored from index i on, one after another
--   stored_as         a part that is known to equal what was stored
--   stores_flatten    that is one store of the parts, joined
-- Assumes nothing.
use mathlib.Core.Path.{◌≡◌, refl, sym, ap, ap₂, ◌∙◌}
use mathlib.Core.List.{List, [], ◌∷◌, ◌++◌, flatten}
use Prim.Native.Nat.{ℕ, ◌+◌, ◌≤◌}
use native.Mathlib.Omega.{arith}
use lib.ListN.{length, drop}
use lib.Seq.{sets, sets-eq}
use Rattle.little_endian.proofs.Stores.{sets_append}
pub use Rattle.little_endian.proofs.Stores.{sets_fitting, sets_more}

-- ---- at the front, and past the end

pub sets_over : (s p : List ℕ) → length p ≤ length s → sets s 0 p ≡ p ++ drop (length p) s
sets_over s p h = let n : 0 + length p ≡ length p = omega arith in
    sets-eq p s 0 (rw n h) ∙ ap (λ (k : ℕ). p ++ drop k s) n

-- ---- one part after another

pub data Stores : List ℕ → ℕ → List (List ℕ) → List ℕ → Type 0 where
  stored_all : {s : List ℕ} {i : ℕ} → Stores s i [] s
  stored : {s t u p : List ℕ} {i : ℕ} {ps : List (List ℕ)} (k : ℕ) → length p ≡ k → t ≡ sets s i p → Stores t (i + k) ps u
      → Stores s i (p ∷ ps) u

pub stores_flatten : {s u : List ℕ} {i : ℕ} {ps : List (List ℕ)} → Stores s i ps u → u ≡ sets s i (flatten ps)
unfolding flatten
stores_flatten stored_all = refl
stores_flatten (stored {s} {t} {u} {p} {i} {ps} k size e r) =
    stores_flatten r
    ∙ ap₂ (λ (l : List ℕ) (j : ℕ). sets l (i + j) (flatten ps)) e (sym size)
    ∙ sym (sets_append s i p (flatten ps))

-- a part stored under another name
pub stored_as : {s t u p q : List ℕ} {i : ℕ} {ps : List (List ℕ)} (k : ℕ) → length p ≡ k → q ≡ p → t ≡ sets s i q → Stores t (i + k) ps u
    → Stores s i (p ∷ ps) u
stored_as {s} {i = i} k size same e r = stored k size (e ∙ ap (sets s i) same) r
