-- The test of each element of a list, as loops over it meet it: xs is what remains, and q what the test of all gives.
--
--   drop_at      the bytes from a position on: the one there, and those after it
--   each_over    nothing remains: it passes
--   each_stops   the next element fails: it fails
--   each_goes    the next element passes: those after it decide
-- Assumes nothing.
use mathlib.Core.Path.{◌≡◌, sym, ap, ◌∙◌}
use mathlib.Core.Bool.{Bool, true, false, not}
use mathlib.Core.List.{List, [], ◌∷◌}
use Prim.Native.Nat.{ℕ, ◌+◌, ◌<◌}
use native.Mathlib.Numerals.{add-one}
use lib.ListN.{length, drop, get_or}
use lib.Seq.{drop-cons}
use borrow.Author.Tests.{not-true, not-false}
use Rattle.lent_bytes.specs.Each.{each}

pub drop_at : (s : List ℕ) (i : ℕ) → i < length s → drop i s ≡ get_or s i 0 ∷ drop (i + 1) s
drop_at s i h = rw (add-one, drop-cons s i 0)

module _ {A : Type 0} (f : A → Bool) {q : Bool} {xs : List A} (all : each f xs ≡ q) where
  pub each_over : xs ≡ [] → true ≡ q
  each_over e = ap (each f) (sym e) ∙ all

  module _ {x : A} {ys : List A} {r : Bool} (e : xs ≡ x ∷ ys) (is : r ≡ f x) where
    pub each_stops : not r ≡ true → false ≡ q
    each_stops t = sym (ap (each f) e ∙ simp (sym is, not-true r t)) ∙ all

    pub each_goes : not r ≡ false → each f ys ≡ q
    each_goes t = sym (ap (each f) e ∙ simp (sym is, not-false r t)) ∙ all
