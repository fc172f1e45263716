-- The units of names.
--
--   fits_first, fits_rest  what follows of units that fit
--   same_lengths           they are not the bytes of a text that has more or fewer
--   eq_from_yields         what `eq` of two iterators tells: whether their lists are equal
-- Assumes nothing.
use Rattle.std.specs.Prelude.{Option, Some, None}
use mathlib.Core.Path.{◌≡◌, sym, ap, ap₂, ◌∙◌, subst}
use mathlib.Core.Bool.{Bool, true, false, ◌&&◌}
use mathlib.Core.List.{List, [], ◌∷◌}
use Prim.Native.Nat.{ℕ, ◌/◌, ◌≤◌}
use borrow.Author.Tests.{leb-true}
use lib.Dec.{leb, eqb}
use lib.ListN.{length}
use Rattle.std.specs.Iterator.{AlwaysYields, YieldsThen, ComparesItemsByEq}
use Rattle.std.specs.List.{AllZip}
use Rattle.std.specs.Option.{MatchOption, IfSome}
use Rattle.std.proofs.lemmas.Iterator.{YieldsList}
use Rattle.computed_tests.proofs.Tests.{and_both}
use Rattle.lent_bytes.specs.Equal.{equal}
use Rattle.lent_bytes.proofs.EqualLaws.{equal_lengths}
use Rattle.entries.specs.Entry.{units_of}
use Rattle.entries.proofs.NameLaws.{length_units}
use Rattle.md5sum_text.specs.Names.{unit_fits, units_fit}

-- of units that fit, the first is a byte, and the others fit
module _ {us rest : List ℕ} {u : ℕ} (more : us ≡ u ∷ rest) (fits : units_fit us ≡ true) where
  both : (unit_fits u ≡ true) × (units_fit rest ≡ true)
  both = and_both (unit_fits u) (units_fit rest) (rw more at fits)

  pub fits_first : u ≤ 126
  fits_first = leb-true u 126 (and_both (leb 32 u) (leb u 126) both.0).1

  pub fits_rest : units_fit rest ≡ true
  fits_rest = both.1

pub same_lengths : (s t : List ℕ) → (length s / 2 ≡ length t → ⊥) → equal (units_of s) t ≡ false
same_lengths s t h = equal_lengths (units_of s) t (λ e. h (sym (length_units s) ∙ e))

-- ---- the units of two iterators, as their `eq` compares them

module _ {S T : Type 0} (steps : S → Option ℕ → S → Type 0) (others : T → Option ℕ → T → Type 0) (r : Bool) where
  abbrev Last : Option ℕ → Option ℕ → Type 0
  Last o p = MatchOption o (MatchOption p (r ≡ true) (λ _. r ≡ false)) (λ x. (r ≡ false) × IfSome p (λ y. eqb x y ≡ false))

  at_last : (o p : Option ℕ) (xs ys : List ℕ) (s u : S) (t w : T) → AlwaysYields steps (λ x. x) s xs → AlwaysYields others (λ x. x) t ys → steps s o u
      → others t p w → Last o p → r ≡ equal xs ys
  unfolding equal
  at_last None p (x ∷ xs) ys s u t w e f a b h = absurd (e.0 u a)
  at_last (Some x) p [] ys s u t w e f a b h = absurd (e x u a)
  at_last o None xs (y ∷ ys) s u t w e f a b h = absurd (f.0 w b)
  at_last o (Some y) xs [] s u t w e f a b h = absurd (f y w b)
  at_last None None [] [] s u t w e f a b h = h
  at_last None (Some y) [] (z ∷ ys) s u t w e f a b h = h
  at_last (Some x) None (z ∷ xs) [] s u t w e f a b h = h.0
  at_last (Some x) (Some y) (x' ∷ xs) (y' ∷ ys) s u t w e f a b h =
      h.0 ∙ ap (λ (c : Bool). c && equal xs ys) (sym h.1 ∙ ap₂ eqb (e.1 x u a).0 (f.1 y w b).0)

  along : (cs bs : List ℕ) (o p : Option ℕ) (xs ys : List ℕ) (s u : S) (t w : T) → AlwaysYields steps (λ x. x) s xs → AlwaysYields others (λ x. x) t ys
      → YieldsThen steps s cs o u → YieldsThen others t bs p w → AllZip (λ x y. eqb x y ≡ true) cs bs → Last o p → r ≡ equal xs ys
  unfolding equal
  along [] [] o p xs ys s u t w e f a b z h = at_last o p xs ys s u t w e f (subst (λ j. steps j o u) (sym a.1) a.2) (subst (λ j. others j p w) (sym b.1) b.2) h
  along [] (y ∷ bs) o p xs ys s u t w e f a b z h = absurd z
  along (x ∷ cs) [] o p xs ys s u t w e f a b z h = absurd z
  along (x ∷ cs) (y ∷ bs) o p [] ys s u t w e f a b z h = absurd (e x a.1.0 a.1.1)
  along (x ∷ cs) (y ∷ bs) o p (x' ∷ xs) [] s u t w e f a b z h = absurd (f y b.1.0 b.1.1)
  along (x ∷ cs) (y ∷ bs) o p (x' ∷ xs) (y' ∷ ys) s u t w e f a b z h =
      let m = e.1 x a.1.0 a.1.1 in
      let n = f.1 y b.1.0 b.1.1 in
      along cs bs o p xs ys a.1.0 u b.1.0 w m.1 n.1 (a.0, a.1.2, a.2) (b.0, b.1.2, b.2) z.1 h
      ∙ ap (λ (c : Bool). c && equal xs ys) (sym z.0 ∙ ap₂ eqb m.0 n.0)

  pub eq_from_yields : {s : S} {other : T} {xs : List ℕ} (ys : List ℕ) → ComparesItemsByEq steps (λ (x y : T). y ≡ x) others s other eqb r
      → YieldsList steps (λ x. x) s xs → YieldsList others (λ x. x) other ys → r ≡ equal xs ys
  eq_from_yields {s = s} {xs = xs} ys d e f = let runs = subst (λ (t : T). AlwaysYields others (λ x. x) t ys) (sym d.7) f.runs in
      along d.1 d.2 d.3 d.4 xs ys s d.5 d.0 d.6 e.runs runs d.8 d.9 d.10 d.11
