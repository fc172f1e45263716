-- What cutting a list gives, said without the bound in its definition.
--
--   if_zero_pos     if_zero, where the number is not 0
--   cut-none, cut_stop, cut_more     cut, as equations: the empty list, no first piece, a first piece and what follows it
--   cut_induct     what holds in these three cases holds of every list
--   cut_joins      the pieces and the rest, joined, are the list
--   cut-length     the lengths of the pieces joined and of the rest add up to that of the list
--   cut-count      there are no more pieces than elements
--   cut_all        what holds of the first piece of any list holds of each piece
-- Assumes nothing.
use mathlib.Core.Path.{◌≡◌, refl, sym, ap, ◌∙◌, subst}
use mathlib.Core.Logic.{◌⊎◌, inl, inr}
use mathlib.Core.List.{List, [], ◌∷◌, ◌++◌, append_assoc, flatten}
use Prim.Native.Nat.{ℕ, zero, suc, ◌+◌, ◌≤◌, ◌<◌}
use native.Mathlib.Nat.{le_refl}
use native.Mathlib.Omega.{arith}
use lib.ListN.{length, take, drop, length-append, length-drop, take-append-drop}
use Rattle.cut_lists.specs.All.{All, all_none, all_more}
use Rattle.cut_lists.specs.Pieces.{Cut, none, before, if_zero, cut_in, cut}

-- ---- cut, as equations

module _ {A : Type 0} where
  pub if_zero_pos : (n : ℕ) (a b : A) → 0 < n → if_zero n a b ≡ b
  if_zero_pos zero a b h = absurd (omega arith)
  if_zero_pos (suc n) a b h = refl

  if_zero_ap : (n : ℕ) (a b c : A) → (0 < n → b ≡ c) → if_zero n a b ≡ if_zero n a c
  if_zero_ap zero a b c e = refl
  if_zero_ap (suc n) a b c e = e (omega arith)

-- more turns than elements change nothing
enough : (f : List ℕ → ℕ) (n m : ℕ) (s : List ℕ) → length s ≤ n → length s ≤ m → cut_in f n s ≡ cut_in f m s
unfolding cut_in
enough f zero zero s h k = refl
enough f zero (suc m) [] h k = refl
enough f zero (suc m) (b ∷ s) h k = absurd (omega arith)
enough f (suc n) zero [] h k = refl
enough f (suc n) zero (b ∷ s) h k = absurd (omega arith)
enough f (suc n) (suc m) [] h k = refl
enough f (suc n) (suc m) (b ∷ s) h k =
    if_zero_ap (f (b ∷ s)) _ _ _
    (λ g. ap (before _) (enough f n m _ (simp length-drop (omega arith)) (simp length-drop (omega arith))))

pub cut-none : (f : List ℕ → ℕ) → cut f [] ≡ none []
unfolding cut cut_in
cut-none f = refl

pub cut_stop : (f : List ℕ → ℕ) (s : List ℕ) → f s ≡ 0 → cut f s ≡ none s
unfolding cut cut_in
cut_stop f [] e = refl
cut_stop f (b ∷ s) e = simp e

pub cut_more : (f : List ℕ → ℕ) (s : List ℕ) → 0 < length s → 0 < f s → cut f s ≡ before (take (f s) s) (cut f (drop (f s) s))
unfolding cut cut_in
cut_more f [] h k = absurd (omega arith)
cut_more f (b ∷ s) h k = let t : List ℕ = drop (f (b ∷ s)) (b ∷ s) in
    let h : length t ≤ length s = omega (arith, length-drop (f (b ∷ s)) (b ∷ s)) in
    if_zero_pos (f (b ∷ s)) _ _ k
    ∙ ap (before (take (f (b ∷ s)) (b ∷ s))) (enough f (length s) (length t) t h (le_refl (length t)))

-- ---- induction over the pieces

module _ (f : List ℕ → ℕ) (P : List ℕ → Cut → Type 0)
    (at_none : P [] (none []))
    (at_stop : (s : List ℕ) → f s ≡ 0 → P s (none s))
    (at_more : (s : List ℕ) → 0 < length s → 0 < f s → P (drop (f s) s) (cut f (drop (f s) s))
    → P s (before (take (f s) s) (cut f (drop (f s) s)))) where
  zero_or_pos : (n : ℕ) → (n ≡ 0) ⊎ (0 < n)
  zero_or_pos zero = inl refl
  zero_or_pos (suc n) = inr (omega arith)

  induct_in : (n : ℕ) (s : List ℕ) → length s ≤ n → P s (cut f s)
  induct_in zero [] h = subst (P []) (sym (cut-none f)) at_none
  induct_in zero (b ∷ s) h = absurd (omega arith)
  induct_in (suc n) [] h = subst (P []) (sym (cut-none f)) at_none
  induct_in (suc n) (b ∷ s) h = by (zero_or_pos (f (b ∷ s))) (λ t. induct_in n t)
    where
      by : (f (b ∷ s) ≡ 0) ⊎ (0 < f (b ∷ s)) → ((t : List ℕ) → length t ≤ n → P t (cut f t)) → P (b ∷ s) (cut f (b ∷ s))
      by (inl e) r = subst (P (b ∷ s)) (sym (cut_stop f (b ∷ s) e)) (at_stop (b ∷ s) e)
      by (inr k) r = let t : List ℕ = drop (f (b ∷ s)) (b ∷ s) in
          subst (P (b ∷ s)) (sym (cut_more f (b ∷ s) (omega arith) k))
          (at_more (b ∷ s) (omega arith) k (r t (omega (arith, length-drop (f (b ∷ s)) (b ∷ s)))))

  pub cut_induct : (s : List ℕ) → P s (cut f s)
  cut_induct s = induct_in (length s) s (le_refl (length s))

-- ---- the pieces and the rest

pub cut_joins : (f : List ℕ → ℕ) (s : List ℕ) → flatten (cut f s).pieces ++ (cut f s).rest ≡ s
unfolding flatten
cut_joins f =
    cut_induct f (λ s c. flatten c.pieces ++ c.rest ≡ s) refl (λ s e. refl)
    (λ s h k e. append_assoc (take (f s) s) _ _ ∙ ap (λ (t : List ℕ). take (f s) s ++ t) e ∙ take-append-drop (f s) s)

pub cut-length : (f : List ℕ → ℕ) (s : List ℕ) → length (flatten (cut f s).pieces) + length (cut f s).rest ≡ length s
cut-length f s = sym (length-append (flatten (cut f s).pieces) (cut f s).rest) ∙ ap length (cut_joins f s)

pub cut-count : (f : List ℕ → ℕ) (s : List ℕ) → length (cut f s).pieces ≤ length s
cut-count f =
    cut_induct f (λ s c. length c.pieces ≤ length s) (omega arith) (λ s e. omega arith)
    (λ s h k e. omega (arith, length-drop (f s) s))

-- ---- each piece

pub cut_all : (f : List ℕ → ℕ) (P : List ℕ → Type 0) → ((s : List ℕ) → 0 < length s → 0 < f s → P (take (f s) s))
    → (s : List ℕ) → All P (cut f s).pieces
cut_all f P first = cut_induct f (λ s c. All P c.pieces) all_none (λ s e. all_none) (λ s h k e. all_more (first s h k) e)
