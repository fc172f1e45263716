-- Lists that are parts, one after another.
--
--   At f i ps            from index i on the list f is the parts ps
--   at_start             a list that is some parts, and a last one
--   at_part, at_number   the first part, and the number that it is
--   at_next              what follows the first part
--   at_open              parts of the first part
--   at_last              the last part
--   flatten-append       parts, and further ones
--   take_parts, drop_parts    the first parts, and what follows them
--   join_parts           two parts as one
--   store_part           a store over one part
-- Assumes nothing.
use mathlib.Core.Path.{◌≡◌, refl, sym, ap, ap₂, ◌∙◌}
use mathlib.Core.List.{List, [], ◌∷◌, ◌++◌, append_assoc, append-nil, flatten}
use Prim.Native.Nat.{ℕ, ◌+◌, ◌^◌, ◌≤◌, ◌<◌}
use native.Mathlib.Omega.{arith}
use native.Mathlib.Nat.{mod-eq_of_lt}
use lib.ListN.{length, take, drop, length-append}
use lib.Seq.{sets, sets-eq, take_at, drop_at, drop-drop}
use Rattle.little_endian.specs.Bytes.{from_le, to_le, le_at}
use Rattle.little_endian.proofs.Numbers.{length-to_le, from_to}

pub record At (f : List ℕ) (i : ℕ) (ps : List (List ℕ)) : Type 0 where
  pub joined : drop i f ≡ flatten ps

pub flatten-append : (ps qs : List (List ℕ)) → flatten (ps ++ qs) ≡ flatten ps ++ flatten qs
unfolding flatten
flatten-append [] qs = refl
flatten-append (p ∷ ps) qs = ap (λ (l : List ℕ). p ++ l) (flatten-append ps qs) ∙ sym (append_assoc p (flatten ps) (flatten qs))

pub at_start : {f : List ℕ} (ps : List (List ℕ)) (q : List ℕ) → f ≡ flatten ps ++ q → At f 0 (ps ++ (q ∷ []))
unfolding flatten
at_start ps q e = record { joined = e ∙ ap (λ (l : List ℕ). flatten ps ++ l) (sym (append-nil q)) ∙ sym (flatten-append ps (q ∷ [])) }

module _ {f : List ℕ} {i : ℕ} {ps : List (List ℕ)} where
  pub at_part : {p : List ℕ} (k : ℕ) → length p ≡ k → At f i (p ∷ ps) → take k (drop i f) ≡ p
  unfolding flatten
  at_part {p} k size a = ap (take k) a.joined ∙ take_at p (flatten ps) k size

  pub at_next : {p : List ℕ} (k : ℕ) → length p ≡ k → At f i (p ∷ ps) → At f (i + k) ps
  unfolding flatten
  at_next {p} k size a = record { joined = sym (drop-drop k i f) ∙ ap (drop k) a.joined ∙ drop_at p (flatten ps) k size }

  pub at_number : (k n : ℕ) → n < 256 ^ k → At f i (to_le k n ∷ ps) → le_at k f i ≡ n
  unfolding le_at
  at_number k n h a = ap from_le (at_part k (length-to_le k n) a) ∙ from_to k n ∙ mod-eq_of_lt h

  -- parts of a part
  pub at_open : (qs : List (List ℕ)) → At f i (flatten qs ∷ ps) → At f i (qs ++ ps)
  unfolding flatten
  at_open qs a = record { joined = a.joined ∙ sym (flatten-append qs ps) }

pub at_last : {f p : List ℕ} {i : ℕ} → At f i (p ∷ []) → drop i f ≡ p
unfolding flatten
at_last {f} {p} a = a.joined ∙ append-nil p

-- ---- parts among others

module _ (ps : List (List ℕ)) where
  pub take_parts : (qs : List (List ℕ)) (k : ℕ) → length (flatten ps) ≡ k → take k (flatten (ps ++ qs)) ≡ flatten ps
  take_parts qs k e = ap (take k) (flatten-append ps qs) ∙ take_at (flatten ps) (flatten qs) k e

  pub drop_parts : (qs : List (List ℕ)) (k : ℕ) → length (flatten ps) ≡ k → drop k (flatten (ps ++ qs)) ≡ flatten qs
  drop_parts qs k e = ap (drop k) (flatten-append ps qs) ∙ drop_at (flatten ps) (flatten qs) k e

  pub join_parts : (p q : List ℕ) (qs : List (List ℕ)) → flatten (ps ++ (p ∷ q ∷ qs)) ≡ flatten (ps ++ ((p ++ q) ∷ qs))
  unfolding flatten
  join_parts p q qs =
      flatten-append ps (p ∷ q ∷ qs) ∙ ap (λ (l : List ℕ). flatten ps ++ l) (sym (append_assoc p q (flatten qs)))
      ∙ sym (flatten-append ps ((p ++ q) ∷ qs))

  -- over a part that is as long
  pub store_part : (p q : List ℕ) (qs : List (List ℕ)) (i : ℕ) → length (flatten ps) ≡ i → length q ≡ length p
      → sets (flatten (ps ++ (p ∷ qs))) i q ≡ flatten (ps ++ (q ∷ qs))
  unfolding flatten
  store_part p q qs i e size = let x : List ℕ = flatten ps in
      let r : List ℕ = flatten qs in
      let s : List ℕ = flatten (ps ++ (p ∷ qs)) in
      let split : s ≡ x ++ (p ++ r) = flatten-append ps (p ∷ qs) in
      let front : take i s ≡ x = take_parts (p ∷ qs) i e in
      let total : length (x ++ p) ≡ i + length q = omega (arith, length-append x p) in
      let rest : drop (i + length q) s ≡ r = ap (drop (i + length q)) (split ∙ sym (append_assoc x p r)) ∙ drop_at (x ++ p) r (i + length q) total in
      let fits : i + length q ≤ length s = omega (arith, ap length split, length-append x (p ++ r), length-append p r) in
      sets-eq q s i fits ∙ append_assoc (take i s) q (drop (i + length q) s)
      ∙ ap₂ (λ (y z : List ℕ). y ++ (q ++ z)) front rest ∙ sym (flatten-append ps (q ∷ qs))
