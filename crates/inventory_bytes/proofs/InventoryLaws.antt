-- The numbers of an inventory, written over all of some bytes.
--
--   inventory_whole   one list after another
-- Assumes nothing.
use mathlib.Core.Path.{◌≡◌, ap, ◌∙◌}
use mathlib.Core.List.{List, [], ◌∷◌, ◌++◌, append-nil, append_assoc, flatten}
use Prim.Native.Nat.{ℕ, ◌*◌}
use native.Mathlib.Omega.{arith}
use lib.ListN.{length, drop_of_length-le, length-append}
use lib.Seq.{sets}
use Rattle.lent_bytes.proofs.StoreLaws.{Stores, stored, stored_all, stores_flatten, sets_over}
use Rattle.little_endian.specs.Bytes.{numbers}
use Rattle.little_endian.proofs.NumberLists.{length-numbers, numbers-append}

-- one list of numbers over all of some bytes
numbers_whole : (s ns : List ℕ) {t : List ℕ} → length s ≡ 8 * length ns → t ≡ sets s 0 (numbers ns) → t ≡ numbers ns
numbers_whole s ns size e = let all : length (numbers ns) ≡ length s = omega (arith, length-numbers ns) in
    e ∙ sets_over s (numbers ns) (omega arith)
    ∙ ap (λ (l : List ℕ). numbers ns ++ l) (drop_of_length-le s {i = length (numbers ns)} (omega arith)) ∙ append-nil (numbers ns)

pub inventory_whole : (s : List ℕ) (n : ℕ) (a b c d : List ℕ) (o : ℕ) {t u v w x y : List ℕ} → length s ≡ 144
    → length a ≡ 4 → length b ≡ 4 → length c ≡ 4 → length d ≡ 4
    → t ≡ sets s 0 (numbers (n ∷ [])) → u ≡ sets t 8 (numbers a) → v ≡ sets u 40 (numbers b) → w ≡ sets v 72 (numbers c)
    → x ≡ sets w 104 (numbers d) → y ≡ sets x 136 (numbers (o ∷ [])) → y ≡ numbers (n ∷ a ++ b ++ c ++ d ++ (o ∷ []))
unfolding flatten
inventory_whole s n a b c d o {y = y} size i j k l e f g h m p = let one : List ℕ = n ∷ [] in
    let last : List ℕ = o ∷ [] in
    let all : length s ≡ 8 * length (one ++ a ++ b ++ c ++ d ++ last) = simp length-append (omega arith) in
    let parts : Stores s 0 (numbers one ∷ numbers a ∷ numbers b ∷ numbers c ∷ numbers d ∷ numbers last ∷ []) y =
    stored 8 (length-numbers one) e
    (stored 32 (four a i) f (stored 32 (four b j) g (stored 32 (four c k) h (stored 32 (four d l) m (stored 8 (length-numbers last) p stored_all))))) in
    let joined :
    numbers one ++ (numbers a ++ (numbers b ++ (numbers c ++ (numbers d ++ (numbers last ++ []))))) ≡ numbers (one ++ a ++ b ++ c ++ d ++ last) =
    simp (numbers-append, append_assoc, append-nil) in
    numbers_whole s (one ++ a ++ b ++ c ++ d ++ last) all (stores_flatten parts ∙ ap (sets s 0) joined)
  where
    four : (l : List ℕ) → length l ≡ 4 → length (numbers l) ≡ 32
    four l e = omega (arith, length-numbers l)
