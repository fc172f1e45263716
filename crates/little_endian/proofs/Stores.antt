-- lib.Seq's `sets s i v`, the list s with v stored from index i on, at any index: what falls past the end is dropped.
--
--   sets_append       a store of two lists in a row
--   sets_out          past the end nothing changes
--   sets_past         places may stop at a last one past the end
--   sets_fitting      a store of what has room is a store of all
--   sets_more         a store with one byte more
--   part_sets         what was stored stands there
-- Assumes nothing.
use mathlib.Core.Path.{◌≡◌, refl, sym, ap, ap₂, ◌∙◌}
use Prim.Native.Nat.{ℕ, suc, ◌+◌, ◌-◌, ◌≤◌, ◌<◌, min}
use native.Mathlib.Nat.{add-zero, add-suc, suc-add}
use native.Mathlib.Numerals.{add-one}
use native.Mathlib.Omega.{arith}
use mathlib.Core.List.{List, [], ◌∷◌, ◌++◌, append_assoc}
use lib.ListN.{length, take, drop, set, get_or, length-drop, take-append-drop}
use lib.Seq.{length-sets, take-suc, sets, sets-eq, set_out, length-take-le, take-append_seam, drop_at}
use Rattle.little_endian.proofs.Past.{at_min}

module _ {A : Type 0} where
  pub sets_append : (s : List A) (i : ℕ) (u v : List A) → sets s i (u ++ v) ≡ sets (sets s i u) (i + length u) v
  sets_append s i [] v = ap (λ (p : ℕ). sets s p v) (sym (add-zero i))
  sets_append s i (a ∷ u) v =
      sets_append (set s i a) (suc i) u v
      ∙ ap (λ (p : ℕ). sets (sets (set s i a) (suc i) u) p v) (suc-add i (length u) ∙ sym (add-suc i (length u)))

  -- ---- past the end

  pub sets_out : (s : List A) (i : ℕ) (v : List A) → length s ≤ i → sets s i v ≡ s
  sets_out s i [] h = refl
  sets_out s i (a ∷ v) h = ap (λ (t : List A). sets t (suc i) v) (set_out s i a h) ∙ sets_out s (suc i) v (omega arith)

  pub sets_past : (s : List A) (i m : ℕ) (v : List A) → length s ≤ m → sets s (min i m) v ≡ sets s i v
  sets_past s i m v h = at_min (λ p. sets s p v) i m (λ past. sets_out s m v h ∙ sym (sets_out s i v (omega arith)))

  -- ---- what stands there

  pub part_sets : (s : List A) (i : ℕ) (v : List A) → i + length v ≤ length s → take (length v) (drop i (sets s i v)) ≡ v
  part_sets s i v h = let rest = drop (i + length v) s in
      ap (λ (t : List A). take (length v) (drop i t)) (sets-eq v s i h ∙ append_assoc (take i s) v rest)
      ∙ ap (take (length v)) (drop_at (take i s) (v ++ rest) i (length-take-le i s (omega arith)))
      ∙ take-append_seam v rest

  -- what lies past the end is dropped
  pub sets_fitting : (s b : List A) (at n : ℕ) → n ≡ min (length b) (length s - at) → sets s at (take n b) ≡ sets s at b
  sets_fitting s b at n e = let t : List A = sets s at (take n b) in
      let out : t ≡ sets t (at + length (take n b)) (drop n b) = sym (past (drop n b) refl) in
      out ∙ sym (sets_append s at (take n b) (drop n b)) ∙ ap (sets s at) (take-append-drop n b)
    where
      past : (v : List A) → v ≡ drop n b → sets (sets s at (take n b)) (at + length (take n b)) v ≡ sets s at (take n b)
      past [] z = refl
      past (x ∷ v) z =
          let size : length (take n b) ≡ n = length-take-le n b (omega arith) in
          sets_out (sets s at (take n b)) (at + length (take n b)) (x ∷ v)
          (omega (arith, length-sets s at (take n b), ap length z, length-drop n b))

pub sets_more : (s b : List ℕ) (at i : ℕ) {t : List ℕ} → i < length b → t ≡ sets s at (take i b)
    → set t (at + i) (get_or b i 0) ≡ sets s at (take (i + 1) b)
sets_more s b at i {t} h e = let n : length (take i b) ≡ i = length-take-le i b (omega arith) in
    ap₂ (λ (l : List ℕ) (j : ℕ). set l (at + j) (get_or b i 0)) e (sym n)
    ∙ sym (sets_append s at (take i b) (get_or b i 0 ∷ []))
    ∙ ap (sets s at) (sym (take-suc b i 0 h) ∙ ap (λ (k : ℕ). take k b) (sym (add-one i)))
