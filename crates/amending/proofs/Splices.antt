-- The bytes of a file after a change.
--
--   place_inside          the place of a change lies in the file or at its end
--   splice_before     before the place nothing changes
--   splice_gains      from the place on each byte gains the old one and the new one
-- Assumes nothing.
use mathlib.Core.Path.{◌≡◌, sym, ap, ap₂, ◌∙◌}
use mathlib.Core.List.{List, ◌++◌}
use Prim.Native.Nat.{ℕ, ◌+◌, ◌-◌, ◌≤◌, ◌<◌}
use native.Mathlib.Decide.{dec_lt}
use native.Mathlib.Omega.{arith}
use lib.Bits.{bit_xor, xor_zero_r}
use lib.ListN.{length, take, drop, get_or, length-append, length-drop, get_or-append, get_or-eq_default}
use lib.Seq.{length-take-le, get_or-take, get_or-drop, get_or-append-add}
use Rattle.gf256.proofs.Xor.{xor_twice}
use Rattle.amending.specs.Amending.{Change, Stretch, inside, on_end, ChangeRight, spliced}

-- a byte x that was o becomes y; a byte that nothing was and nothing is stays
became : (x o y : ℕ) → o ≡ x → y ≡ bit_xor x (bit_xor o y)
became x o y e = sym (ap (λ (z : ℕ). bit_xor x (bit_xor z y)) e ∙ xor_twice x y)

stayed : (x o y : ℕ) → o ≡ 0 → y ≡ 0 → x ≡ bit_xor x (bit_xor o y)
stayed x o y e h = sym (ap₂ (λ (z w : ℕ). bit_xor x (bit_xor z w)) e h ∙ xor_zero_r x)

module _ (c : Change) (m : List ℕ) (right : ChangeRight m c) where
  pub place_inside : c.place ≤ length m
  place_inside = by right.kind
    where
      by : Stretch m c → c.place ≤ length m
      by (inside e h) = omega arith
      by (on_end e h) = omega arith

  pub splice_before : (p : ℕ) → p < c.place → get_or (spliced c m) p 0 ≡ get_or m p 0
  splice_before p h = let n : length (take c.place m) ≡ c.place = length-take-le c.place m place_inside in
      get_or-append (take c.place m) _ 0 p (omega arith) ∙ get_or-take c.place m p 0 h

  splice_from : (q : ℕ) → get_or (spliced c m) (c.place + q) 0 ≡ get_or (c.new ++ drop (c.place + length c.old) m) q 0
  splice_from q = let n : length (take c.place m) ≡ c.place = length-take-le c.place m place_inside in
      ap (λ (k : ℕ). get_or (spliced c m) (k + q) 0) (sym n) ∙ get_or-append-add (take c.place m) _ q 0

  -- the old bytes are those of the file
  old_at : (q : ℕ) → q < length c.old → get_or c.old q 0 ≡ get_or m (c.place + q) 0
  old_at q h = ap (λ (l : List ℕ). get_or l q 0) (sym right.old_true) ∙ get_or-take (length c.old) (drop c.place m) q 0 h ∙ get_or-drop c.place m q 0

  pub splice_gains : (q : ℕ) → get_or (spliced c m) (c.place + q) 0 ≡ bit_xor (get_or m (c.place + q) 0) (bit_xor (get_or c.old q 0) (get_or c.new q 0))
  splice_gains q = splice_from q ∙ by right.kind (dec_lt q (length c.new))
    where
      by : Stretch m c → Dec (q < length c.new)
          → get_or (c.new ++ drop (c.place + length c.old) m) q 0
          ≡ bit_xor (get_or m (c.place + q) 0) (bit_xor (get_or c.old q 0) (get_or c.new q 0))
      by (inside e h) (yes l) = get_or-append c.new _ 0 q l ∙ became _ _ _ (old_at q (omega arith))
      by (inside e h) (no l) = let r : ℕ = q - length c.new in
          let at : length c.new + r ≡ q = omega arith in
          let place : c.place + length c.old + r ≡ c.place + q = omega arith in
          let rest : List ℕ = drop (c.place + length c.old) m in
          let stays : get_or (c.new ++ rest) q 0 ≡ get_or m (c.place + q) 0 =
          ap (λ (k : ℕ). get_or (c.new ++ rest) k 0) (sym at) ∙ get_or-append-add c.new rest r 0
          ∙ get_or-drop (c.place + length c.old) m r 0 ∙ ap (λ (k : ℕ). get_or m k 0) place in
          stays ∙ stayed _ _ _ (get_or-eq_default c.old 0 (omega arith)) (get_or-eq_default c.new 0 (omega arith))
      by (on_end e h) (yes l) = let none : length c.old ≡ 0 = ap length e in
          get_or-append c.new _ 0 q l
          ∙ became _ _ _ (get_or-eq_default c.old 0 (omega arith) ∙ sym (get_or-eq_default m 0 (omega arith)))
      by (on_end e h) (no l) = let none : length c.old ≡ 0 = ap length e in
          let rest : List ℕ = drop (c.place + length c.old) m in
          let size : length (c.new ++ rest) ≤ q = omega (arith, length-append c.new rest, length-drop (c.place + length c.old) m) in
          get_or-eq_default (c.new ++ rest) 0 size ∙ sym (get_or-eq_default m 0 (omega arith))
          ∙ stayed _ _ _ (get_or-eq_default c.old 0 (omega arith)) (get_or-eq_default c.new 0 (omega arith))
