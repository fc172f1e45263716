-- The room with the weights, over any rule for the coefficients.
--
--   written_none, written_file, written_volume     with none; with one more, that of a file or that of a volume: the loop of `write`
--   written_parts       those of the files and then those of the volumes, copied one after the other
--   weights_written     the first p weights can be written, one after another
--   written_byte        what is written are bytes
--   written-rest        the rest of the room stays
-- Assumes nothing.
use mathlib.Core.Path.{◌≡◌, refl, sym, ap, ◌∙◌, subst}
use mathlib.Core.Bool.{Bool, true, false, cond}
use mathlib.Core.List.{List, ◌++◌, append_assoc}
use Prim.Native.Nat.{ℕ, zero, suc, ◌<◌, ◌≤◌, ◌+◌, ◌-◌}
use native.Mathlib.Nat.{not-suc-le-zero}
use native.Mathlib.Numerals.{add-one}
use native.Mathlib.Omega.{arith}
use native.Mathlib.Decide.{ℕ_discrete, dec_lt}
use lib.ListN.{length, get_or, set, take, drop, length-set, length-drop, take-append-drop}
use Rattle.std.proofs.lemmas.List.{take_at, drop_at, drop-drop, length-append, length-take-le, get_or_append_left, get_or-append_right, get_or-take}
use Rattle.std.proofs.lemmas.Grind.{get_or_after_one}
use lib.Seq.{sets, sets-eq, length-sets, ext_get_or, get_or-set_same, get_or-set_other, get_or-drop}
use Rattle.gf256.proofs.Polynomials.{sum_below_lt}
use Rattle.gf256.proofs.Products.{product_byte}
use Rattle.lent_bytes.proofs.StoreLaws.{sets_over}
use Rattle.number_sets.specs.Sets.{member}
use Rattle.volume_weights.specs.Weights.{file_weight}
use Rattle.recovery.specs.Answers.{Written}

module _ (rule : ℕ → ℕ → ℕ) (n : ℕ) (files ws room room' : List ℕ) (p x : ℕ) (lp : p < length room) (W : Written rule n files ws room room' p) where
  written_more : (p < n → x ≡ file_weight rule files ws (255 - n) p) → (n ≤ p → x ≡ get_or ws (p - n + 1) 0)
      → Written rule n files ws room (set room' p x) (p + 1)
  written_more hf hv = record {
    same_length = length-set room' p x ∙ W.same_length;
    of_files = λ i l b. elim (ℕ_discrete i p) [
      | yes e ↦
          at i e ∙ hf (subst (λ (k : ℕ). k < n) e b) ∙ ap (file_weight rule files ws (255 - n)) (sym e)
      | no q ↦ get_or-set_other room' p i x 0 q ∙ W.of_files i (omega arith) b
    ];
    of_volumes = λ i l b. elim (ℕ_discrete i p) [
      | yes e ↦ at i e ∙ hv (subst (λ (k : ℕ). n ≤ k) e b) ∙ ap (λ (k : ℕ). get_or ws (k - n + 1) 0) (sym e)
      | no q ↦ get_or-set_other room' p i x 0 q ∙ W.of_volumes i (omega arith) b
    ];
    rest = λ i l. get_or-set_other room' p i x 0 (λ e. omega arith) ∙ W.rest i (omega arith);
  }
    where
      at : (i : ℕ) → i ≡ p → get_or (set room' p x) i 0 ≡ x
      at i e = let l = W.same_length in
          ap (λ (k : ℕ). get_or (set room' p x) k 0) e ∙ get_or-set_same room' p x 0 (omega arith)

  pub written_file : p < n → x ≡ file_weight rule files ws (255 - n) p → Written rule n files ws room (set room' p x) (p + 1)
  written_file l e = written_more (λ b. e) (λ b. absurd (omega arith))

  pub written_volume : n ≤ p → x ≡ get_or ws (p - n + 1) 0 → Written rule n files ws room (set room' p x) (p + 1)
  written_volume l e = written_more (λ b. absurd (omega arith)) (λ b. e)

pub written_none : (rule : ℕ → ℕ → ℕ) (n : ℕ) (files ws room : List ℕ) → Written rule n files ws room room 0
written_none rule n files ws room = record {
  same_length = refl;
  of_files = λ i l b. absurd (not-suc-le-zero l);
  of_volumes = λ i l b. absurd (not-suc-le-zero l);
  rest = λ i l. refl;
}

module _ (n : ℕ) (sums ws room : List ℕ) (few : n ≤ 255) (ls : length sums ≡ 255) (lw : length ws ≡ 256) (lr : 255 ≤ length room) where
  abbrev second : List ℕ
  second = take (256 - n - 1) (drop 1 ws)

  abbrev first : List ℕ
  first = sets room 0 (take n sums)

  abbrev both : List ℕ
  both = sets first n second

  long_first : length (take n sums) ≡ n
  long_first = length-take-le n sums (omega arith)

  long_second : length second ≡ 255 - n
  long_second = length-take-le _ (drop 1 ws) (omega (arith, length-drop 1 ws)) ∙ omega arith

  first_is : first ≡ take n sums ++ drop n room
  first_is = sets_over room (take n sums) (omega (arith, long_first)) ∙ ap (λ (k : ℕ). take n sums ++ drop k room) long_first

  both_is : both ≡ take n sums ++ (second ++ drop 255 room)
  both_is = let all : n + (255 - n) ≡ 255 = omega arith in
      let end : n + length second ≡ 255 = omega (arith, long_second) in
      let front : take n first ≡ take n sums = ap (take n) first_is ∙ take_at (take n sums) (drop n room) n long_first in
      let back : drop n first ≡ drop n room = ap (drop n) first_is ∙ drop_at (take n sums) (drop n room) n long_first in
      let past : drop 255 first ≡ drop 255 room =
      rw all at (sym (drop-drop (255 - n) n first) ∙ ap (drop (255 - n)) back ∙ drop-drop (255 - n) n room) in
      simp (sets-eq second first n (omega (arith, end, length-sets room 0 (take n sums))), append_assoc, front, end, past)

  in_both : (i x : ℕ) → get_or (take n sums ++ (second ++ drop 255 room)) i 0 ≡ x → get_or both i 0 ≡ x
  in_both i x e = ap (λ (l : List ℕ). get_or l i 0) both_is ∙ e

  both_long : length both ≡ length room
  both_long = ap length both_is ∙ simp length-append (omega (arith, long_first, long_second, length-drop 255 room))

  at_file : (i : ℕ) → i < n → get_or both i 0 ≡ get_or sums i 0
  at_file i l = in_both i _ (get_or_append_left (take n sums) _ 0 i (omega (arith, long_first)) ∙ get_or-take n sums i 0 l)

  past_first : (i x : ℕ) → n ≤ i → get_or (second ++ drop 255 room) (i - n) 0 ≡ x → get_or both i 0 ≡ x
  past_first i x l e = in_both i x (get_or-append_right _ _ n i 0 long_first l ∙ e)

  at_volume : (i : ℕ) → n ≤ i → i < 255 → get_or both i 0 ≡ get_or ws (i - n + 1) 0
  at_volume i l h = past_first i _ l
      (get_or_append_left second _ 0 (i - n) (omega (arith, long_second)) ∙ get_or-take _ (drop 1 ws) (i - n) 0 (omega arith)
      ∙ get_or_after_one ws (i - n) 0 ∙ ap (λ (k : ℕ). get_or ws k 0) (omega arith))

  at_rest : (i : ℕ) → 255 ≤ i → get_or both i 0 ≡ get_or room i 0
  at_rest i l = past_first i _ (omega arith)
      (get_or-append_right _ _ (255 - n) (i - n) 0 long_second (omega arith) ∙ get_or-drop 255 room _ 0
      ∙ ap (λ (k : ℕ). get_or room k 0) (omega arith))

  pub written_parts : (rule : ℕ → ℕ → ℕ) (files : List ℕ) → ((i : ℕ) → i < 255 → get_or sums i 0 ≡ file_weight rule files ws (255 - n) i)
      → Written rule n files ws room both 255
  written_parts rule files h = record {
    same_length = both_long;
    of_files = λ i l b. at_file i b ∙ h i l;
    of_volumes = λ i l b. at_volume i b l;
    rest = at_rest;
  }

module _ (rule : ℕ → ℕ → ℕ) (n : ℕ) (files ws room : List ℕ) where
  pub weights_written : (p : ℕ) → p ≤ length room → (room' : List ℕ) × Written rule n files ws room room' p
  weights_written zero l = (room, written_none rule n files ws room)
  weights_written (suc p) l = go (weights_written p (omega arith))
    where
      go : ((r : List ℕ) × Written rule n files ws room r p) → (r : List ℕ) × Written rule n files ws room r (suc p)
      go (r, W) =
          elim (dec_lt p n) [
            | yes b ↦ (set r p _, rw (add-one p) at (written_file rule n files ws room r p _ l W b refl))
            | no b ↦ (set r p _, rw (add-one p) at (written_volume rule n files ws room r p _ l W (omega arith) refl))
          ]

  module _ (small : (f v : ℕ) → f < 256 → rule f v < 256) (few : n ≤ 254) (bytes : (v : ℕ) → v < 256 → get_or ws v 0 < 256) where
    file_weight_byte : (i : ℕ) → i < n → file_weight rule files ws (255 - n) i < 256
    unfolding file_weight
    file_weight_byte i l = sum_below_lt (255 - n) 8 _ (λ v h. product_byte _ _ (bytes (suc v) (omega arith)) (chosen (member files (suc i)) (suc v)))
      where
        chosen : (b : Bool) (v : ℕ) → cond b (rule (suc i) v) 0 < 256
        chosen true v = small (suc i) v (omega arith)
        chosen false v = omega arith

    pub written_byte : (room' : List ℕ) → Written rule n files ws room room' 255 → (p : ℕ) → p < 255 → get_or room' p 0 < 256
    written_byte room' W p l =
        elim (dec_lt p n) [
          | yes b ↦ rw (W.of_files p l b) (file_weight_byte p b)
          | no b ↦ rw (W.of_volumes p l (omega arith)) (bytes (p - n + 1) (omega arith))
        ]

  pub written-rest : (room' : List ℕ) → Written rule n files ws room room' 255 → room' ≡ take 255 room' ++ drop 255 room
  written-rest room' W = let e = W.same_length in
      sym (take-append-drop 255 room')
      ∙ ap (λ (l : List ℕ). take 255 room' ++ l)
      (ext_get_or 0 (drop 255 room') (drop 255 room) (simp length-drop (ap (λ (k : ℕ). k - 255) e))
      (λ i l. get_or-drop 255 room' i 0 ∙ W.rest (255 + i) (omega arith) ∙ sym (get_or-drop 255 room i 0)))
