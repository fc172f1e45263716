-- Laws of sets of numbers in words.
--
--   member_bit                        the test of a bit by shift and mask
--   member_above                      no number above 255 is in a set
--   inserted_by_mask, removed_by_mask          bits set and cleared by shift and mask
--   inserted_above, removed_above              nothing changes for a number above 255
--   length_inserted, length_removed            there are as many words as before
--   member-inserted, member-removed, member-none   what is in the set then
--   size_by_ones, size_by_sum         the counts of ones of the words sum to the size of the set
--   ones_fit                          their sum fits
--   words_same                        two sets with the same members are the same words
--   words_none, words_inserted, words_removed     the words that calls give
-- Assumes nothing.
use mathlib.Core.Path.{◌≡◌, refl, sym, ap, ap₂, ◌∙◌, subst}
use mathlib.Core.Logic.{◌≢◌}
use mathlib.Core.Bool.{Bool, true, false, not, cond, ◌&&◌, ◌||◌}
use mathlib.Core.List.{List, [], ◌∷◌}
use Prim.Native.Nat.{ℕ, zero, suc, ◌<◌, ◌≤◌, ◌+◌, ◌*◌, ◌-◌, ◌/◌, ◌%◌, ◌^◌, min, max}
use native.Mathlib.Nat.{zero-lt-suc, not-suc-le-zero, le_of_suc-le-suc, pow-suc, mul_comm, add-suc, zero-add, add-zero}
use native.Mathlib.Nat.{mod-lt, mod-eq_of_lt, div-div-eq-div-mul}
use native.Mathlib.Omega.{arith}
use native.Mathlib.Decide.{ℕ_discrete, dec_lt}
use lib.Arith.{digits_mod}
use lib.Pow.{pow-lt}
use lib.ListN.{length, get_or, set, replicate, length-set, get_or-eq_default, length-replicate}
use lib.Seq.{get_or-set_same, get_or-set_other, set_out, ext_get_or}
use lib.Bits.{bit_and, bit_or, or_shr, or_step, and_shr, and_step, and_mask, and_le_l, or_lt}
use lib.Count.{ones, ones_step}
use lib.Dec.{eqb}
use Rattle.std.specs.List.{sum_by}
use borrow.Author.Tests.{eq-eqb, ne_eqb}
use Rattle.computed_tests.proofs.Tests.{bit_cases}
use Rattle.number_sets.specs.Sets.{member, inserted, removed, size_below, Words}

-- ---- one bit of a word

bit : ℕ → ℕ → ℕ
bit w b = w / 2 ^ b % 2

low : (a : ℕ) → a % 2 < 2
low a = mod-lt a (zero-lt-suc 1)

bit_small : (w b : ℕ) → bit w b < 2
unfolding bit
bit_small w b = low (w / 2 ^ b)

bit_or_lem : (a b k : ℕ) → bit (bit_or a b) k ≡ max (bit a k) (bit b k)
unfolding bit
bit_or_lem a b k = let x = low (a / 2 ^ k) in
    let y = low (b / 2 ^ k) in
    ap (λ (x : ℕ). x % 2) (or_shr a b k ∙ or_step (a / 2 ^ k) (b / 2 ^ k))
    ∙ digits_mod (bit_or (a / 2 ^ k / 2) (b / 2 ^ k / 2)) (omega arith)

bit_and_lem : (a b k : ℕ) → bit (bit_and a b) k ≡ min (bit a k) (bit b k)
unfolding bit
bit_and_lem a b k = let x = low (a / 2 ^ k) in
    let y = low (b / 2 ^ k) in
    ap (λ (x : ℕ). x % 2) (and_shr a b k ∙ and_step (a / 2 ^ k) (b / 2 ^ k))
    ∙ digits_mod (bit_and (a / 2 ^ k / 2) (b / 2 ^ k / 2)) (omega arith)

bit_zero : (w : ℕ) → bit w 0 ≡ w % 2
unfolding bit
bit_zero w = omega arith

bit_suc : (w k : ℕ) → bit w (suc k) ≡ bit (w / 2) k
unfolding bit
bit_suc w k = ap (λ (x : ℕ). x % 2) (ap (λ (x : ℕ). w / x) (pow-suc 2 k ∙ mul_comm (2 ^ k) 2) ∙ sym (div-div-eq-div-mul w 2 (2 ^ k)))

bit_of_zero : (k : ℕ) → bit 0 k ≡ 0
bit_of_zero zero = bit_zero 0
bit_of_zero (suc k) = bit_suc 0 k ∙ bit_of_zero k

power-same : (b : ℕ) → bit (2 ^ b) b ≡ 1
power-same zero = bit_zero 1
power-same (suc b) = bit_suc (2 ^ suc b) b ∙ ap (λ (x : ℕ). bit x b) (omega arith) ∙ power-same b

power_other : (b k : ℕ) → k ≢ b → bit (2 ^ b) k ≡ 0
power_other zero zero q = absurd (q refl)
power_other zero (suc k) q = bit_suc 1 k ∙ bit_of_zero k
power_other (suc b) zero q = bit_zero (2 ^ suc b) ∙ omega arith
power_other (suc b) (suc k) q = bit_suc (2 ^ suc b) k ∙ ap (λ (x : ℕ). bit x k) (omega arith) ∙ power_other b k (λ e. q (ap suc e))

-- the complement of x in n bits
complement : (n x k : ℕ) → x < 2 ^ n → k < n → bit (2 ^ n - 1 - x) k ≡ 1 - bit x k
complement zero x k h l = absurd (not-suc-le-zero l)
complement (suc n) x zero h l = let odd : (2 ^ suc n - 1 - x) % 2 ≡ 1 - x % 2 = omega arith in
    bit_zero (2 ^ suc n - 1 - x) ∙ odd ∙ ap (λ (z : ℕ). 1 - z) (sym (bit_zero x))
complement (suc n) x (suc k) h l = let half : (2 ^ suc n - 1 - x) / 2 ≡ 2 ^ n - 1 - x / 2 = omega arith in
    bit_suc (2 ^ suc n - 1 - x) k ∙ ap (λ (z : ℕ). bit z k) half
    ∙ complement n (x / 2) k (omega arith) (le_of_suc-le-suc l) ∙ ap (λ (z : ℕ). 1 - z) (sym (bit_suc x k))

-- ---- members

pub member_bit : (ws : List ℕ) (k : ℕ) → eqb (bit_and (get_or ws (k / 64) 0 / 2 ^ (k % 64)) 1) 1 ≡ member ws k
unfolding member
member_bit ws k = ap (λ (x : ℕ). eqb x 1) (and_mask (get_or ws (k / 64) 0 / 2 ^ (k % 64)) 1)

pub member_above : (ws : List ℕ) (k : ℕ) → length ws ≡ 4 → 256 ≤ k → member ws k ≡ false
unfolding member bit
member_above ws k e h =
    ap (λ (w : ℕ). eqb (w / 2 ^ (k % 64) % 2) 1) (get_or-eq_default ws 0 (omega arith))
    ∙ ap (λ (x : ℕ). eqb x 1) (bit_of_zero (k % 64))

pub member-none : (k : ℕ) → member (replicate 4 0) k ≡ false
unfolding member bit
member-none k = ap (λ (w : ℕ). eqb (w / 2 ^ (k % 64) % 2) 1) (zeros 4 (k / 64)) ∙ ap (λ (x : ℕ). eqb x 1) (bit_of_zero (k % 64))
  where
    zeros : (n p : ℕ) → ◌≡◌ {A = ℕ} (get_or (replicate n 0) p 0) 0
    zeros zero p = refl
    zeros (suc n) zero = refl
    zeros (suc n) (suc p) = zeros n p

-- a word of the set replaced by one that differs in one bit
member-set : (ws : List ℕ) (g v : ℕ) → g / 64 < length ws → (b : Bool) → eqb (bit v (g % 64)) 1 ≡ b
    → ((k : ℕ) → k < 64 → k ≢ g % 64 → bit v k ≡ bit (get_or ws (g / 64) 0) k)
    → (h : ℕ) → member (set ws (g / 64) v) h ≡ cond (eqb h g) b (member ws h)
unfolding member bit
member-set ws g v l b e q h = elim (ℕ_discrete (h / 64) (g / 64)) [
  | yes p ↦ elim (ℕ_discrete (h % 64) (g % 64)) [
    | yes r ↦
        let z : h ≡ g = omega arith in
        ap₂ (λ (i k : ℕ). eqb (bit (get_or (set ws (g / 64) v) i 0) k) 1) p r
        ∙ ap (λ (x : ℕ). eqb (bit x (g % 64)) 1) (get_or-set_same ws (g / 64) v 0 l) ∙ e
        ∙ ap (λ (z : Bool). cond z b (member ws h)) (sym (eq-eqb h g z))
    | no r ↦
        ap (λ (i : ℕ). eqb (bit (get_or (set ws (g / 64) v) i 0) (h % 64)) 1) p
        ∙ ap (λ (x : ℕ). eqb (bit x (h % 64)) 1) (get_or-set_same ws (g / 64) v 0 l)
        ∙ ap (λ (x : ℕ). eqb x 1) (q (h % 64) (omega arith) r)
        ∙ ap (λ (i : ℕ). eqb (bit (get_or ws i 0) (h % 64)) 1) (sym p)
        ∙ ap (λ (z : Bool). cond z b (member ws h)) (sym (ne_eqb h g (λ z. r (ap (λ (k : ℕ). k % 64) z))))
  ]
  | no p ↦
      ap (λ (x : ℕ). eqb (bit x (h % 64)) 1) (get_or-set_other ws (g / 64) (h / 64) v 0 p)
      ∙ ap (λ (z : Bool). cond z b (member ws h)) (sym (ne_eqb h g (λ z. p (ap (λ (k : ℕ). k / 64) z))))
]

-- ---- insertion and removal

one_shifted : (k : ℕ) → 1 * 2 ^ (k % 64) % 2 ^ 64 ≡ 2 ^ (k % 64)
one_shifted k = ap (λ (x : ℕ). x % 2 ^ 64) (omega arith) ∙ mod-eq_of_lt (pow-lt {i = k % 64} {j = 64} (omega arith))

pub inserted_by_mask : (k : ℕ) (ws : List ℕ)
    → set ws (k / 64) (bit_or (get_or ws (k / 64) 0) (1 * 2 ^ (k % 64) % 2 ^ 64)) ≡ inserted k ws
unfolding inserted
inserted_by_mask k ws = ap (λ (x : ℕ). set ws (k / 64) (bit_or (get_or ws (k / 64) 0) x)) (one_shifted k)

pub removed_by_mask : (k : ℕ) (ws : List ℕ)
    → set ws (k / 64) (bit_and (get_or ws (k / 64) 0) (2 ^ 64 - 1 - 1 * 2 ^ (k % 64) % 2 ^ 64)) ≡ removed k ws
unfolding removed
removed_by_mask k ws = ap (λ (x : ℕ). set ws (k / 64) (bit_and (get_or ws (k / 64) 0) (2 ^ 64 - 1 - x))) (one_shifted k)

pub inserted_above : (k : ℕ) (ws : List ℕ) → length ws ≡ 4 → 256 ≤ k → inserted k ws ≡ ws
unfolding inserted
inserted_above k ws e h = set_out ws (k / 64) (bit_or (get_or ws (k / 64) 0) (2 ^ (k % 64))) (omega arith)

pub removed_above : (k : ℕ) (ws : List ℕ) → length ws ≡ 4 → 256 ≤ k → removed k ws ≡ ws
unfolding removed
removed_above k ws e h = set_out ws (k / 64) (bit_and (get_or ws (k / 64) 0) (2 ^ 64 - 1 - 2 ^ (k % 64))) (omega arith)

pub length_inserted : (k : ℕ) (ws : List ℕ) → length (inserted k ws) ≡ length ws
unfolding inserted
length_inserted k ws = length-set ws (k / 64) (bit_or (get_or ws (k / 64) 0) (2 ^ (k % 64)))

pub length_removed : (k : ℕ) (ws : List ℕ) → length (removed k ws) ≡ length ws
unfolding removed
length_removed k ws = length-set ws (k / 64) (bit_and (get_or ws (k / 64) 0) (2 ^ 64 - 1 - 2 ^ (k % 64)))

module _ (ws : List ℕ) (g : ℕ) (e : length ws ≡ 4) (l : g < 256) where
  word : ℕ
  word = get_or ws (g / 64) 0

  pub member-inserted : (h : ℕ) → member (inserted g ws) h ≡ (eqb h g || member ws h)
  unfolding inserted word
  member-inserted h = let small = bit_small word (g % 64) in
      let top : max (bit word (g % 64)) (bit (2 ^ (g % 64)) (g % 64)) ≡ 1 = omega (arith, power-same (g % 64)) in
      member-set ws g (bit_or word (2 ^ (g % 64))) (omega arith) true
      (ap (λ (x : ℕ). eqb x 1) (bit_or_lem word (2 ^ (g % 64)) (g % 64) ∙ top))
      (λ k m q. bit_or_lem word (2 ^ (g % 64)) k ∙ ap (max (bit word k)) (power_other (g % 64) k q) ∙ omega arith) h
      ∙ by_cases (eqb h g) (member ws h)
    where
      by_cases : (a b : Bool) → cond a true b ≡ (a || b)
      by_cases true b = refl
      by_cases false b = refl

  pub member-removed : (h : ℕ) → member (removed g ws) h ≡ (not (eqb h g) && member ws h)
  unfolding removed word
  member-removed h = let fits : 2 ^ (g % 64) < 2 ^ 64 = pow-lt {i = g % 64} {j = 64} (omega arith) in
      let none : min (bit word (g % 64)) (bit (2 ^ 64 - 1 - 2 ^ (g % 64)) (g % 64)) ≡ 0 =
      omega (arith, complement 64 (2 ^ (g % 64)) (g % 64) fits (omega arith), power-same (g % 64)) in
      member-set ws g (bit_and word (2 ^ 64 - 1 - 2 ^ (g % 64))) (omega arith) false
      (ap (λ (x : ℕ). eqb x 1) (bit_and_lem word (2 ^ 64 - 1 - 2 ^ (g % 64)) (g % 64) ∙ none))
      (λ k m q. bit_and_lem word (2 ^ 64 - 1 - 2 ^ (g % 64)) k ∙ other k m q) h
      ∙ by_cases (eqb h g) (member ws h)
    where
      by_cases : (a b : Bool) → cond a false b ≡ (not a && b)
      by_cases true b = refl
      by_cases false b = refl

      other : (k : ℕ) → k < 64 → k ≢ g % 64 → min (bit word k) (bit (2 ^ 64 - 1 - 2 ^ (g % 64)) k) ≡ bit word k
      other k m q =
          omega (arith, complement 64 (2 ^ (g % 64)) k (pow-lt {i = g % 64} {j = 64} (omega arith)) m, power_other (g % 64) k q, bit_small word k)

-- ---- how many are in the set

total : ℕ → (ℕ → ℕ) → ℕ
total zero g = 0
total (suc k) g = total k g + g k

total_front : (k : ℕ) (g : ℕ → ℕ) → total (suc k) g ≡ g 0 + total k (λ i. g (suc i))
unfolding total
total_front zero g = omega arith
total_front (suc k) g = ap (λ (x : ℕ). x + g (suc k)) (total_front k g) ∙ omega arith

total_cong : (k : ℕ) (g h : ℕ → ℕ) → ((i : ℕ) → i < k → g i ≡ h i) → total k g ≡ total k h
unfolding total
total_cong zero g h e = refl
total_cong (suc k) g h e = ap₂ ◌+◌ (total_cong k g h (λ i l. e i (omega arith))) (e k (omega arith))

total_split : (a b : ℕ) (g : ℕ → ℕ) → total (a + b) g ≡ total a g + total b (λ i. g (a + i))
unfolding total
total_split a zero g = ap (λ (k : ℕ). total k g) (add-zero a) ∙ sym (add-zero (total a g))
total_split a (suc b) g = ap (λ (k : ℕ). total k g) (add-suc a b) ∙ ap (λ (x : ℕ). x + g (a + b)) (total_split a b g) ∙ omega arith

ones_total : (k w : ℕ) → w < 2 ^ k → ones w ≡ total k (bit w)
unfolding total ones
ones_total zero w h = let e : w ≡ 0 = omega arith in ap ones e
ones_total (suc k) w h =
    ones_step w
    ∙ ap₂ ◌+◌ (sym (bit_zero w))
    (ones_total k (w / 2) (omega arith) ∙ total_cong k (bit (w / 2)) (λ b. bit w (suc b)) (λ b l. sym (bit_suc w b)))
    ∙ sym (total_front k (bit w))

one_if : Bool → ℕ
one_if b = cond b 1 0

bit_is_one : (d : ℕ) → d < 2 → one_if (eqb d 1) ≡ d
unfolding one_if
bit_is_one = bit_cases (λ (d : ℕ). one_if (eqb d 1) ≡ d) refl refl

-- the bits of word j are the members from 64 j on
word_total : (ws : List ℕ) (j : ℕ) → get_or ws j 0 < 2 ^ 64 → ones (get_or ws j 0) ≡ total 64 (λ b. one_if (member ws (64 * j + b)))
unfolding member bit
word_total ws j h =
    ones_total 64 (get_or ws j 0) h
    ∙ total_cong 64 (bit (get_or ws j 0)) (λ b. one_if (member ws (64 * j + b)))
    (λ b l.
    let d : (64 * j + b) / 64 ≡ j = omega arith in
    let r : (64 * j + b) % 64 ≡ b = omega arith in
    sym (ap₂ (λ (i k : ℕ). one_if (eqb (bit (get_or ws i 0) k) 1)) d r
    ∙ bit_is_one (bit (get_or ws j 0) b) (bit_small (get_or ws j 0) b)))

size_total : (m : ℕ) (set : ℕ → Bool) → size_below m set ≡ total m (λ k. one_if (set k))
unfolding size_below total one_if
size_total zero set = refl
size_total (suc m) set = ap (λ (x : ℕ). x + cond (set m) 1 0) (size_total m set)

pub size_by_ones : (ws : List ℕ) → ((j : ℕ) → j < 4 → get_or ws j 0 < 2 ^ 64)
    → ones (get_or ws 0 0) + ones (get_or ws 1 0) + ones (get_or ws 2 0) + ones (get_or ws 3 0) ≡ size_below 256 (member ws)
size_by_ones ws h =
    ap₂ ◌+◌ (ap₂ ◌+◌ (ap₂ ◌+◌ (at 0 (omega arith)) (at 1 (omega arith))) (at 2 (omega arith))) (at 3 (omega arith))
    ∙ sym
    (size_total 256 (member ws) ∙ total_split 192 64 m
    ∙ ap (λ (x : ℕ). x + total 64 (λ i. m (192 + i)))
    (total_split 128 64 m
    ∙ ap (λ (x : ℕ). x + total 64 (λ i. m (128 + i)))
    (total_split 64 64 m
    ∙ ap (λ (x : ℕ). x + total 64 (λ i. m (64 + i))) (total_cong 64 m (λ i. m (0 + i)) (λ i l. ap m (sym (zero-add i)))))))
  where
    m : ℕ → ℕ
    m k = one_if (member ws k)

    at : (j : ℕ) → j < 4 → ones (get_or ws j 0) ≡ total 64 (λ b. one_if (member ws (64 * j + b)))
    at j l = word_total ws j (h j l)

-- the words' sum, in the order of `sum`
four_ones : (ws : List ℕ) → length ws ≡ 4
    → sum_by ones ws ≡ ones (get_or ws 0 0) + ones (get_or ws 1 0) + ones (get_or ws 2 0) + ones (get_or ws 3 0)
four_ones [] e = absurd (omega arith)
four_ones (a ∷ []) e = absurd (omega arith)
four_ones (a ∷ b ∷ []) e = absurd (omega arith)
four_ones (a ∷ b ∷ c ∷ []) e = absurd (omega arith)
four_ones (a ∷ b ∷ c ∷ d ∷ []) e = omega arith
four_ones (a ∷ b ∷ c ∷ d ∷ x ∷ xs) e = absurd (omega arith)

pub size_by_sum : (ws : List ℕ) → Words ws → sum_by ones ws ≡ size_below 256 (member ws)
size_by_sum ws W = four_ones ws W.four ∙ size_by_ones ws (λ j l. W.fits j)

size_small : (m : ℕ) (test : ℕ → Bool) → size_below m test ≤ m
unfolding size_below one_if
size_small zero test = omega arith
size_small (suc m) test = let one : one_if (test m) ≤ 1 = small (test m) in omega (arith, size_small m test)
  where
    small : (b : Bool) → one_if b ≤ 1
    small true = omega arith
    small false = omega arith

-- the sum of the counts fits
pub ones_fit : (ws : List ℕ) → Words ws → sum_by ones ws < 2 ^ 32
ones_fit ws W = omega (arith, size_by_sum ws W, size_small 256 (member ws))

-- ---- words of 64 bits

bits_same : (n w w' : ℕ) → w < 2 ^ n → w' < 2 ^ n → ((b : ℕ) → b < n → bit w b ≡ bit w' b) → w ≡ w'
bits_same zero w w' h h' e = omega arith
bits_same (suc n) w w' h h' e =
    let half : w / 2 ≡ w' / 2 =
    bits_same n (w / 2) (w' / 2) (omega arith) (omega arith)
    (λ b l. sym (bit_suc w b) ∙ e (suc b) (omega arith) ∙ bit_suc w' b) in
    let odd : w % 2 ≡ w' % 2 = sym (bit_zero w) ∙ e 0 (omega arith) ∙ bit_zero w' in
    omega arith

pub words_same : (ws ws' : List ℕ) → Words ws → Words ws' → ((k : ℕ) → k < 256 → member ws k ≡ member ws' k) → ws ≡ ws'
unfolding member bit one_if
words_same ws ws' W W' e =
    ext_get_or 0 ws ws' (W.four ∙ sym W'.four)
    (λ j l.
    let f = W.four in
    bits_same 64 (get_or ws j 0) (get_or ws' j 0) (W.fits j) (W'.fits j)
    (λ b lb.
    let d : (64 * j + b) / 64 ≡ j = omega arith in
    let r : (64 * j + b) % 64 ≡ b = omega arith in
    let same : eqb (bit (get_or ws j 0) b) 1 ≡ eqb (bit (get_or ws' j 0) b) 1 =
    sym (ap₂ (λ (i k : ℕ). eqb (bit (get_or ws i 0) k) 1) d r) ∙ e (64 * j + b) (omega arith)
    ∙ ap₂ (λ (i k : ℕ). eqb (bit (get_or ws' i 0) k) 1) d r in
    sym (bit_is_one (bit (get_or ws j 0) b) (bit_small (get_or ws j 0) b)) ∙ ap one_if same
    ∙ bit_is_one (bit (get_or ws' j 0) b) (bit_small (get_or ws' j 0) b)))

zero_word : (j : ℕ) → ◌≡◌ {A = ℕ} (get_or (replicate 4 0) j 0) 0
zero_word zero = refl
zero_word (suc zero) = refl
zero_word (suc (suc zero)) = refl
zero_word (suc (suc (suc zero))) = refl
zero_word (suc (suc (suc (suc j)))) = refl

pub words_none : Words (replicate 4 0)
words_none = record {
  four = length-replicate {A = ℕ} 4 0;
  fits = λ j. subst (λ (x : ℕ). x < 2 ^ 64) (sym (zero_word j)) (omega arith);
}

-- one word replaced
words_set : (i word : ℕ) (ws : List ℕ) → word < 2 ^ 64 → Words ws → Words (set ws i word)
words_set i word ws h W = record {
  four = length-set ws i word ∙ W.four;
  fits = λ j. elim (dec_lt i (length ws)) [
    | yes l ↦ elim (ℕ_discrete j i) [
      | yes e ↦
          subst (λ (x : ℕ). x < 2 ^ 64) (sym (ap (λ (p : ℕ). get_or (set ws i word) p 0) e ∙ get_or-set_same ws i word 0 l)) h
      | no q ↦ subst (λ (x : ℕ). x < 2 ^ 64) (sym (get_or-set_other ws i j word 0 q)) (W.fits j)
    ]
    | no q ↦ subst (λ (l : List ℕ). get_or l j 0 < 2 ^ 64) (sym (set_out ws i word (omega arith))) (W.fits j)
  ];
}

pub words_inserted : (k : ℕ) (ws : List ℕ) → Words ws → Words (inserted k ws)
unfolding inserted
words_inserted k ws W =
    words_set (k / 64) _ ws (or_lt 64 (get_or ws (k / 64) 0) (2 ^ (k % 64)) (W.fits (k / 64)) (pow-lt {i = k % 64} {j = 64} (omega arith))) W

pub words_removed : (k : ℕ) (ws : List ℕ) → Words ws → Words (removed k ws)
unfolding removed
words_removed k ws W = let word : ℕ = get_or ws (k / 64) 0 in
    let less : bit_and word (2 ^ 64 - 1 - 2 ^ (k % 64)) < 2 ^ 64 = le_lt (and_le_l word (2 ^ 64 - 1 - 2 ^ (k % 64))) (W.fits (k / 64)) in
    words_set (k / 64) _ ws less W
  where
    le_lt : {a b c : ℕ} → a ≤ b → b < c → a < c
    le_lt h g = omega arith
