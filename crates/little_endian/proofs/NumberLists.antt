-- Numbers of 64 bits, one after another.
--
--   length-numbers     they take eight bytes each
--   numbers-append     those of two lists in a row
--   numbers_back       numbers that were written are read back
--   numbers_read       numbers that were read are the bytes there
--   read_more, write_more     what a loop over them needs, where places stop at a last one past the end
-- Assumes nothing.
use mathlib.Core.Path.{◌≡◌, refl, sym, ap, ap₂, ◌∙◌}
use Prim.Native.Nat.{ℕ, zero, suc, ◌+◌, ◌*◌, ◌-◌, ◌^◌, ◌≤◌, ◌<◌, min}
use native.Mathlib.Nat.{mod-eq_of_lt}
use native.Mathlib.Numerals.{add-one}
use native.Mathlib.Omega.{arith}
use mathlib.Core.List.{List, [], ◌∷◌, ◌++◌, append_assoc}
use lib.ListN.{length, take, drop, get_or, set, length-append}
use lib.Seq.{sets, length-sets, drop-cons, drop-drop, drop-append_seam, take-add, take-append_seam, take-suc-set}
use Rattle.little_endian.specs.Bytes.{Bytes, from_le, to_le, le_at, numbers, numbers_at}
use Rattle.little_endian.proofs.Numbers.{length-to_le, from_to}
use Rattle.little_endian.proofs.Past.{at_min}
use Rattle.little_endian.proofs.Reading.{le_at_out, to_le_at}
use Rattle.little_endian.proofs.Stores.{sets_append, sets_past}

-- ---- lengths, and lists in a row

pub length-numbers : (ns : List ℕ) → length (numbers ns) ≡ 8 * length ns
unfolding numbers
length-numbers [] = refl
length-numbers (n ∷ ns) = length-append (to_le 8 n) (numbers ns) ∙ omega (arith, length-to_le 8 n, length-numbers ns)

pub numbers-append : (ns ms : List ℕ) → numbers (ns ++ ms) ≡ numbers ns ++ numbers ms
unfolding numbers
numbers-append [] ms = refl
numbers-append (n ∷ ns) ms = ap (λ (l : List ℕ). to_le 8 n ++ l) (numbers-append ns ms) ∙ sym (append_assoc (to_le 8 n) (numbers ns) (numbers ms))

-- ---- places past the end

numbers_at-same : (k : ℕ) (s : List ℕ) (i j : ℕ) → length s ≤ i → length s ≤ j → numbers_at k s i ≡ numbers_at k s j
unfolding numbers_at
numbers_at-same zero s i j h g = refl
numbers_at-same (suc k) s i j h g = ap₂ ◌∷◌ (le_at_out 8 s i h ∙ sym (le_at_out 8 s j g)) (numbers_at-same k s (i + 8) (j + 8) (omega arith) (omega arith))

numbers_at_past : (k : ℕ) (s : List ℕ) (i m : ℕ) → length s ≤ m → numbers_at k s (min i m) ≡ numbers_at k s i
numbers_at_past k s i m h = at_min (numbers_at k s) i m (λ past. numbers_at-same k s m i h (omega arith))

-- ---- one more

-- of k numbers those from i on remain to be read from `place` on
pub read_more : (k : ℕ) (s ns : List ℕ) (i place m : ℕ) {x next : ℕ} → length ns ≡ k → length s ≤ m → i < k → x ≡ le_at 8 s place
    → next ≡ min (place + 8) m
    → take (i + 1) (set ns i x) ++ numbers_at (k - (i + 1)) s next ≡ take i ns ++ numbers_at (k - i) s place
unfolding numbers_at
read_more k s ns i place m {x} size h g e f = let rest : ℕ = k - (i + 1) in
    let left : k - i ≡ suc rest = omega arith in
    ap₂ ◌++◌ (ap (λ (j : ℕ). take j (set ns i x)) (add-one i) ∙ take-suc-set ns i x (omega arith))
    (ap (numbers_at rest s) f ∙ numbers_at_past rest s (place + 8) m h)
    ∙ append_assoc (take i ns) (x ∷ []) (numbers_at rest s (place + 8))
    ∙ ap (λ (y : ℕ). take i ns ++ y ∷ numbers_at rest s (place + 8)) e
    ∙ ap (λ (j : ℕ). take i ns ++ numbers_at j s place) (sym left)

-- the numbers from i on remain to be written from `place` on
pub write_more : (s : List ℕ) (ns : List ℕ) (i place m : ℕ) {t : List ℕ} {next : ℕ} → length s ≤ m → i < length ns
    → t ≡ sets s place (to_le 8 (get_or ns i 0)) → next ≡ min (place + 8) m
    → sets t next (numbers (drop (i + 1) ns)) ≡ sets s place (numbers (drop i ns))
unfolding numbers
write_more s ns i place m {t} h g e f = let n : ℕ = get_or ns i 0 in
    let rest : List ℕ = numbers (drop (i + 1) ns) in
    let fits : length t ≤ m = omega (arith, ap length e, length-sets s place (to_le 8 n)) in
    ap (λ (p : ℕ). sets t p rest) f
    ∙ sets_past t (place + 8) m rest fits
    ∙ ap₂ (λ (l : List ℕ) (k : ℕ). sets l (place + k) rest) e (sym (length-to_le 8 n))
    ∙ sym (sets_append s place (to_le 8 n) rest)
    ∙ ap (λ (l : List ℕ). sets s place (numbers l)) (sym (drop-cons ns i 0 g ∙ ap (λ (j : ℕ). n ∷ drop j ns) (sym (add-one i))))

-- ---- there and back

pub numbers_back : (p ns q : List ℕ) → ((j : ℕ) → get_or ns j 0 < 2 ^ 64) → numbers_at (length ns) (p ++ (numbers ns ++ q)) (length p) ≡ ns
unfolding numbers numbers_at le_at
numbers_back p [] q h = refl
numbers_back p (n ∷ ns) q h = let low : List ℕ = to_le 8 n in
    let rest : List ℕ = numbers ns ++ q in
    let whole : (low ++ numbers ns) ++ q ≡ low ++ rest = append_assoc low (numbers ns) q in
    let size : length p + 8 ≡ length (p ++ low) = omega (arith, length-append p low, length-to_le 8 n) in
    let part : take 8 (drop (length p) (p ++ (low ++ rest))) ≡ low =
    ap₂ (λ (k : ℕ) (l : List ℕ). take k l) (sym (length-to_le 8 n)) (drop-append_seam p (low ++ rest)) ∙ take-append_seam low rest in
    let first : from_le (take 8 (drop (length p) (p ++ (low ++ rest)))) ≡ n = ap from_le part ∙ from_to 8 n ∙ mod-eq_of_lt (h 0) in
    ap (λ (l : List ℕ). numbers_at (suc (length ns)) (p ++ l) (length p)) whole
    ∙ ap₂ ◌∷◌ first
    (ap₂ (λ (l : List ℕ) (i : ℕ). numbers_at (length ns) l i) (sym (append_assoc p low rest)) size ∙ numbers_back (p ++ low) ns q (λ j. h (suc j)))

pub numbers_read : (k : ℕ) (s : List ℕ) (i : ℕ) → Bytes s → i + 8 * k ≤ length s → numbers (numbers_at k s i) ≡ take (8 * k) (drop i s)
unfolding numbers numbers_at
numbers_read zero s i h fits = refl
numbers_read (suc k) s i h fits = let size : 8 + 8 * k ≡ 8 * suc k = omega arith in
    ap₂ ◌++◌ (to_le_at 8 s i h (omega arith)) (numbers_read k s (i + 8) h (omega arith) ∙ ap (take (8 * k)) (sym (drop-drop 8 i s)))
    ∙ sym (take-add 8 (8 * k) (drop i s)) ∙ ap (λ (n : ℕ). take n (drop i s)) size
