-- The shape of a line, in the document's words.
--
--   lower, lower_all     a character, or each of some, is a lower-case digit where the test says so, and the other way round
--   in_sum, in_name      the sum and the name in a line
--   shape                the claim
--   each_line            each line of a text is one
--   lines_joined         the lines of lines, joined, and of what follows them
--   rest_stops           what is left of a text begins with no line
-- Assumes nothing.
use mathlib.Core.Path.{◌≡◌, refl, sym, ap, ap₂, ◌∙◌}
use mathlib.Core.Bool.{Bool, true, false, ◌&&◌, ◌||◌}
use mathlib.Core.Logic.{◌≢◌, inl, inr}
use mathlib.Core.List.{List, [], ◌∷◌, ◌++◌, append_assoc, flatten}
use Prim.Native.Nat.{ℕ, suc, ◌+◌, ◌-◌, ◌≤◌, ◌<◌}
use native.Mathlib.Omega.{arith}
use borrow.Author.Tests.{leb-true, le-leb, lt-leb}
use lib.Dec.{leb}
use lib.ListN.{length, get_or, take, drop, length-append, length-drop, take-append-drop}
use lib.Seq.{get_or-take, get_or-drop, take_at, drop_at, take-append_seam, drop-append_seam, take-append-le, drop-append-le, length-take-le, drop-drop}
use Rattle.computed_tests.proofs.Tests.{and_both}
use Rattle.cut_lists.specs.All.{All, all_none, all_more}
use Rattle.cut_lists.specs.Pieces.{Cut, before}
use Rattle.cut_lists.proofs.AllLaws.{all_map, all_at}
use Rattle.cut_lists.proofs.CutLaws.{cut_more, cut_all, cut_induct}
use Rattle.lent_bytes.proofs.EqualLaws.{equal-same}
use Rattle.text.specs.Ascii.{ascii}
use Rattle.text.specs.Hex.{is_hex_digit, all_hex_digits}
use Rattle.text.specs.TextLines.{line_length}
use Rattle.text.proofs.ScanLaws.{line_joined, line_ends, line_inside}
use Rattle.md5sum_text.specs.Lines.{is_shaped, shaped_length, lines_of, sum_in, name_in}
use Rattle.md5sum_text.specs.Claim.{LowerDigit, LineOf, Line, Shape}
use Rattle.md5sum_text.proofs.LineLaws.{HasLine, has_line}

-- ---- digits

both_of : (a b c : ℕ) → (leb a c && leb c b) ≡ true → (a ≤ c) × (c ≤ b)
both_of a b c e = let t = and_both (leb a c) (leb c b) e in (leb-true a c t.0, leb-true c b t.1)

lower : (c : ℕ) → is_hex_digit c ≡ true → LowerDigit c
unfolding is_hex_digit
lower c e = by (leb 48 c && leb c 57) refl e
  where
    by : (b : Bool) → (leb 48 c && leb c 57) ≡ b → (b || (leb 97 c && leb c 102)) ≡ true → LowerDigit c
    by true z e = inl (both_of 48 57 c z)
    by false z e = inr (both_of 97 102 c e)

is_lower : (c : ℕ) → LowerDigit c → is_hex_digit c ≡ true
unfolding is_hex_digit
is_lower c (inl h) = simp (le-leb 48 c h.0, le-leb c 57 h.1)
is_lower c (inr h) = simp (le-leb 97 c h.0, le-leb c 102 h.1, lt-leb c 57 (omega arith), le-leb 48 c (omega arith))

pub lower_all : (w : List ℕ) → all_hex_digits w ≡ true → All LowerDigit w
unfolding all_hex_digits
lower_all [] e = all_none
lower_all (c ∷ w) e = let b = and_both (is_hex_digit c) (all_hex_digits w) e in all_more (lower c b.0) (lower_all w b.1)

all_lower : {w : List ℕ} → All LowerDigit w → all_hex_digits w ≡ true
unfolding all_hex_digits
all_lower all_none = refl
all_lower (all_more {x} h hs) = simp (is_lower x h, all_lower hs)

digit_on : (c : ℕ) → LowerDigit c → c ≡ 10 → ⊥
digit_on c (inl h) e = omega arith
digit_on c (inr h) e = omega arith

-- ---- the end of a line

all_append : {P : ℕ → Type 0} {v w : List ℕ} → All P v → All P w → All P (v ++ w)
all_append all_none ws = ws
all_append (all_more p ps) ws = all_more p (all_append ps ws)

no_end_in : (w : List ℕ) → ((i : ℕ) → i < length w → get_or w i 0 ≢ 10) → All (λ b. b ≡ 10 → ⊥) w
no_end_in [] h = all_none
no_end_in (b ∷ w) h = all_more (h 0 (omega arith)) (no_end_in w (λ i l. h (suc i) (omega arith)))

-- ---- the sum and the name

module _ {sum name l : List ℕ} (z : LineOf sum name l) where
  abbrev tail : List ℕ
  tail = 32 ∷ 32 ∷ (name ++ (10 ∷ []))

  pub line_length_lem : length l ≡ 35 + length name
  line_length_lem = omega (arith, ap length z.line_is, length-append sum tail, length-append name (10 ∷ []), z.sum-length)

  pub in_sum : sum_in l ≡ sum
  in_sum = ap (take 32) z.line_is ∙ take_at sum tail 32 z.sum-length

  pub in_name : name_in l ≡ name
  in_name = let size : length l - 35 ≡ length name = omega (arith, line_length_lem) in
      let past : drop 34 l ≡ name ++ (10 ∷ []) = sym (drop-drop 2 32 l)
      ∙ ap (drop 2) (ap (drop 32) z.line_is ∙ drop_at sum tail 32 z.sum-length) in
      ap₂ (λ (n : ℕ) (t : List ℕ). take n t) size past ∙ take-append_seam name (10 ∷ [])

  spaces_in : take 2 (drop 32 l) ≡ ascii "  "
  spaces_in = ap (λ (t : List ℕ). take 2 t) (ap (drop 32) z.line_is ∙ drop_at sum tail 32 z.sum-length)

  shaped_is : is_shaped l ≡ true
  unfolding is_shaped
  shaped_is =
      simp
      (le-leb 36 (length l) (omega (arith, line_length_lem, z.some)), ap all_hex_digits in_sum ∙ all_lower z.digits, equal-same spaces_in)

  -- only the last byte ends it
  first_line : (s : List ℕ) → line_length (l ++ s) ≡ length l
  first_line s = let front : List ℕ = sum ++ (32 ∷ 32 ∷ name) in
      let on : All (λ b. b ≡ 10 → ⊥) front = all_append (all_map digit_on z.digits) (all_more (λ e. omega arith) (all_more (λ e. omega arith) z.no_end)) in
      let split : l ++ s ≡ front ++ 10 ∷ s = ap (λ (k : List ℕ). k ++ s) z.line_is ∙ regroup sum name s in
      ap line_length split ∙ line_joined front s (all_at 0 on) ∙ (let size : length front + 1 ≡ length l = omega (arith, line_length_lem, length-append sum (32 ∷ 32 ∷ name), z.sum-length) in size)
    where
      regroup : (a b c : List ℕ) → (a ++ (32 ∷ 32 ∷ (b ++ (10 ∷ [])))) ++ c ≡ (a ++ (32 ∷ 32 ∷ b)) ++ 10 ∷ c
      regroup a b c = simp append_assoc

  shaped_first : (s : List ℕ) → shaped_length (l ++ s) ≡ length l
  unfolding shaped_length
  shaped_first s = simp (first_line s, take-append_seam l s, shaped_is)

-- ---- the claim

line_from : (s : List ℕ) → HasLine s → Line (take (shaped_length s) s)
line_from s has = let n : ℕ = shaped_length s in
    let l : List ℕ = take n s in
    let size : length l ≡ n = length-take-le n s has.high in
    let ended : l ≡ take (n - 1) s ++ (10 ∷ []) = rw has.length_is (line_ends s (omega (arith, has.low, has.length_is))) in
    let front : List ℕ = take (n - 1) s in
    let front_size : length front ≡ n - 1 = length-take-le (n - 1) s (omega (arith, has.high)) in
    let name : List ℕ = drop 34 front in
    let sum_same : take 32 l ≡ take 32 front = ap (take 32) ended ∙ take-append-le 32 front (10 ∷ []) (omega (arith, has.low)) in
    let spaces_same : take 2 (drop 32 l) ≡ take 2 (drop 32 front) = ap (λ (t : List ℕ). take 2 (drop 32 t)) ended
    ∙ ap (take 2) (drop-append-le 32 front (10 ∷ []) (omega (arith, has.low))) ∙ take-append-le 2 (drop 32 front) (10 ∷ []) (omega (arith, length-drop 32 front, has.low)) in
    let parts : front ≡ take 32 front ++ (32 ∷ 32 ∷ name) = sym (take-append-drop 32 front)
    ∙ ap (λ (t : List ℕ). take 32 front ++ t)
    (sym (take-append-drop 2 (drop 32 front)) ∙ ap₂ (λ (x y : List ℕ). x ++ y) (sym spaces_same ∙ has.shape.spaces) (drop-drop 2 32 front)) in
    record {
      sum = take 32 front;
      name = name;
      line_of =
          record {
            line_is = ended ∙ ap (λ (t : List ℕ). t ++ (10 ∷ [])) parts ∙ append_assoc (take 32 front) (32 ∷ 32 ∷ name) (10 ∷ []);
            sum-length = length-take-le 32 front (omega (arith, has.low));
            digits = lower_all (take 32 front) (sym (ap all_hex_digits sum_same) ∙ has.shape.digits);
            some = omega (arith, length-drop 34 front, has.low);
            no_end =
                no_end_in name
                (λ i h z.
                let k : 34 + i < n - 1 = omega (arith, length-drop 34 front) in
                line_inside s (34 + i) (omega (arith, has.length_is)) (sym (get_or-drop 34 front i 0 ∙ get_or-take (n - 1) s (34 + i) 0 k) ∙ z));
          };
    }

pub shape : Shape
shape = (λ l s z. shaped_first z.line_of s, λ s h. line_from s (has_line s h))

-- ---- the lines of a text

pub each_line : (s : List ℕ) → All Line (lines_of s).pieces
each_line s = cut_all shaped_length Line (λ t some found. shape.1 t found) s

abbrev pub joined : List (List ℕ) → Cut → Cut
joined ls c = record { pieces = ls ++ c.pieces; rest = c.rest }

pub lines_joined : {ls : List (List ℕ)} (t : List ℕ) → All Line ls → lines_of (flatten ls ++ t) ≡ joined ls (lines_of t)
unfolding flatten
lines_joined t all_none = refl
lines_joined t (all_more {x} {xs} z zs) = let s : List ℕ = flatten xs ++ t in
    let first : shaped_length (x ++ s) ≡ length x = shape.0 x s z in
    let some : 0 < length x = omega (arith, line_length_lem z.line_of) in
    ap (λ (u : List ℕ). lines_of u) (append_assoc x (flatten xs) t)
    ∙ cut_more shaped_length (x ++ s) (omega (arith, length-append x s)) (omega arith)
    ∙ ap (λ (n : ℕ). before (take n (x ++ s)) (lines_of (drop n (x ++ s)))) first
    ∙ ap₂ (λ (p q : List ℕ). before p (lines_of q)) (take-append_seam x s) (drop-append_seam x s)
    ∙ ap (before x) (lines_joined t zs)

pub rest_stops : (s : List ℕ) → 0 < length (lines_of s).rest → shaped_length (lines_of s).rest ≡ 0
rest_stops = cut_induct shaped_length (λ s c. 0 < length c.rest → shaped_length c.rest ≡ 0) (λ h. absurd (omega arith)) (λ s e h. e) (λ s h k r. r)
