-- The request's example: two files of sizes 2 and 1.
--
--   undetermined       with volume 2 alone neither file is recoverable: two contents that are alike, and differ in both
--   second_back        with file 1 too the second is
--   example_prints     so `2 2 1`, `V 2`, `F 1`, `V 2` print `none`, `2`, `refused 11`
-- And a few logs that are refused, computed.
-- Assumes nothing.
use mathlib.Core.Path.{◌≡◌, refl, sym, ap, ap₂, ◌∙◌, subst}
use mathlib.Core.Bool.{Bool, true, false, cond, ◌||◌, true≢false, false≢true}
use mathlib.Core.List.{List, [], ◌∷◌, ◌++◌, flatten}
use Prim.Native.Nat.{ℕ, zero, suc, ◌<◌, ◌≤◌}
use native.Mathlib.Omega.{arith}
use lib.Bits.{bit_xor}
use lib.Dec.{eqb}
use lib.ListN.{length, get_or}
use lib.Seq.{ext_get_or}
use borrow.Author.Tests.{eqb-true}
use Rattle.computed_tests.proofs.Tests.{one_to_inside}
use Rattle.gf256.specs.Polynomial.{poly_product, sum_below, coeff, remainder}
use Rattle.gf256.specs.Field.{product, power}
use Rattle.gf256.proofs.Xor.{xor_twice}
use Rattle.gf256.proofs.Products.{product_assoc, product_one_l}
use Rattle.parity.specs.Coefficient.{coefficient}
use Rattle.parity.specs.Parity.{Contents, is_file, greatest, parity_byte}
use Rattle.codes.specs.declared.Code.TheVariants.{Powers}
use Rattle.recovery.specs.Recoverable.{State, IsContents, Alike, Recoverable}
use Rattle.inventory.specs.Model.{add_file, add_volume, change, opened, insert, number_of, changed, next}
use Rattle.inventory.specs.Steps.{open_step}
use Rattle.inventory.specs.Claim.{size_in}
use Rattle.text.specs.Ascii.{ascii}
use Rattle.text.specs.Decimal.{decimal, decimal_in, is_decimal, all_digits, value_of}
use Rattle.text.specs.TextLines.{line_length, words_of}
use Rattle.cut_lists.specs.Pieces.{cut, cut_in}
use Rattle.replay.specs.Log.{all_decimal, is_letter, change_of, is_event_line}
use Rattle.replay.specs.Lines.{refused_line, files_of, numbers_line}
use Rattle.replay.specs.Replay.{Decides, event_line, event_lines, opened_lines, log_lines, replay_of}
use Rattle.replay.specs.Claim.{Arrival, file_added, volume_added, log_text, lines_of, ExamplePrints}
use Rattle.replay.proofs.Logs.{log_replayed}

abbrev size : ℕ → ℕ
size = size_in (2 ∷ 1 ∷ [])

-- volume 2 present, and file 1 too
abbrev t₁ : State
t₁ = record { n = 2; size = size; files = λ f. false; volumes = insert 2 (λ v. false); quarantined = λ v. false; code = Powers }

abbrev t₂ : State
t₂ = record { n = 2; size = size; files = insert 1 (λ f. false); volumes = insert 2 (λ v. false); quarantined = λ v. false; code = Powers }

-- what holds of the two files holds of each
each_file : (P : ℕ → Type 0) → P 1 → P 2 → (f : ℕ) → is_file 2 f ≡ true → P f
each_file P a b zero e = absurd (let l = one_to_inside 2 zero e in omega arith)
each_file P a b (suc zero) e = a
each_file P a b (suc (suc zero)) e = b
each_file P a b (suc (suc (suc f))) e = absurd (let l = one_to_inside 2 (suc (suc (suc f))) e in omega arith)

-- ---- volume 2 alone

bytes_of : (a b : ℕ) → a < 256 → b < 256 → (p : ℕ) → get_or (a ∷ b ∷ []) p 0 < 256
bytes_of a b h k zero = h
bytes_of a b h k (suc zero) = k
bytes_of a b h k (suc (suc p)) = omega arith

byte_of : (a : ℕ) → a < 256 → (p : ℕ) → get_or (a ∷ []) p 0 < 256
byte_of a h zero = h
byte_of a h (suc p) = omega arith

-- contents of two bytes and one
two : ℕ → ℕ → Contents
two a b f = cond (eqb f 1) (a ∷ 0 ∷ []) (b ∷ [])

two_contents : (a b : ℕ) → a < 256 → b < 256 → IsContents t₁ (two a b)
unfolding two
two_contents a b h k =
    each_file (λ f. (length (two a b f) ≡ size f) × ((p : ℕ) → get_or (two a b f) p 0 < 256))
    (refl, bytes_of a 0 h (omega arith)) (refl, byte_of b k)

only : (v : ℕ) → (eqb v 2 || false) ≡ true → v ≡ 2
only v e = go (eqb v 2) refl e
  where
    go : (b : Bool) → eqb v 2 ≡ b → (b || false) ≡ true → v ≡ 2
    go true h e = eqb-true v 2 h
    go false h e = absurd (false≢true e)

-- 1 times 2 is 2 times 1
same-parity : (p : ℕ) → p < 2 → parity_byte coefficient 2 (two 0 0) 2 p ≡ parity_byte coefficient 2 (two 2 1) 2 p
unfolding two parity_byte coefficient power product poly_product sum_below coeff remainder
same-parity zero l = refl
same-parity (suc zero) l = refl
same-parity (suc (suc p)) l = absurd (omega arith)

alike : Alike coefficient t₁ (two 0 0) (two 2 1)
unfolding greatest
alike = record {
  same_files = λ f i e. absurd (false≢true e);
  same-parity = λ v i e p l.
      subst (λ (v : ℕ). parity_byte coefficient 2 (two 0 0) v p ≡ parity_byte coefficient 2 (two 2 1) v p) (sym (only v e)) (same-parity p l);
}

undetermined : (f : ℕ) → is_file 2 f ≡ true → ¬ Recoverable coefficient t₁ f
unfolding two
undetermined f i r =
    each_file (λ f. two 0 0 f ≡ two 2 1 f → ⊥)
    (λ e. let z : ◌≡◌ {A = ℕ} 0 2 = ap (λ (l : List ℕ). get_or l 0 0) e in omega arith)
    (λ e. let z : ◌≡◌ {A = ℕ} 0 1 = ap (λ (l : List ℕ). get_or l 0 0) e in omega arith) f i
    (r (two 0 0) (two 2 1) (two_contents 0 0 (omega arith) (omega arith)) (two_contents 2 1 (omega arith) (omega arith)) alike)

-- ---- file 1 too

inverse_of_2 : product 142 2 ≡ 1
unfolding product poly_product sum_below coeff remainder
inverse_of_2 = refl

of_2 : coefficient 2 2 ≡ 2
unfolding coefficient power product poly_product sum_below coeff remainder
of_2 = refl

-- byte 0 of volume 2 without the part of file 1
cancelled : (X Y : Contents) → X 1 ≡ Y 1 → parity_byte coefficient 2 X 2 0 ≡ parity_byte coefficient 2 Y 2 0
    → product 2 (get_or (X 2) 0 0) ≡ product 2 (get_or (Y 2) 0 0)
unfolding parity_byte sum_below
cancelled X Y first e = let a : ℕ = bit_xor 0 (product (coefficient 1 2) (get_or (X 1) 0 0)) in
    let b : ℕ = bit_xor 0 (product (coefficient 1 2) (get_or (Y 1) 0 0)) in
    let same : a ≡ b = ap (λ (l : List ℕ). bit_xor 0 (product (coefficient 1 2) (get_or l 0 0))) first in
    let x : ℕ = product (coefficient 2 2) (get_or (X 2) 0 0) in
    let y : ℕ = product (coefficient 2 2) (get_or (Y 2) 0 0) in
    let z : x ≡ y = sym (xor_twice a x) ∙ ap (bit_xor a) e ∙ ap (λ (c : ℕ). bit_xor a (bit_xor c y)) (sym same) ∙ xor_twice a y in
    ap (λ (k : ℕ). product k (get_or (X 2) 0 0)) (sym of_2) ∙ z ∙ ap (λ (k : ℕ). product k (get_or (Y 2) 0 0)) of_2

halved : (x : ℕ) → x < 256 → product 142 (product 2 x) ≡ x
halved x h = sym (product_assoc 142 2 x (omega arith) (omega arith) h) ∙ ap (λ (k : ℕ). product k x) inverse_of_2 ∙ product_one_l x h

second_back : Recoverable coefficient t₂ 2
unfolding greatest
second_back X Y h_x h_y a = let (lx, bx) = h_x 2 refl in
    let (ly, by) = h_y 2 refl in
    let first : X 1 ≡ Y 1 = a.same_files 1 refl refl in
    let e = a.same-parity 2 refl refl 0 (omega arith) in
    let twice : product 2 (get_or (X 2) 0 0) ≡ product 2 (get_or (Y 2) 0 0) = cancelled X Y first e in
    let same : get_or (X 2) 0 0 ≡ get_or (Y 2) 0 0 =
    sym (halved (get_or (X 2) 0 0) (bx 0)) ∙ ap (product 142) twice ∙ halved (get_or (Y 2) 0 0) (by 0) in
    ext_get_or 0 (X 2) (Y 2) (lx ∙ sym ly)
    (λ p l. let z : p ≡ 0 = omega (arith, lx) in subst (λ (p : ℕ). get_or (X 2) p 0 ≡ get_or (Y 2) p 0) (sym z) same)

-- ---- the text

first_next : next (opened Powers 2 size) (change (add_volume Powers) 2) ≡ t₁
unfolding next number_of changed
first_next = refl

second_next : next t₁ (change add_file 1) ≡ t₂
unfolding next number_of changed
second_next = refl

module _ (d : State → ℕ → Bool) (D : Decides coefficient d) where
  none_yet : (f : ℕ) → is_file 2 f ≡ true → d t₁ f ≡ false
  none_yet f i = go (d t₁ f) refl
    where
      go : (b : Bool) → d t₁ f ≡ b → d t₁ f ≡ false
      go true e = absurd (undetermined f i ((D t₁ (omega arith) f).0 e).2)
      go false e = e

  present-not : d t₂ 1 ≡ false
  present-not = go (d t₂ 1) refl
    where
      go : (b : Bool) → d t₂ 1 ≡ b → d t₂ 1 ≡ false
      go true e = absurd (true≢false ((D t₂ (omega arith) 1).0 e).1)
      go false e = e

  second_now : d t₂ 2 ≡ true
  second_now = (D t₂ (omega arith) 2).1 (refl, refl, second_back)

  first_line : event_line d (opened Powers 2 size) (add_volume Powers) 2 ≡ ascii "none\n"
  unfolding event_line next number_of changed files_of
  first_line = ap₂ (λ (a b : Bool). numbers_line (([] ++ cond a (1 ∷ []) []) ++ cond b (2 ∷ []) [])) (none_yet 1 refl) (none_yet 2 refl)

  second_line : event_line d t₁ add_file 1 ≡ ascii "2\n"
  unfolding event_line next number_of changed files_of decimal decimal_in flatten
  second_line = ap₂ (λ (a b : Bool). numbers_line (([] ++ cond a (1 ∷ []) []) ++ cond b (2 ∷ []) [])) present-not second_now

  third_line : event_line d t₂ (add_volume Powers) 2 ≡ ascii "refused 11\n"
  unfolding event_line number_of refused_line decimal decimal_in
  third_line = refl

  abbrev events : List (Arrival × ℕ)
  events = (volume_added, 2) ∷ (file_added, 1) ∷ (volume_added, 2) ∷ []

  the_log : ascii "2 2 1\nV 2\nF 1\nV 2\n" ≡ log_text 2 (2 ∷ 1 ∷ []) events ++ []
  unfolding decimal decimal_in flatten
  the_log = refl

  opens : (open_step Powers 2 (2 ∷ 1 ∷ [])).number ≡ 0
  unfolding open_step
  opens = refl

  the_lines : lines_of d (opened Powers 2 size) events ≡ ascii "none\n2\nrefused 11\n"
  unfolding lines_of
  the_lines =
      ap₂ (λ (a b : List ℕ). a ++ b) first_line
      (ap (λ (t : State). event_line d t add_file 1 ++ (event_line d (next t (change add_file 1)) (add_volume Powers) 2 ++ [])) first_next
      ∙ ap₂ (λ (a b : List ℕ). a ++ b) second_line
      (ap (λ (t : State). event_line d t (add_volume Powers) 2 ++ []) second_next ∙ ap (λ (l : List ℕ). l ++ []) third_line))

pub example_prints : ExamplePrints
example_prints d D =
    ap (replay_of d) (the_log d D)
    ∙ log_replayed d 2 (2 ∷ 1 ∷ []) (events d D) [] (opens d D) (λ e r z. never (ap length z))
    (subst (λ (l : List ℕ). length l ≤ 65536) (the_log d D) (omega arith))
    ∙ ap (λ (l : List ℕ). l ++ []) (the_lines d D)
  where
    never : {n : ℕ} → 0 ≡ suc n → ⊥
    never z = omega arith

-- ---- refusals, by whatever test

module _ (d : State → ℕ → Bool) where
  -- one size for two files
  sizes_missing : replay_of d (ascii "2 99999999999999999999\n") ≡ ascii "refused 10\n"
  unfolding replay_of log_lines opened_lines event_lines event_line cut cut_in line_length words_of all_decimal is_decimal all_digits value_of open_step is_event_line is_letter change_of number_of next refused_line decimal decimal_in
  sizes_missing = refl

  size_too_large : replay_of d (ascii "1 99999999999999999999\n") ≡ ascii "refused 1\n"
  unfolding replay_of log_lines opened_lines event_lines event_line cut cut_in line_length words_of all_decimal is_decimal all_digits value_of open_step is_event_line is_letter change_of number_of next refused_line decimal decimal_in
  size_too_large = refl

  -- the shape is tested first
  shape_first : replay_of d (ascii "1 99999999999999999999 x\n") ≡ ascii "refused 28\n"
  unfolding replay_of log_lines opened_lines event_lines event_line cut cut_in line_length words_of all_decimal is_decimal all_digits value_of open_step is_event_line is_letter change_of number_of next refused_line decimal decimal_in
  shape_first = refl

  -- the replay goes on
  number_0 : replay_of d (ascii "1 1\nF 0\nF 99999999999999999999\n") ≡ ascii "refused 10\nrefused 10\n"
  unfolding replay_of log_lines opened_lines event_lines event_line cut cut_in line_length words_of all_decimal is_decimal all_digits value_of open_step is_event_line is_letter change_of number_of next refused_line decimal decimal_in
  number_0 = refl

  -- and ends
  leading_zero : replay_of d (ascii "1 1\nF 00\nF 0\n") ≡ ascii "refused 28\n"
  unfolding replay_of log_lines opened_lines event_lines event_line cut cut_in line_length words_of all_decimal is_decimal all_digits value_of open_step is_event_line is_letter change_of number_of next refused_line decimal decimal_in
  leading_zero = refl

  unended : replay_of d (ascii "1 1\nF 0\nF 0") ≡ ascii "refused 10\nrefused 28\n"
  unfolding replay_of log_lines opened_lines event_lines event_line cut cut_in line_length words_of all_decimal is_decimal all_digits value_of open_step is_event_line is_letter change_of number_of next refused_line decimal decimal_in
  unended = refl

  no_line : replay_of d (ascii "1 1") ≡ ascii "refused 28\n"
  unfolding replay_of log_lines opened_lines event_lines event_line cut cut_in line_length words_of all_decimal is_decimal all_digits value_of open_step is_event_line is_letter change_of number_of next refused_line decimal decimal_in
  no_line = refl
