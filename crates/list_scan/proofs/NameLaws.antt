-- The name of an entry, byte by byte.
--
--   last_or d s                        the last element of s, d where it has none
--   last_snoc, last-drop, last_at     of a list with one element more; of what is left of a list; by its place
--   byte_before, byte_low, byte_high  name_byte: before the name, at the first byte of a unit, at its second
--   so_far n                           what is known of a name of which the bytes n came
--   name_step                         the same with a byte of the entry more
--   name_end                          where all of it came, the rule on the whole name
--   named_head, named_units           what is known with a run of bytes before the name, or of whole units
-- Assumes nothing.
use Rattle.std.proofs.Common.{◌≡◌, ℕ, zero, suc, ◌+◌, ◌-◌, ◌*◌, ◌%◌, ◌<◌, ◌≤◌, Bool, ◌&&◌, leb, List, [], ◌∷◌, ◌++◌, length, get_or, drop, sym, refl, ap, ◌∙◌, ap₂, arith, length-append, length-drop, drop_of_length-le, eq-eqb, ne_eqb, le-leb}
use mathlib.Core.Bool.{and-true, and-false, and_assoc}
use native.Mathlib.Decide.{ℕ_discrete, dec_lt}
use lib.Seq.{drop-append-le}
use borrow.Author.Tests.{lt-leb}
use Rattle.little_endian.specs.Bytes.{from_le, le_at}
use Rattle.lent_bytes.specs.Each.{each}
use Rattle.entries.specs.Entry.{name_of, units_of, unit_allowed, is_dot, units_allowed, only_dots, is_dots, name_allowed}
use Rattle.entries.proofs.NameLaws.{length_units, dots_short, dots_long, name_units_lem}
use Rattle.list_scan.specs.declared.NameSoFar.{NameSoFar}
use Rattle.list_scan.specs.Name.{name_start, name_unit, name_units, name_ended}
use Rattle.list_scan.specs.Scan.{name_byte}
use Rattle.list_scan.specs.Run.{named_after}

-- ---- the last element

abbrev pub last_or : ℕ → List ℕ → ℕ
last_or d [] = d
last_or d (a ∷ s) = last_or a s

pub last_snoc : (d : ℕ) (s : List ℕ) (b : ℕ) → last_or d (s ++ (b ∷ [])) ≡ b
last_snoc d [] b = refl
last_snoc d (a ∷ s) b = last_snoc a s b

last-drop : (k d e : ℕ) (s : List ℕ) → k < length s → last_or d (drop k s) ≡ last_or e s
last-drop k d e [] h = absurd (omega arith)
last-drop zero d e (a ∷ s) h = refl
last-drop (suc k) d e (a ∷ s) h = last-drop k d a s (omega arith)

pub last_at : (d : ℕ) (s : List ℕ) → 0 < length s → get_or s (length s - 1) 0 ≡ last_or d s
last_at d [] h = absurd (omega arith)
last_at d (a ∷ []) h = refl
last_at d (a ∷ b ∷ s) h = let n : length (a ∷ b ∷ s) - 1 ≡ suc (length (b ∷ s) - 1) = omega arith in
    ap (λ (k : ℕ). get_or (a ∷ b ∷ s) k 0) n ∙ last_at a (b ∷ s) (omega arith)

-- ---- a byte

module _ (named : NameSoFar) (at low b : ℕ) where
  byte_before : at < 56 → name_byte named at low b ≡ named
  unfolding name_byte
  byte_before h = simp (lt-leb 56 at h)

  pub byte_low : (at % 2 ≡ 1 → ⊥) → name_byte named at low b ≡ named
  unfolding name_byte
  byte_low even = simp (ne_eqb (at % 2) 1 even, and-false)

  pub byte_high : 56 ≤ at → at % 2 ≡ 1 → name_byte named at low b ≡ name_unit named (low + 256 * b)
  unfolding name_byte
  byte_high h odd = simp (le-leb 56 at h, eq-eqb (at % 2) 1 odd)

-- ---- the name of an entry, with a byte more

abbrev pub so_far : List ℕ → NameSoFar
so_far n = name_units name_start (units_of n)

-- what is known of two names is equal, where each part is
same_name : {a b c d : Bool} → a ≡ c → b ≡ d → ◌≡◌ {A = NameSoFar} (record { allowed = a; dots = b }) (record { allowed = c; dots = d })
same_name p q = ap₂ (λ (x y : Bool). record { allowed = x; dots = y }) p q

-- a test on each unit
module _ (f : ℕ → Bool) where
  abbrev passes : List ℕ → Bool
  passes n = each f (units_of n)

  units_low : (n : List ℕ) (b : ℕ) → length n % 2 ≡ 0 → passes (n ++ (b ∷ [])) ≡ passes n
  unfolding units_of le_at
  units_low [] b h = refl
  units_low (a ∷ []) b h = absurd (omega arith)
  units_low (a ∷ c ∷ n) b h = ap (λ (r : Bool). f (le_at 2 (a ∷ c ∷ n) 0) && r) (units_low n b (omega arith))

  units_high : (n : List ℕ) (d b : ℕ) → length n % 2 ≡ 1 → passes (n ++ (b ∷ [])) ≡ (passes n && f (last_or d n + 256 * b))
  unfolding units_of le_at from_le
  units_high [] d b h = absurd (omega arith)
  units_high (a ∷ []) d b h = let e : a + 256 * (b + 256 * 0) ≡ a + 256 * b = omega arith in and-true _ ∙ ap f e
  units_high (a ∷ c ∷ n) d b h = let u : Bool = f (le_at 2 (a ∷ c ∷ n) 0) in
      ap (λ (r : Bool). u && r) (units_high n c b (omega arith)) ∙ sym (and_assoc u (passes n) (f (last_or c n + 256 * b)))

pub name_step : (p : List ℕ) (b : ℕ) → name_byte (so_far (name_of p)) (length p) (last_or 0 p) b ≡ so_far (name_of (p ++ (b ∷ [])))
name_step p b = elim (dec_lt (length p) 56) [
  | yes h ↦
      let none : name_of p ≡ [] = drop_of_length-le p {i = 56} (omega arith) in
      let none_yet : name_of (p ++ (b ∷ [])) ≡ [] = drop_of_length-le (p ++ (b ∷ [])) {i = 56} (omega (arith, length-append p (b ∷ []))) in
      byte_before (so_far (name_of p)) (length p) (last_or 0 p) b h ∙ ap so_far (none ∙ sym none_yet)
  | no h ↦ in_name (omega arith) ∙ ap so_far (sym (drop-append-le 56 p (b ∷ []) (omega arith)))
]
  where
    in_name : 56 ≤ length p → name_byte (so_far (name_of p)) (length p) (last_or 0 p) b ≡ so_far (name_of p ++ (b ∷ []))
    in_name h = elim (ℕ_discrete (length p % 2) 1) [
      | yes odd ↦
          let half : length (name_of p) % 2 ≡ 1 = omega (arith, length-drop 56 p) in
          byte_high (so_far (name_of p)) (length p) (last_or 0 p) b h odd
          ∙ ap (λ (a : ℕ). name_unit (so_far (name_of p)) (a + 256 * b)) (sym (last-drop 56 0 0 p (omega arith)))
          ∙ sym (same_name (units_high unit_allowed (name_of p) 0 b half) (units_high is_dot (name_of p) 0 b half))
      | no even ↦
          let whole : length (name_of p) % 2 ≡ 0 = omega (arith, length-drop 56 p) in
          byte_low (so_far (name_of p)) (length p) (last_or 0 p) b even
          ∙ sym (same_name (units_low unit_allowed (name_of p) b whole) (units_low is_dot (name_of p) b whole))
    ]

-- ---- the whole name

dots_end : (us : List ℕ) (m : ℕ) → 0 < length us → m ≡ 56 + 2 * length us → (only_dots us && leb m 60) ≡ is_dots us
dots_end us m some size = elim (dec_lt 60 m) [
  | yes long ↦ simp (lt-leb m 60 long, and-false, dots_long us (omega arith))
  | no short ↦ simp (le-leb m 60 (omega arith), and-true, dots_short us some (omega arith))
]

pub name_end : (n : List ℕ) (m : ℕ) → 2 ≤ length n → length n % 2 ≡ 0 → m ≡ 56 + length n → name_ended (so_far n) m ≡ name_allowed n
unfolding name_ended
name_end n m low even size = simp (dots_end (units_of n) m (omega (arith, length_units n)) (omega (arith, length_units n)), name_units_lem)

-- ---- a run of bytes

pub named_head : (named : NameSoFar) (at low : ℕ) (l : List ℕ) → at + length l ≤ 56 → named_after named at low l ≡ named
unfolding named_after
named_head named at low [] h = refl
named_head named at low (b ∷ l) h = named_head (name_byte named at low b) (at + 1) b l (omega arith) ∙ byte_before named at low b (omega arith)

pub named_units : (named : NameSoFar) (at low : ℕ) (l : List ℕ) → 56 ≤ at → at % 2 ≡ 0 → length l % 2 ≡ 0
    → named_after named at low l ≡ name_units named (units_of l)
unfolding named_after units_of le_at from_le
named_units named at low [] h even whole = sym (same_name (and-true named.allowed) (and-true named.dots))
named_units named at low (a ∷ []) h even whole = absurd (omega arith)
named_units named at low (a ∷ b ∷ l) h even whole = let u : ℕ = a + 256 * (b + 256 * 0) in
    let unit : a + 256 * b ≡ u = omega arith in
    let first : name_byte named at low a ≡ named = byte_low named at low a (λ odd. omega arith) in
    let now : NameSoFar = name_byte (name_byte named at low a) (at + 1) a b in
    let second : now ≡ name_unit named u = cc (byte_high (name_byte named at low a) (at + 1) a b (omega arith) (omega arith)) in
    named_units now (at + 1 + 1) b l (omega arith) (omega arith) (omega arith)
    ∙ ap (λ (w : NameSoFar). name_units w (units_of l)) second
    ∙ same_name (and_assoc named.allowed (unit_allowed u) (units_allowed (units_of l))) (and_assoc named.dots (is_dot u) (only_dots (units_of l)))
