-- What the first entry of a list is, from the tests in turn, and what the answer tells.
--
--   Sized n m, sized   an entry of n bytes may stand at the front of m bytes, in numbers
--   some_left, first_end, first_some, first_size, first_file_size, first_name, first_entry     first_of, by what the tests found
--   length_sized       an entry that keeps every rule has 58 bytes or more, and lies in the list
--   IsEntry, IsFault, is_end, is_entry, is_fault, length_end      what each answer of first_of tells
-- Assumes nothing.
use Rattle.std.specs.Prelude.{Some, None, Ok, Err}
use mathlib.Core.Path.{◌≡◌, refl, sym, ap, ◌∙◌, subst}
use mathlib.Core.Bool.{Bool, true, false, cond, ◌&&◌}
use mathlib.Core.Logic.{inl, inr}
use mathlib.Core.List.{List, [], ◌∷◌}
use Prim.Native.Nat.{ℕ, ◌%◌, ◌≤◌, ◌<◌}
use native.Mathlib.Nat.{eq-zero-or-pos}
use native.Mathlib.Omega.{arith}
use lib.Dec.{leb, eqb}
use lib.ListN.{length, take}
use lib.Seq.{length-take-le}
use borrow.Author.Tests.{eqb-false, leb-true, eqb-true}
use Rattle.computed_tests.proofs.Tests.{and_both}
use Rattle.entries.specs.Entry.{entry_size, status_of, file_size_of, name_of, length_of}
use Rattle.entries.specs.Entry.{name_allowed, file_size_allowed, entry_size_allowed, body_allowed, entry_allowed}
use Rattle.entries.specs.Walk.{Item, fault_of, item_of, first_of}
use Rattle.entries.specs.declared.Fault.{Fault}
use Rattle.entries.specs.declared.Fault.TheVariants as fault
use Rattle.entries.specs.declared.Entry.{Entry}

-- ---- the tests, as facts

pub record Sized (n m : ℕ) : Type 0 where
  pub even : n % 2 ≡ 0
  pub low : 58 ≤ n
  pub high : n ≤ m

pub sized : (n m : ℕ) → entry_size_allowed n m ≡ true → Sized n m
unfolding entry_size_allowed
sized n m e = let both = and_both (eqb (n % 2) 0 && leb 58 n) (leb n m) e in
    let two = and_both (eqb (n % 2) 0) (leb 58 n) both.0 in
    record { even = eqb-true _ _ two.0; low = leb-true _ _ two.1; high = leb-true _ _ both.1 }

-- ---- first_of, by what the tests found

pub first_end : (s : List ℕ) → length s ≡ 0 → first_of s ≡ Ok None
unfolding first_of
first_end [] h = refl
first_end (b ∷ s) h = absurd (omega arith)

pub some_left : (s : List ℕ) → eqb (length s) 0 ≡ false → 0 < length s
some_left s z = let some = eqb-false _ _ z in omega arith

pub first_some : (s : List ℕ) → 0 < length s
    → first_of s ≡ cond (entry_allowed s) (item_of (take (entry_size s) s)) (Err (fault_of s))
unfolding first_of
first_some [] h = absurd (omega arith)
first_some (b ∷ s) h = refl

module _ (s : List ℕ) (some : 0 < length s) {n : ℕ} (size_is : n ≡ entry_size s) where
  pub first_size : entry_size_allowed n (length s) ≡ false → first_of s ≡ Err fault.Size
  unfolding entry_allowed fault_of
  first_size z = first_some s some ∙ simp (sym size_is, z)

  module _ (size : entry_size_allowed n (length s) ≡ true) where
    pub first_file_size : file_size_allowed (file_size_of (take n s)) ≡ false → first_of s ≡ Err fault.FileSize
    unfolding entry_allowed body_allowed fault_of
    first_file_size f = first_some s some ∙ simp (sym size_is, size, f)

    module _ (file_size : file_size_allowed (file_size_of (take n s)) ≡ true) where
      pub first_name : name_allowed (name_of (take n s)) ≡ false → first_of s ≡ Err fault.Name
      unfolding entry_allowed body_allowed fault_of
      first_name r = first_some s some ∙ simp (sym size_is, size, file_size, r)

      pub first_entry : name_allowed (name_of (take n s)) ≡ true → first_of s ≡ item_of (take n s)
      unfolding entry_allowed body_allowed
      first_entry r = first_some s some ∙ simp (sym size_is, size, file_size, r)

-- ---- what each answer tells

-- s begins with an entry of n bytes
pub record IsEntry (s : List ℕ) (n status size : ℕ) : Type 0 where
  pub allowed : entry_allowed s ≡ true
  pub length_is : length_of s ≡ n
  pub status_is : status ≡ status_of (take n s)
  pub size_is : size ≡ file_size_of (take n s)
  pub even : n % 2 ≡ 0
  pub low : 58 ≤ n
  pub high : n ≤ length s

-- s begins with an entry that breaks a rule
pub record IsFault (s : List ℕ) (f : Fault) : Type 0 where
  pub some : 0 < length s
  pub length_zero : length_of s ≡ 0
  pub fault_is : f ≡ fault_of s

allowed_sized : (s : List ℕ) → entry_allowed s ≡ true → Sized (entry_size s) (length s)
unfolding entry_allowed
allowed_sized s e = sized (entry_size s) (length s) (and_both (entry_size_allowed (entry_size s) (length s)) _ e).0

pub length_sized : (s : List ℕ) → 0 < length_of s → (entry_allowed s ≡ true) × (58 ≤ length_of s) × (length_of s ≤ length s)
unfolding length_of
length_sized s found = by (entry_allowed s) refl found
  where
    by : (b : Bool) → b ≡ entry_allowed s → 0 < cond b (entry_size s) 0
        → (b ≡ true) × (58 ≤ cond b (entry_size s) 0) × (cond b (entry_size s) 0 ≤ length s)
    by true e h = let z = allowed_sized s (sym e) in (refl, z.low, z.high)
    by false e h = absurd (omega arith)

no_length : (s : List ℕ) → entry_allowed s ≡ false → length_of s ≡ 0
unfolding length_of
no_length s e = simp e

entry_is : (s : List ℕ) → entry_allowed s ≡ true
    → IsEntry s (length (take (entry_size s) s)) (status_of (take (entry_size s) s)) (file_size_of (take (entry_size s) s))
unfolding length_of
entry_is s e = let z = allowed_sized s e in
    let n : length (take (entry_size s) s) ≡ entry_size s = length-take-le (entry_size s) s z.high in
    record {
      allowed = e;
      length_is = simp e (sym n);
      status_is = rw n refl;
      size_is = rw n refl;
      even = rw n z.even;
      low = rw n z.low;
      high = rw n z.high;
    }

-- the answers, each with what it tells
data View (s : List ℕ) : Item → Type 0 where
  view_end : s ≡ [] → View s (Ok None)
  view_entry : {e : Entry} → IsEntry s e.length e.status e.size → View s (Ok (Some e))
  view_fault : {f : Fault} → IsFault s f → View s (Err f)

view : (s : List ℕ) → View s (first_of s)
view [] = subst (View []) (sym (first_end [] refl)) (view_end refl)
view (b ∷ s) = by (b ∷ s) (omega arith) (entry_allowed (b ∷ s)) refl
  where
    by : (s : List ℕ) → 0 < length s → (t : Bool) → t ≡ entry_allowed s → View s (first_of s)
    by s h true t = let e : first_of s ≡ item_of (take (entry_size s) s) = first_some s h ∙ simp (sym t) in
        subst (View s) (sym e) (view_entry (entry_is s (sym t)))
    by s h false t = let e : first_of s ≡ Err (fault_of s) = first_some s h ∙ simp (sym t) in
        let n : length_of s ≡ 0 = no_length s (sym t) in
        subst (View s) (sym e) (view_fault (record { some = h; length_zero = n; fault_is = refl }))

module _ {s : List ℕ} where
  pub is_end : Ok None ≡ first_of s → s ≡ []
  is_end e = by (subst (View s) (sym e) (view s))
    where
      by : View s (Ok None) → s ≡ []
      by (view_end z) = z

  pub is_entry : {e : Entry} → Ok (Some e) ≡ first_of s → IsEntry s e.length e.status e.size
  is_entry {e} is = by (subst (View s) (sym is) (view s))
    where
      by : View s (Ok (Some e)) → IsEntry s e.length e.status e.size
      by (view_entry i) = i

  pub is_fault : {f : Fault} → Err f ≡ first_of s → IsFault s f
  is_fault {f} e = by (subst (View s) (sym e) (view s))
    where
      by : View s (Err f) → IsFault s f
      by (view_fault i) = i

-- no entry stands where the list is over, and where the answer is a fault
pub length_end : (s : List ℕ) → Ok None ≡ first_of s → length_of s ≡ 0
length_end s e = elim (eq-zero-or-pos (length_of s)) [
  | inl z ↦ z
  | inr some ↦ let z = length_sized s some in absurd (omega (arith, z.1, z.2, ap length (is_end e)))
]
