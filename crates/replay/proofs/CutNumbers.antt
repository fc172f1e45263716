-- Numbers cut to 64 bits are out of range as they were (document 02, 2026-11: "A number too large to hold is 1 as a size and 10 elsewhere").
--
--   change_far, change_cut     a change of a number out of every range, and of one that is cut
--   open_many                  more sizes than files can be
--   open_cut                   an opening by numbers that are cut
-- Assumes nothing.
use mathlib.Core.Path.{◌≡◌, refl, sym, ap, ap₂, ◌∙◌}
use mathlib.Core.Bool.{Bool, true, false, cond, ◌&&◌}
use mathlib.Core.List.{List}
use Prim.Native.Nat.{ℕ, ◌≤◌, ◌<◌, ◌-◌, min}
use native.Mathlib.Omega.{arith}
use native.Mathlib.Decide.{ℕ_discrete, dec_le}
use lib.Dec.{leb, eqb}
use lib.ListN.{length, get_or}
use lib.Seq.{ext_get_or}
use borrow.Author.Tests.{leb-true}
use Rattle.computed_tests.specs.Numbers.{one_to, all_below}
use Rattle.computed_tests.proofs.Tests.{one_to_outside, one_to_inside, all_at}
use Rattle.text.specs.Buffer.{usize_max}
use Rattle.codes.specs.declared.Code.TheVariants.{Powers}
use Rattle.inventory.specs.Model.{Change, add_file, remove_file, add_volume, remove_volume, quarantine, release}
use Rattle.inventory.specs.Steps.{is_inventory, if_inventory, in_range, change_number, change_step, outcome, refused_opening, open_step, fresh}
use Rattle.inventory.specs.declared.Inventory.{Inventory}
use Rattle.inventory.proofs.ValidInventories.{few_files}
use Rattle.inventory.proofs.RefusedCalls.{change_refused}
use Rattle.inventory.proofs.Outcomes.{open_out_of_range, open_miscounted}

-- ---- changes

far : (c : Change) (n k : ℕ) → n ≤ 254 → 255 < k → in_range c n k ≡ false
unfolding in_range
far add_file n k l h = one_to_outside n k (λ a b. omega arith)
far remove_file n k l h = one_to_outside n k (λ a b. omega arith)
far (add_volume c) n k l h = one_to_outside (255 - n) k (λ a b. omega arith)
far remove_volume n k l h = one_to_outside (255 - n) k (λ a b. omega arith)
far quarantine n k l h = one_to_outside (255 - n) k (λ a b. omega arith)
far release n k l h = one_to_outside (255 - n) k (λ a b. omega arith)

change_far : (c : Change) (s : Inventory) (k : ℕ) → 255 < k → change_step c s k ≡ outcome s 10
unfolding change_step if_inventory change_number
change_far c s k h = go (is_inventory s) refl
  where
    go : (b : Bool) → is_inventory s ≡ b → change_step c s k ≡ outcome s 10
    go true e = simp (e, far c s.n k (few_files s e) h)
    go false e = change_refused s e c k

pub change_cut : (c : Change) (s : Inventory) (k : ℕ) → change_step c s (min k usize_max) ≡ change_step c s k
change_cut c s k =
    elim (dec_le k usize_max) [
      | yes l ↦ let e : min k usize_max ≡ k = omega arith in ap (change_step c s) e
      | no q ↦ change_far c s (min k usize_max) (omega arith) ∙ sym (change_far c s k (omega arith))
    ]

-- ---- openings

pub open_many : (n : ℕ) (sizes : List ℕ) → 254 < length sizes → refused_opening 10 ≡ open_step Powers n sizes
open_many n sizes l = go (one_to 254 n) refl
  where
    go : (b : Bool) → one_to 254 n ≡ b → refused_opening 10 ≡ open_step Powers n sizes
    go true e = let i = one_to_inside 254 n e in open_miscounted Powers n sizes (λ z. omega arith)
    go false e = open_out_of_range Powers n sizes e

module _ (n n' : ℕ) (sizes sizes' : List ℕ) (first : n' ≡ min n usize_max) (counted : length sizes' ≡ length sizes)
    (each : (i : ℕ) → i < length sizes → get_or sizes' i 0 ≡ min (get_or sizes i 0) usize_max) where
  abbrev fits : List ℕ → ℕ → Bool
  fits ss i = leb (get_or ss i 0) 16777216

  -- sizes within the limit are not cut
  whole : length sizes ≡ n → n' ≡ n → ((i : ℕ) → i < n → min (get_or sizes i 0) usize_max ≤ 16777216) → open_step Powers n' sizes' ≡ open_step Powers n sizes
  whole c e small =
      ap₂ (open_step Powers) e
      (ext_get_or 0 sizes' sizes counted
      (λ i l. let s = small i (omega arith) in each i (omega arith) ∙ (let z : min (get_or sizes i 0) usize_max ≡ get_or sizes i 0 = omega arith in z)))

  refused_both : length sizes ≡ n → n' ≡ n → all_below n (fits sizes) ≡ false → all_below n (fits sizes') ≡ false → open_step Powers n' sizes' ≡ open_step Powers n sizes
  unfolding open_step
  refused_both c e a a' =
      ap (λ (k : ℕ). open_step Powers k sizes') e
      ∙ ap₂ (λ (k : ℕ) (b : Bool). cond (one_to 254 n && eqb k n) (cond b (outcome (fresh Powers n sizes') 0) (refused_opening 1)) (refused_opening 10)) counted a'
      ∙ sym (ap (λ (b : Bool). cond (one_to 254 n && eqb (length sizes) n) (cond b (outcome (fresh Powers n sizes) 0) (refused_opening 1)) (refused_opening 10)) a)

  by_sizes : length sizes ≡ n → n' ≡ n → (b b' : Bool) → all_below n (fits sizes) ≡ b → all_below n (fits sizes') ≡ b' → open_step Powers n' sizes' ≡ open_step Powers n sizes
  by_sizes c e true b' a a' = whole c e (λ i l. let s = leb-true (get_or sizes i 0) 16777216 (all_at n (fits sizes) a i l) in omega arith)
  by_sizes c e false true a a' =
      whole c e (λ i l. let s = leb-true (get_or sizes' i 0) 16777216 (all_at n (fits sizes') a' i l) in omega (arith, each i (omega arith)))
  by_sizes c e false false a a' = refused_both c e a a'

  pub open_cut : open_step Powers n' sizes' ≡ open_step Powers n sizes
  open_cut = go (one_to 254 n) refl
    where
      go : (b : Bool) → one_to 254 n ≡ b → open_step Powers n' sizes' ≡ open_step Powers n sizes
      go true e = let i = one_to_inside 254 n e in
          let z : n' ≡ n = omega (arith, first) in
          elim (ℕ_discrete (length sizes) n) [
            | yes c ↦ by_sizes c z (all_below n (fits sizes)) (all_below n (fits sizes')) refl refl
            | no q ↦ sym (open_miscounted Powers n' sizes' (λ h. q (omega (arith, counted)))) ∙ open_miscounted Powers n sizes q
          ]
      go false e = sym (open_out_of_range Powers n' sizes' outside) ∙ open_out_of_range Powers n sizes e
        where
          outside : one_to 254 n' ≡ false
          outside =
              elim (dec_le n usize_max) [
                | yes l ↦ let z : n' ≡ n = omega (arith, first) in ap (one_to 254) z ∙ e
                | no q ↦ one_to_outside 254 n' (λ a b. omega (arith, first))
              ]
