-- From C each call on the bytes of an inventory is the call on the inventory.
--
--   opened_on_bytes      an opening
--   changed_on_bytes     the calls that add, remove, set aside and take back
--   added_on_bytes       the addition of a volume, told the number of its code
--   counted_on_bytes     a count
--   queried_on_bytes     a query
-- Assumes nothing.
use mathlib.Core.Path.{◌≡◌, refl, sym, ap, ap₂, ◌∙◌, subst}
use mathlib.Core.Bool.{Bool, true, false, cond, ◌&&◌, and-false}
use mathlib.Core.List.{List, [], ◌++◌, append-nil}
use Prim.Native.Nat.{ℕ, ◌*◌, ◌^◌, ◌≤◌, ◌<◌}
use native.Mathlib.Decide.{ℕ_discrete, dec_le}
use native.Mathlib.Nat.{zero-lt-suc}
use native.Mathlib.Omega.{arith}
use borrow.Author.Tests.{eqb-true, eqb-false, leb-true, le-leb, lt-leb, eq-eqb, ne_eqb}
use lib.Dec.{eqb, leb}
use lib.ListN.{get_or, length, drop, drop_of_length-le}
use Rattle.lent_bytes.proofs.WritingLaws.{written_fits, unless_none, unless_refused, numbered_as}
use Rattle.codes.specs.declared.Code.{Code}
use Rattle.parity.specs.Coefficient.{rule_of}
use Rattle.inventory.specs.Model.{Change, add_file, remove_file, add_volume, remove_volume, quarantine, release}
use Rattle.inventory.specs.Query.{Queried}
use Rattle.inventory.specs.Steps.{zeros, fresh, refused_opening, open_step, outcome, accepted, with_files, with_volumes, after_change, change_step}
use Rattle.inventory.specs.declared.Inventory.{Inventory}
use Rattle.inventory.specs.Outcome.{Outcome}
use Rattle.computed_tests.specs.Numbers.{all_below, one_to}
use Rattle.computed_tests.proofs.Tests.{and_both}
use Rattle.inventory.proofs.Outcomes.{open_out_of_range, open_miscounted}
use Rattle.inventory.proofs.Openings.{nonempty_words}
use Rattle.little_endian.specs.Bytes.{numbers, numbers_at}
use Rattle.little_endian.proofs.NumberLists.{length-numbers, numbers_back}
use Rattle.inventory_bytes.specs.Claim.{Held}
use Rattle.inventory_bytes.specs.Inventories.{inventory_bytes, opened_by, stored_by}
use Rattle.inventory_bytes.proofs.BackLaws.{length_inventory, loaded_back}
use Rattle.number_sets.specs.Sets.{Words}
use Rattle.refusals.specs.Tests.{bare}
use Rattle.number_sets.proofs.Words.{words_none, words_inserted, words_removed}
use Rattle.par1_c.specs.Claim.{OnBytes, OpenedOnBytes, ChangedOnBytes, AddedOnBytes, CountedOnBytes, QueriedOnBytes}
use Rattle.par1_c.specs.Inventories.{changed_by}
use Rattle.par1_c.proofs.CallLaws.{changed_by_outcome, counted_same}
use Rattle.par1_c.proofs.CodeCalls.{by_code_lem}

-- an accepted outcome is stored, and a refused one leaves the bytes
stored : (n : ℕ) (changed s : Inventory) → Held changed → Held s → let o = accepted n changed s in (n, inventory_bytes o.next) ≡ stored_by o (inventory_bytes s)
unfolding stored_by
stored n changed s hc hs = by (eqb n 0) refl
  where
    b : List ℕ
    b = inventory_bytes s

    by : (z : Bool) → eqb n 0 ≡ z → (n, inventory_bytes (cond z changed s)) ≡ stored_by (outcome (cond z changed s) n) b
    by true z = let t : List ℕ = inventory_bytes changed in
        let none : n ≡ 0 = eqb-true n 0 z in
        let same : length t ≡ length b = length_inventory changed hc ∙ sym (length_inventory s hs) in
        let all : t ++ drop (length t) b ≡ t = ap (λ (l : List ℕ). t ++ l) (drop_of_length-le b {i = length t} (omega arith)) ∙ append-nil t in
        let fits = written_fits t b (omega arith) refl (sym all) in
        numbered_as {k = bare n} (ap bare none) (unless_none t b {n = bare n} refl none fits)
    by false z = numbered_as refl (unless_refused b b refl (eqb-false n 0 z) refl)

held_one : (n : ℕ) (changed s : Inventory) → Held changed → Held s → Held (accepted n changed s).next
held_one n changed s hc hs = by (eqb n 0)
  where
    by : (z : Bool) → Held (cond z changed s)
    by true = hc
    by false = hs

on_bytes : (step : Inventory → ℕ → Outcome) (s : Inventory) (k n : ℕ) (changed : Inventory) → step s k ≡ accepted n changed s → Held changed → Held s
    → OnBytes step s k
on_bytes step s k n changed e hc hs = let b : List ℕ = inventory_bytes s in
    let same = changed_by_outcome b step k (sym (loaded_back s hs)) (sym e) (stored n changed s hc hs) in
    record {
      gives = sym same ∙ ap (λ (o : Outcome). (o.number, inventory_bytes o.next)) (sym e);
      held = subst (λ (o : Outcome). Held o.next) (sym e) (held_one n changed s hc hs);
    }

-- the inventory with other words for a set
with_files_lem : (s : Inventory) (ws : List ℕ) → Held s → Words ws → Held (with_files s ws)
with_files_lem s ws h w = record { small = h.small; files = w; volumes = h.volumes; nonempty = h.nonempty; quarantined = h.quarantined }

with_volumes_lem : (s : Inventory) (ws qs : List ℕ) → Held s → Words ws → Words qs → Held (with_volumes s ws qs)
with_volumes_lem s ws qs h w q = record { small = h.small; files = h.files; volumes = w; nonempty = h.nonempty; quarantined = q }

held_change : (c : Change) (s : Inventory) (k : ℕ) → Held s → Held (after_change c s k)
unfolding after_change
held_change add_file s k h = with_files_lem s _ h (words_inserted k s.files h.files)
held_change remove_file s k h = with_files_lem s _ h (words_removed k s.files h.files)
held_change (add_volume c) s k h = with_volumes_lem s _ _ h (words_inserted k s.volumes h.volumes) h.quarantined
held_change remove_volume s k h = with_volumes_lem s _ _ h (words_removed k s.volumes h.volumes) (words_removed k s.quarantined h.quarantined)
held_change quarantine s k h = with_volumes_lem s _ _ h (words_removed k s.volumes h.volumes) (words_inserted k s.quarantined h.quarantined)
held_change release s k h = with_volumes_lem s _ _ h (words_inserted k s.volumes h.volumes) (words_removed k s.quarantined h.quarantined)

pub changed_on_bytes : ChangedOnBytes
unfolding change_step
changed_on_bytes s h c k = on_bytes (change_step c) s k _ _ refl (held_change c s k h) h

pub added_on_bytes : AddedOnBytes
added_on_bytes s h c v = let b : List ℕ = inventory_bytes s in
    let on = changed_on_bytes s h (add_volume c) v in
    (by_code_lem c (λ d. changed_by (change_step (add_volume d)) v b) b ∙ on.gives, on.held)

-- ---- counts and queries

pub counted_on_bytes : CountedOnBytes
counted_on_bytes s h out = sym (counted_same (inventory_bytes s) out (sym (loaded_back s h)) refl refl)

pub queried_on_bytes : QueriedOnBytes
queried_on_bytes s h f out r out' q = (
  q.answer,
  subst (λ (i : Inventory). Queried rule_of i f out q.answer out') (loaded_back s h) q.queried,
  q.number_is,
)

-- ---- opening

-- the sizes in bytes are read as they were
opened-same : (c : Code) (n : ℕ) (sizes : List ℕ) → ((j : ℕ) → get_or sizes j 0 < 2 ^ 64) → opened_by c n (numbers sizes) ≡ open_step c n sizes
unfolding opened_by
opened-same c n sizes small = elim (dec_le n 254) [
  | yes few ↦ elim (ℕ_discrete (length sizes) n) [
    | yes same ↦
        let whole : length (numbers sizes) ≡ 8 * n = omega (arith, length-numbers sizes) in
        let back : numbers_at n (numbers sizes) 0 ≡ sizes =
        ap₂ (λ (k : ℕ) (b : List ℕ). numbers_at k b 0) (sym same) (sym (append-nil (numbers sizes))) ∙ numbers_back [] sizes [] small in
        simp (le-leb n 254 few, eq-eqb (length (numbers sizes)) (8 * n) whole) (ap (open_step c n) back)
    | no other ↦
        simp (le-leb n 254 few, ne_eqb (length (numbers sizes)) (8 * n) (λ e. other (omega (arith, length-numbers sizes)))) (open_miscounted c n sizes other)
  ]
  | no many ↦
      let above : 254 < n = omega arith in
      simp (lt-leb n 254 above) (open_out_of_range c n sizes (simp (lt-leb n 254 above, and-false)))
]

pub held_opened : (c : Code) (n : ℕ) (sizes : List ℕ) → Held (open_step c n sizes).next
unfolding open_step
held_opened c n sizes = by (one_to 254 n && eqb (length sizes) n) (all_below n (λ i. leb (get_or sizes i 0) 16777216)) refl
  where
    none : Held zeros
    none = record {
      small = zero-lt-suc 18446744073709551615;
      files = words_none;
      volumes = words_none;
      nonempty = words_none;
      quarantined = words_none;
    }

    by : (a b : Bool) → (one_to 254 n && eqb (length sizes) n) ≡ a
        → Held (cond a (cond b (outcome (fresh c n sizes) 0) (refused_opening 1)) (refused_opening 10)).next
    by true true e = let few : n ≤ 254 = leb-true n 254 (and_both (leb 1 n) (leb n 254) (and_both (one_to 254 n) (eqb (length sizes) n) e).0).1 in
        record {
          small = omega arith;
          files = words_none;
          volumes = words_none;
          nonempty = nonempty_words sizes n;
          quarantined = words_none;
        }
    by true false e = none
    by false b e = none

pub opened_on_bytes : OpenedOnBytes
opened_on_bytes c n sizes out small = (
  by_code_lem c (λ d. stored_by (opened_by d n (numbers sizes)) out) out ∙ ap (λ (o : Outcome). stored_by o out) (opened-same c n sizes small),
  held_opened c n sizes,
)
