-- Which lines there are on entries.
--
--   in_lacking, lacking_in     of entries that one side lacks: one at each place
--   all_iff         of two lists: an entry as a whole, exactly where one of them alone has it
--   entry_iff       and a field of an entry, exactly where both have it and the bytes of the field differ
-- Assumes nothing.
use mathlib.Core.Path.{◌≡◌, sym, ap, subst}
use mathlib.Core.List.Memᴰ
use mathlib.Core.List.{List, [], ◌∷◌, ◌++◌, map, Memᴰ}
use mathlib.Core.Logic.{◌⊎◌, ◌↔◌, inl, inr, ⊎_elim}
use Prim.Native.Nat.{ℕ, suc, ◌+◌, ◌-◌, ◌≤◌, ◌<◌}
use native.Mathlib.Nat.{eq-or-lt_of_le}
use native.Mathlib.Omega.{arith}
use lib.ListN.{length, get_or}
use Rattle.comparing.specs.Claim.{OnlyOne}
use Rattle.comparing.specs.Lines.{EntryField, entry, all}
use Rattle.comparing.specs.Differences.{entry_table, differing, all_lines, entry_lines}
use Rattle.comparing.proofs.FieldLaws.{entry_bytes, entry_table_lem, differing_iff}

-- ---- entries that one side lacks

in_lacking : (p k : ℕ) (es : List (List ℕ)) → Memᴰ (all p) (all_lines k es) → (k ≤ p) × (p < k + length es)
unfolding all_lines
in_lacking p k [] m = absurd (Memᴰ.not-nil m)
in_lacking p k (e ∷ es) m = by (in_lacking p (suc k) es) (Memᴰ.cases_cons m)
  where
    by : (Memᴰ (all p) (all_lines (suc k) es) → (suc k ≤ p) × (p < suc k + length es))
        → (all p ≡ all k) ⊎ Memᴰ (all p) (all_lines (suc k) es) → (k ≤ p) × (p < k + suc (length es))
    by r (inl e) = let is : p ≡ k = cc in (omega arith, omega arith)
    by r (inr m) = let h = r m in (omega arith, omega arith)

lacking_in : (p k : ℕ) (es : List (List ℕ)) → k ≤ p → p < k + length es → Memᴰ (all p) (all_lines k es)
unfolding all_lines
lacking_in p k [] low high = absurd (omega arith)
lacking_in p k (e ∷ es) low high = by (lacking_in p (suc k) es) (eq-or-lt_of_le low)
  where
    by : (suc k ≤ p → p < suc k + length es → Memᴰ (all p) (all_lines (suc k) es)) → (k ≡ p) ⊎ (k < p)
        → Memᴰ (all p) (all k ∷ all_lines (suc k) es)
    by r (inl e) = Memᴰ.head (ap all (sym e))
    by r (inr h) = Memᴰ.tail (r (omega arith) (omega arith))

no_field_lacking : {p : ℕ} {e : EntryField} (k : ℕ) (es : List (List ℕ)) → Memᴰ (entry p e) (all_lines k es) → ⊥
unfolding all_lines
no_field_lacking k [] m = Memᴰ.not-nil m
no_field_lacking {p} {e} k (x ∷ es) m =
    ⊎_elim (λ (q : entry p e ≡ all k). let z : ◌≡◌ {A = ℕ} 0 1 = cc in omega arith) (no_field_lacking (suc k) es) (Memᴰ.cases_cons m)

-- ---- an entry as a whole

no_all_here : {p : ℕ} (k : ℕ) (fs : List EntryField) → Memᴰ (all p) (map (entry k) fs) → ⊥
no_all_here {p} k fs m = let found = Memᴰ.of_map (entry k) fs m in
    let is : entry k found.0 ≡ all p = found.2 in
    let z : ◌≡◌ {A = ℕ} 0 1 = cc in omega arith

all_one : (p k : ℕ) (es ds : List (List ℕ)) → Memᴰ (all p) (entry_lines k es ds)
    → (k ≤ p) × OnlyOne (p < k + length es) (p < k + length ds)
unfolding entry_lines
all_one p k [] ds m = let h = in_lacking p k ds m in (h.0, inr (λ q. omega arith, h.1))
all_one p k (e ∷ es) [] m = let h = in_lacking p k (e ∷ es) m in (h.0, inl (h.1, λ q. omega arith))
all_one p k (e ∷ es) (d ∷ ds) m = by (all_one p (suc k) es ds) (Memᴰ.append_cases (map (entry k) (differing entry_table e d)) m)
  where
    by : (Memᴰ (all p) (entry_lines (suc k) es ds) → (suc k ≤ p) × OnlyOne (p < suc k + length es) (p < suc k + length ds))
        → Memᴰ (all p) (map (entry k) (differing entry_table e d)) ⊎ Memᴰ (all p) (entry_lines (suc k) es ds)
        → (k ≤ p) × OnlyOne (p < k + suc (length es)) (p < k + suc (length ds))
    by r (inl m) = absurd (no_all_here k (differing entry_table e d) m)
    by r (inr m) =
        let h = r m in
        (omega arith, ⊎_elim (λ o. inl (omega arith, λ q. o.1 (omega arith))) (λ o. inr (λ q. o.0 (omega arith), omega arith)) h.1)

one_all : (p k : ℕ) (es ds : List (List ℕ)) → k ≤ p → OnlyOne (p < k + length es) (p < k + length ds)
    → Memᴰ (all p) (entry_lines k es ds)
unfolding entry_lines
one_all p k [] ds low (inl o) = absurd (omega (arith, o.0))
one_all p k [] ds low (inr o) = lacking_in p k ds low o.1
one_all p k (e ∷ es) [] low (inl o) = lacking_in p k (e ∷ es) low o.0
one_all p k (e ∷ es) [] low (inr o) = absurd (omega (arith, o.1))
one_all p k (e ∷ es) (d ∷ ds) low o = Memᴰ.append_right (map (entry k) (differing entry_table e d)) (by (one_all p (suc k) es ds) (eq-or-lt_of_le low) o)
  where
    by : (suc k ≤ p → OnlyOne (p < suc k + length es) (p < suc k + length ds) → Memᴰ (all p) (entry_lines (suc k) es ds))
        → (k ≡ p) ⊎ (k < p) → OnlyOne (p < k + suc (length es)) (p < k + suc (length ds)) → Memᴰ (all p) (entry_lines (suc k) es ds)
    by r (inl e) (inl o) = absurd (o.1 (omega arith))
    by r (inl e) (inr o) = absurd (o.0 (omega arith))
    by r (inr h) (inl o) = r (omega arith) (inl (omega (arith, o.0), λ q. o.1 (omega arith)))
    by r (inr h) (inr o) = r (omega arith) (inr (λ q. o.0 (omega arith), omega (arith, o.1)))

pub all_iff : (p k : ℕ) (es ds : List (List ℕ))
    → Memᴰ (all p) (entry_lines k es ds) ↔ ((k ≤ p) × OnlyOne (p < k + length es) (p < k + length ds))
all_iff p k es ds = (all_one p k es ds, λ h. one_all p k es ds h.0 h.1)

-- ---- a field of an entry

-- the field e of the entries at place p, of lists that begin at place k, has other bytes
pub record FieldDiffers (p k : ℕ) (e : EntryField) (es ds : List (List ℕ)) : Type 0 where
  pub low : k ≤ p
  pub one_has : p < k + length es
  pub two_has : p < k + length ds
  pub differs : entry_bytes e (get_or es (p - k) []) ≡ entry_bytes e (get_or ds (p - k) []) → ⊥

module _ (p : ℕ) (e : EntryField) where
  -- the bytes of the field at index n
  abbrev Same : List (List ℕ) → List (List ℕ) → ℕ → Type 0
  Same es ds n = entry_bytes e (get_or es n []) ≡ entry_bytes e (get_or ds n [])

  field_here : (k : ℕ) (es ds : List (List ℕ)) → Memᴰ (entry p e) (entry_lines k es ds) → FieldDiffers p k e es ds
  unfolding entry_lines
  field_here k [] ds m = absurd (no_field_lacking k ds m)
  field_here k (x ∷ es) [] m = absurd (no_field_lacking k (x ∷ es) m)
  field_here k (x ∷ es) (y ∷ ds) m = by (field_here (suc k) es ds) (Memᴰ.append_cases (map (entry k) (differing entry_table x y)) m)
    where
      by : (Memᴰ (entry p e) (entry_lines (suc k) es ds) → FieldDiffers p (suc k) e es ds)
          → Memᴰ (entry p e) (map (entry k) (differing entry_table x y)) ⊎ Memᴰ (entry p e) (entry_lines (suc k) es ds)
          → FieldDiffers p k e (x ∷ es) (y ∷ ds)
      by r (inl m) =
          let found = Memᴰ.of_map (entry k) (differing entry_table x y) m in
          let is : entry k found.0 ≡ entry p e = found.2 in
          let place : k ≡ p = cc in
          let field : e ≡ found.0 = cc in
          let first : p - k ≡ 0 = omega arith in
          let other = (differing_iff entry_bytes x y entry_table_lem).0 (Memᴰ.cast field found.1) in
          record {
            low = omega arith;
            one_has = omega arith;
            two_has = omega arith;
            differs = λ same. other (subst (Same (x ∷ es) (y ∷ ds)) first same);
          }
      by r (inr m) =
          let h = r m in
          let next : p - k ≡ suc (p - suc k) = omega (arith, h.low) in
          record {
            low = omega (arith, h.low);
            one_has = omega (arith, h.one_has);
            two_has = omega (arith, h.two_has);
            differs = λ same. h.differs (subst (Same (x ∷ es) (y ∷ ds)) next same);
          }

  here_field : (k : ℕ) (es ds : List (List ℕ)) → FieldDiffers p k e es ds → Memᴰ (entry p e) (entry_lines k es ds)
  unfolding entry_lines
  here_field k [] ds h = absurd (omega (arith, h.low, h.one_has))
  here_field k (x ∷ es) [] h = absurd (omega (arith, h.low, h.two_has))
  here_field k (x ∷ es) (y ∷ ds) h = by (here_field (suc k) es ds) (eq-or-lt_of_le h.low)
    where
      fields : List EntryField
      fields = differing entry_table x y

      by : (FieldDiffers p (suc k) e es ds → Memᴰ (entry p e) (entry_lines (suc k) es ds)) → (k ≡ p) ⊎ (k < p)
          → Memᴰ (entry p e) (map (entry k) fields ++ entry_lines (suc k) es ds)
      by r (inl z) = let first : 0 ≡ p - k = omega arith in
          let there = (differing_iff entry_bytes x y entry_table_lem).1 (λ same. h.differs (subst (Same (x ∷ es) (y ∷ ds)) first same)) in
          Memᴰ.append_left (entry_lines (suc k) es ds) (Memᴰ.cast (ap (λ (n : ℕ). entry n e) (sym z)) (Memᴰ.map (entry k) there))
      by r (inr z) = let next : suc (p - suc k) ≡ p - k = omega arith in
          Memᴰ.append_right (map (entry k) fields)
          (r
          (record {
            low = omega arith;
            one_has = omega (arith, h.one_has);
            two_has = omega (arith, h.two_has);
            differs = λ same. h.differs (subst (Same (x ∷ es) (y ∷ ds)) next same);
          }))

  pub entry_iff : (k : ℕ) (es ds : List (List ℕ)) → Memᴰ (entry p e) (entry_lines k es ds) ↔ FieldDiffers p k e es ds
  entry_iff k es ds = (field_here k es ds, here_field k es ds)
