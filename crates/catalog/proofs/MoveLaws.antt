-- Bytes moved up and down by a row.
--
--   get_d_below, get_d_past      a store elsewhere
--   up_more, up_spread         bytes moved up from the last to the first, and the row between
--   down_more, down_closed     bytes moved down from the first to the last
-- Assumes nothing.
use mathlib.Core.Path.{◌≡◌, refl, ap, ◌∙◌}
use mathlib.Core.List.{List, [], ◌∷◌, ◌++◌, append_assoc}
use Prim.Native.Nat.{ℕ, suc, ◌+◌, ◌-◌, ◌≤◌, ◌<◌}
use native.Mathlib.Omega.{arith}
use native.Mathlib.Numerals.{add-one}
use lib.ListN.{length, take, drop, get_or, set, length-drop}
use lib.Seq.{sets, sets-eq, length-sets, set_comm, get_or-set_other, get_or-drop, drop-cons, take-take, take-append-le, drop_at, length-take-le}
use Rattle.lent_bytes.proofs.StoreLaws.{sets_more}
use Rattle.catalog.specs.Plan.{spread, closed}

-- ---- stores elsewhere

set_below : (s v : List ℕ) (m k a : ℕ) → k < m → set (sets s m v) k a ≡ sets (set s k a) m v
set_below s [] m k a h = refl
set_below s (b ∷ v) m k a h = simp (set_below (set s m b) v (suc m) k a (omega arith), set_comm s m k b a (λ e. omega arith))

get_d_below : (s v : List ℕ) (m j : ℕ) → j < m → get_or (sets s m v) j 0 ≡ get_or s j 0
get_d_below s [] m j h = refl
get_d_below s (b ∷ v) m j h = get_d_below (set s m b) v (suc m) j (omega arith) ∙ get_or-set_other s m j b 0 (λ e. omega arith)

get_d_past : (s v : List ℕ) (m j : ℕ) → m + length v ≤ j → get_or (sets s m v) j 0 ≡ get_or s j 0
get_d_past s [] m j h = refl
get_d_past s (b ∷ v) m j h = get_d_past (set s m b) v (suc m) j (omega arith) ∙ get_or-set_other s m j b 0 (λ e. omega arith)

-- ---- up

module _ (s : List ℕ) (to : ℕ) where
  -- a byte more
  pub up_more : (j : ℕ) {t : List ℕ} → j < to → to + 28 ≤ length s → t ≡ sets s (j + 1 + 28) (take (to - (j + 1)) (drop (j + 1) s))
      → set t (j + 28) (get_or t j 0) ≡ sets s (j + 28) (take (to - j) (drop j s))
  up_more j {t} h fits e = let v : List ℕ = take (to - (j + 1)) (drop (j + 1) s) in
      let k : to - j ≡ suc (to - (j + 1)) = omega arith in
      let same : get_or t j 0 ≡ get_or s j 0 = ap (λ (l : List ℕ). get_or l j 0) e ∙ get_d_below s v (j + 1 + 28) j (omega arith) in
      let up : j + 1 + 28 ≡ suc (j + 28) = omega arith in
      let front : take (to - j) (drop j s) ≡ get_or s j 0 ∷ v = simp (k, drop-cons s j 0 (omega arith), add-one) in
      cc (set_below s v (suc (j + 28)) (j + 28) (get_or s j 0) (omega arith))

  -- and the row between
  pub up_spread : (at : ℕ) (row : List ℕ) {t u : List ℕ} → at ≤ to → to + 28 ≤ length s → length row ≡ 28
      → t ≡ sets s (at + 28) (take (to - at) (drop at s)) → u ≡ sets t at row → u ≡ spread at to row s
  up_spread at row {t} {u} low fits size up put = let v : List ℕ = take (to - at) (drop at s) in
      let n : length v ≡ to - at = length-take-le (to - at) (drop at s) (omega (arith, length-drop at s)) in
      let front : List ℕ = take (at + 28) s in
      let end : at + 28 + length v ≡ to + 28 = omega arith in
      let sized : length front ≡ at + 28 = length-take-le (at + 28) s (omega arith) in
      let t_is : t ≡ front ++ (v ++ drop (to + 28) s) = simp (up, sets-eq v s (at + 28) (omega arith), append_assoc, end) in
      let t_size : length t ≡ length s = ap length up ∙ length-sets s (at + 28) v in
      let before : take at t ≡ take at s =
      ap (take at) t_is ∙ take-append-le at front (v ++ drop (to + 28) s) (omega arith) ∙ take-take at (at + 28) s (omega arith) in
      let after : drop (at + length row) t ≡ v ++ drop (to + 28) s = simp (size, t_is, drop_at) in
      simp (put, sets-eq row t at (omega arith), append_assoc, before, after)

-- ---- down

module _ (s : List ℕ) (at : ℕ) where
  pub down_more : (i : ℕ) {t : List ℕ} → at ≤ i → i + 28 < length s → t ≡ sets s at (take (i - at) (drop (at + 28) s))
      → set t i (get_or t (i + 28) 0) ≡ sets s at (take (i + 1 - at) (drop (at + 28) s))
  down_more i {t} low h e = let b : List ℕ = drop (at + 28) s in
      let k : ℕ = i - at in
      let within : length (take k b) ≡ k = length-take-le k b (omega (arith, length-drop (at + 28) s)) in
      let place : i ≡ at + k = omega arith in
      let there : i + 28 ≡ at + 28 + k = omega arith in
      let next : k + 1 ≡ i + 1 - at = omega arith in
      let same : get_or t (i + 28) 0 ≡ get_or b k 0 = cc (get_d_past s (take k b) at (i + 28) (omega arith), get_or-drop (at + 28) s k 0) in
      cc (sets_more s b at k (omega (arith, length-drop (at + 28) s)) e)

  pub down_closed : (to : ℕ) {t : List ℕ} → at + 28 ≤ to → to ≤ length s → t ≡ sets s at (take (to - 28 - at) (drop (at + 28) s))
      → t ≡ closed at to s
  down_closed to {t} low fits e = let same : to - 28 - at ≡ to - (at + 28) = omega arith in
      let v : List ℕ = take (to - (at + 28)) (drop (at + 28) s) in
      let n : length v ≡ to - (at + 28) = length-take-le (to - (at + 28)) (drop (at + 28) s) (omega (arith, length-drop (at + 28) s)) in
      let end : at + length v ≡ to - 28 = omega arith in
      simp (e, same, sets-eq v s at (omega arith), append_assoc, end)
