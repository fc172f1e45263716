-- Where the numbers of a count stand.
--
--   small_three, count_placed     three numbers of 64 bits; the claim
-- Assumes nothing.
use mathlib.Core.Path.{◌≡◌, sym, ap, ◌∙◌}
use mathlib.Core.Bool.{Bool, true, false, cond}
use mathlib.Core.List.{List, [], ◌∷◌}
use Prim.Native.Nat.{ℕ, zero, suc, ◌^◌, ◌<◌}
use native.Mathlib.Omega.{arith}
use lib.Dec.{leb}
use lib.ListN.{length, get_or, drop}
use Rattle.lent_bytes.specs.Writing.{accepted, refused, written, written_unless, with_number}
use Rattle.little_endian.specs.Bytes.{numbers, numbers_at}
use Rattle.little_endian.proofs.NumberLists.{numbers_back}
use Rattle.refusals.specs.Tests.{bare}
use Rattle.inventory_bytes.specs.Claim.{CountAt, CountPlaced}
use Rattle.inventory_bytes.specs.Inventories.{counted_into}

small_three : (f v q : ℕ) → f < 2 ^ 64 → v < 2 ^ 64 → q < 2 ^ 64 → (j : ℕ) → get_or (f ∷ v ∷ q ∷ []) j 0 < 2 ^ 64
small_three f v q a b c zero = a
small_three f v q a b c (suc zero) = b
small_three f v q a b c (suc (suc zero)) = c
small_three f v q a b c (suc (suc (suc j))) = omega arith

pub count_placed : CountPlaced
unfolding counted_into written_unless written numbers_at
count_placed f v q a b c out out' = by (leb (length (numbers ns)) (length out))
  where
    ns : List ℕ
    ns = f ∷ v ∷ q ∷ []

    by : (fits : Bool) → with_number (cond fits (accepted (numbers ns) out) (refused (bare 14) out)) ≡ (0, out') → CountAt f v q out'
    by true e =
        let is : numbers_at 3 out' 0 ≡ ns =
        ap (λ (s : List ℕ). numbers_at 3 s 0) (sym (ap (λ (r : ℕ × List ℕ). r.1) e))
        ∙ numbers_back [] ns (drop (length (numbers ns)) out) (small_three f v q a b c) in
        record {
          files_at = ap (λ (l : List ℕ). get_or l 0 0) is;
          volumes_at = ap (λ (l : List ℕ). get_or l 1 0) is;
          quarantined_at = ap (λ (l : List ℕ). get_or l 2 0) is;
        }
    by false e = absurd (let z : 14 ≡ 0 = ap (λ (r : ℕ × List ℕ). r.0) e in omega arith)
