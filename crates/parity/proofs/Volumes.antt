-- What a volume's data is, over any rule for the coefficients.
--
--   files_parity                every file, times its coefficient, added to zeros in any order: the parity
--   volume_data                 the same at the coefficients of each code
--   volume_shares               and in two shares
--   parity_bytes, parity_ends   at these coefficients the parity of bytes is a byte, and past the greatest size it is 0
-- Assumes nothing.
use mathlib.Core.Path.{◌≡◌, sym, ap, ap₂, ◌∙◌}
use mathlib.Core.Bool.{Bool, cond}
use mathlib.Core.List.{List, ◌++◌}
use Prim.Native.Nat.{ℕ, suc, ◌<◌}
use native.Mathlib.Omega.{arith}
use lib.Bits.{bit_xor}
use lib.ListN.{length, get_or, replicate, length-replicate, get_or-replicate}
use lib.Seq.{ext_get_or}
use Rattle.gf256.specs.Field.{product}
use Rattle.gf256.proofs.Polynomials.{sum_below-same}
use Rattle.mul_add.specs.MulAdd.{mul_add_all}
use Rattle.mul_add.specs.Once.{Once}
use Rattle.mul_add.proofs.AnyOrder.{mul_add_all_once}
use Rattle.mul_add.proofs.MulAdds.{length-mul_add_all, mul_add_all_shares}
use Rattle.parity.specs.Claim.{VolumeData, VolumeShares, ParityBytes, ParityEnds}
use Rattle.parity.specs.Coefficient.{rule_of}
use Rattle.parity.specs.Parity.{Contents, is_file, parity_byte, parity}
use Rattle.parity.proofs.Coefficients.{rule_byte}
use Rattle.parity.proofs.Files.{is_file_in, is_file_inside}
use Rattle.parity.proofs.Parities.{length-parity, parity_at, parity_byte_byte, parity_byte_end}

module _ (rule : ℕ → ℕ → ℕ) (n : ℕ) (X : Contents) (v m : ℕ) where
  pub files_parity : (ks : List ℕ) → Once (is_file n) ks
      → mul_add_all (λ f. rule f v) X ks (replicate m 0) ≡ parity rule n X v m
  unfolding parity_byte
  files_parity ks once = let zeros : List ℕ = replicate m 0 in
      let volume = mul_add_all (λ f. rule f v) X ks zeros in
      let lz : length zeros ≡ m = length-replicate m 0 in
      let lv : length volume ≡ m = length-mul_add_all (λ f. rule f v) X ks zeros ∙ lz in
      ext_get_or 0 volume (parity rule n X v m) (lv ∙ sym (length-parity rule n X v m))
      (λ p h.
      let inside : p < m = omega arith in
      let byte : ℕ → ℕ = λ (f : ℕ). product (rule f v) (get_or (X f) p 0) in
      mul_add_all_once (λ f. rule f v) X n (is_file n) ks zeros once (is_file_inside n) p (omega arith)
      ∙ ap₂ bit_xor (get_or-replicate m p 0 0 inside)
      (sum_below-same n (λ i. cond (is_file n (suc i)) (byte (suc i)) 0) (λ i. byte (suc i))
      (λ i l. ap (λ (t : Bool). cond t (byte (suc i)) 0) (is_file_in n (suc i) (omega arith) l)))
      ∙ sym (parity_at rule n X v m p inside))

pub volume_data : VolumeData
volume_data c = files_parity (rule_of c)

pub volume_shares : VolumeShares
volume_shares c n X v m ks ls once = mul_add_all_shares (λ f. rule_of c f v) X ks ls m ∙ volume_data c n X v m (ks ++ ls) once

pub parity_bytes : ParityBytes
parity_bytes c n X v p h h_x = parity_byte_byte (rule_of c) n X v p (λ f pos l. rule_byte c f v (omega arith)) (λ f. h_x f p)

pub parity_ends : ParityEnds
parity_ends c n X v p h = parity_byte_end (rule_of c) n X v p h
