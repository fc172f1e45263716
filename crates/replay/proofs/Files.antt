-- The files that a line lists.
--
--   files_most, files_ascending     they are at most n, and ascend
--   files_member                    they are those of 1 to n that pass
--   recoverable_listed              after an accepted event they are those that are missing and recoverable
--   event_refused                   after a refused one it is the refusal
-- Assumes nothing.
use mathlib.Core.Path.{◌≡◌, refl, sym, ap, ◌∙◌, subst}
use mathlib.Core.Logic.{◌↔◌, ⊎_elim}
use mathlib.Core.Bool.{Bool, true, false, cond, false≢true}
use mathlib.Core.List.Memᴰ
use mathlib.Core.List.{List, [], ◌∷◌, ◌++◌, Memᴰ, append-nil, append_assoc}
use Prim.Native.Nat.{ℕ, zero, suc, ◌<◌, ◌≤◌}
use native.Mathlib.Nat.{not-suc-le-zero}
use native.Mathlib.Omega.{arith}
use native.Mathlib.Decide.{ℕ_discrete, dec_lt}
use lib.ListN.{length, get_or, length-append, get_or-append}
use lib.Seq.{get_or-append_seam}
use borrow.Author.Tests.{eq-eqb, ne_eqb}
use Rattle.computed_tests.specs.Numbers.{one_to}
use Rattle.computed_tests.proofs.Tests.{one_to_in, one_to_inside}
use Rattle.recovery.specs.Recoverable.{State}
use Rattle.inventory.specs.Model.{change, number_of, next}
use Rattle.inventory.proofs.Calls.{next-same}
use Rattle.text.specs.Ascii.{ascii}
use Rattle.text.specs.Decimal.{decimal}
use Rattle.replay.specs.Lines.{refused_line, files_of, numbers_line}
use Rattle.replay.specs.Replay.{event_line}
use Rattle.replay.specs.Claim.{files_text, Ascending, RecoverableListed, EventRefused}

module _ (test : ℕ → Bool) where
  -- the files of n + 1 numbers
  files_suc : (P : List ℕ → Type 0) (n : ℕ) → (test (suc n) ≡ true → P (files_of n test ++ (suc n ∷ []))) → (test (suc n) ≡ false → P (files_of n test))
      → P (files_of (suc n) test)
  unfolding files_of
  files_suc P n more same = go (test (suc n)) refl
    where
      go : (b : Bool) → test (suc n) ≡ b → P (files_of n test ++ cond (test (suc n)) (suc n ∷ []) [])
      go true e = subst (λ (b : Bool). P (files_of n test ++ cond b (suc n ∷ []) [])) (sym e) (more e)
      go false e = subst (λ (b : Bool). P (files_of n test ++ cond b (suc n ∷ []) [])) (sym e) (subst P (sym (append-nil (files_of n test))) (same e))

  pub files_most : (n i : ℕ) → i < length (files_of n test) → get_or (files_of n test) i 0 ≤ n
  unfolding files_of
  files_most zero i l = absurd (not-suc-le-zero l)
  files_most (suc n) i l =
      files_suc (λ ks. i < length ks → get_or ks i 0 ≤ suc n) n
      (λ e h. at (dec_lt i (length (files_of n test))) h (files_most n i))
      (λ e h. let m = files_most n i h in omega arith) l
    where
      at : Dec (i < length (files_of n test)) → i < length (files_of n test ++ (suc n ∷ [])) → (i < length (files_of n test) → get_or (files_of n test) i 0 ≤ n)
          → get_or (files_of n test ++ (suc n ∷ [])) i 0 ≤ suc n
      at (yes b) h r = let m = r b in let g = get_or-append (files_of n test) (suc n ∷ []) 0 i b in omega arith
      at (no q) h r = let z : i ≡ length (files_of n test) = omega (arith, length-append (files_of n test) (suc n ∷ [])) in
          let g = ap (λ (k : ℕ). get_or (files_of n test ++ (suc n ∷ [])) k 0) z ∙ get_or-append_seam (files_of n test) (suc n) [] 0 in omega arith

  files_ascending : (n : ℕ) → Ascending (files_of n test)
  unfolding files_of
  files_ascending zero i j l h = absurd (not-suc-le-zero h)
  files_ascending (suc n) i j l h =
      files_suc (λ ks. j < length ks → get_or ks i 0 < get_or ks j 0) n
      (λ e b. at (dec_lt j (length (files_of n test))) b (files_ascending n i j l)) (λ e b. files_ascending n i j l b) h
    where
      at : Dec (j < length (files_of n test)) → j < length (files_of n test ++ (suc n ∷ []))
          → (j < length (files_of n test) → get_or (files_of n test) i 0 < get_or (files_of n test) j 0)
          → get_or (files_of n test ++ (suc n ∷ [])) i 0 < get_or (files_of n test ++ (suc n ∷ [])) j 0
      at (yes b) h r = let m = r b in
          let g = get_or-append (files_of n test) (suc n ∷ []) 0 i (omega arith) in
          let g' = get_or-append (files_of n test) (suc n ∷ []) 0 j b in omega arith
      at (no q) h r = let z : j ≡ length (files_of n test) = omega (arith, length-append (files_of n test) (suc n ∷ [])) in
          let g = ap (λ (k : ℕ). get_or (files_of n test ++ (suc n ∷ [])) k 0) z ∙ get_or-append_seam (files_of n test) (suc n) [] 0 in
          let g' = get_or-append (files_of n test) (suc n ∷ []) 0 i (omega arith) in
          let m = files_most n i (omega arith) in omega arith

  files_in : (n f : ℕ) → Memᴰ f (files_of n test) → (1 ≤ f) × (f ≤ n) × (test f ≡ true)
  unfolding files_of
  files_in zero f m = absurd (Memᴰ.not-nil m)
  files_in (suc n) f m =
      files_suc (λ ks. Memᴰ f ks → (1 ≤ f) × (f ≤ suc n) × (test f ≡ true)) n
      (λ e c. ⊎_elim (λ b. later (files_in n f b)) (λ b. last e (Memᴰ.eq_of_singleton b)) (Memᴰ.append_cases (files_of n test) c))
      (λ e b. later (files_in n f b)) m
    where
      later : (1 ≤ f) × (f ≤ n) × (test f ≡ true) → (1 ≤ f) × (f ≤ suc n) × (test f ≡ true)
      later (a, b, t) = (a, omega arith, t)

      last : test (suc n) ≡ true → f ≡ suc n → (1 ≤ f) × (f ≤ suc n) × (test f ≡ true)
      last e z = (omega arith, omega arith, ap test z ∙ e)

  files_has : (n f : ℕ) → 1 ≤ f → f ≤ n → test f ≡ true → Memᴰ f (files_of n test)
  unfolding files_of
  files_has zero f a b t = absurd (omega arith)
  files_has (suc n) f a b t =
      files_suc (λ ks. Memᴰ f ks) n
      (λ e. elim (ℕ_discrete f (suc n)) [
        | yes z ↦ Memᴰ.append_right (files_of n test) (Memᴰ.head z)
        | no q ↦ Memᴰ.append_left (suc n ∷ []) (files_has n f a (omega arith) t)
      ])
      (λ e. elim (ℕ_discrete f (suc n)) [
        | yes z ↦ absurd (false≢true (sym e ∙ sym (ap test z) ∙ t))
        | no q ↦ files_has n f a (omega arith) t
      ])

  files_member : (n f : ℕ) → Memᴰ f (files_of n test) ↔ ((one_to n f ≡ true) × (test f ≡ true))
  files_member n f = (
    λ m. let (a, b, t) = files_in n f m in (one_to_in n f a b, t),
    λ h. let l = one_to_inside n f h.0 in files_has n f l.0 l.1 h.1,
  )

-- the line in the shape of a first line
same_shape : (ks : List ℕ) → numbers_line ks ≡ files_text ks
same_shape [] = refl
same_shape (k ∷ ks) = refl

pub recoverable_listed : RecoverableListed
unfolding event_line
recoverable_listed d D t few c k e = let t' : State = next t (change c k) in
    let few' : t'.n ≤ 254 = subst (λ (n : ℕ). n ≤ 254) (sym (next-same t (change c k)).same_n) few in
    let member = files_member (d t') t'.n in (
      files_of t'.n (d t'),
      files_ascending (d t') t'.n,
      λ f. (
        λ m. (D t' few' f).0 ((member f).0 m).1,
        λ r. (member f).1 (r.0, (D t' few' f).1 r),
      ),
      ap (λ (b : Bool). cond b (numbers_line (files_of t'.n (d t'))) (refused_line (number_of t c k))) (eq-eqb (number_of t c k) 0 e)
          ∙ same_shape (files_of t'.n (d t')),
    )

pub event_refused : EventRefused
unfolding event_line refused_line
event_refused d t c k q = let t' : State = next t (change c k) in
    ap (λ (b : Bool). cond b (numbers_line (files_of t'.n (d t'))) (refused_line (number_of t c k))) (ne_eqb (number_of t c k) 0 q)
    ∙ append_assoc (ascii "refused ") (decimal (number_of t c k)) (10 ∷ [])
