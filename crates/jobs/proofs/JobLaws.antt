-- Laws of jobs that take their input in chunks: what is to be shown of the calls one by one, so that the claims over lists hold.
--
--   Follows k w Goes is_open   one by one the calls k answer what w says: Goes a m s says of the job s that it was started by a and has
--                             been given the bytes m since; is_open is the test of the calls, which refuse a job exactly where it fails
--   pushes_follow             a job that has been given chunks has been given the bytes that they are together
--   answers_follow            one after another the calls answer what the model answers
--   chunked                   the claim over lists of chunks and of calls
--   exactly_20                the claim on 20, where pushes give a job exactly where the test holds
--   ones_lendable, length_ones     pushes of one byte each
-- Assumes nothing.
use mathlib.Core.Path.{◌≡◌, refl, ap, ap₂, ◌∙◌, sym, subst}
use mathlib.Core.Logic.{◌↔◌}
use mathlib.Core.Bool.{Bool, true, false, false≢true}
use mathlib.Core.List.{List, [], ◌∷◌, ◌++◌, append-nil, append_assoc, map, flatten}
use Prim.Native.Nat.{ℕ, zero, suc}
use native.Mathlib.Omega.{arith}
use lib.ListN.{length, replicate}
use Rattle.cut_lists.specs.All.{All, all_none, all_more}
use Rattle.little_endian.specs.Bytes.{Bytes}
use Rattle.jobs.specs.Job.{Call, start, push, end, Steps, Whole, Model, going, over, answers, after_pushes, modelled}
use Rattle.jobs.specs.Claim.{Chunked, Lendable, Given, Exactly20}

pub record Follows {S A P E R : Type 0} (k : Steps S A P E R) (w : Whole A P E R) (Goes : A → List ℕ → S → Type 0) (is_open : S → Bool)
    : Type 0 where
  pub started : (a : A) → ((k.starts a).0 ≡ w.begun a) × Goes a [] (k.starts a).1
  pub pushed : (a : A) (m : List ℕ) (s : S) (p : P) → Goes a m s
      → ((k.pushes s p).0 ≡ w.taken a m p) × Goes a (m ++ w.chunk p) (k.pushes s p).1
  pub ended : (a : A) (m : List ℕ) (s : S) (e : E) → Goes a m s
      → ((k.ends s e).0 ≡ w.whole a m e) × (is_open (k.ends s e).1 ≡ false)
  -- 20 is said where the test fails, and nowhere else
  pub push_taken : (s : S) (p : P) → is_open s ≡ true → w.number (k.pushes s p).0 ≡ 20 → ⊥
  pub end_taken : (s : S) (e : E) → is_open s ≡ true → w.number (k.ends s e).0 ≡ 20 → ⊥
  pub push_refused : (s : S) (p : P) → is_open s ≡ false → k.pushes s p ≡ (w.refused_push p, s)
  pub end_refused : (s : S) (e : E) → is_open s ≡ false → k.ends s e ≡ (w.refused_end e, s)
  pub push_20 : (p : P) → w.number (w.refused_push p) ≡ 20
  pub end_20 : (e : E) → w.number (w.refused_end e) ≡ 20

module _ {S A P E R : Type 0} (k : Steps S A P E R) (w : Whole A P E R) (Goes : A → List ℕ → S → Type 0) (is_open : S → Bool)
    (f : Follows k w Goes is_open) where
  pub pushes_follow : (a : A) (m : List ℕ) (s : S) (ps : List P) → Goes a m s → Goes a (m ++ flatten (map w.chunk ps)) (after_pushes k s ps)
  unfolding flatten
  pushes_follow a m s [] g = subst (λ (l : List ℕ). Goes a l s) (sym (append-nil m)) g
  pushes_follow a m s (p ∷ ps) g =
      subst (λ (l : List ℕ). Goes a l (after_pushes k s (p ∷ ps))) (append_assoc m (w.chunk p) (flatten (map w.chunk ps)))
      (pushes_follow a (m ++ w.chunk p) (k.pushes s p).1 ps (f.pushed a m s p g).1)

  -- a job stands for a state of the model
  abbrev At : Model A → S → Type 0
  At (going a m) s = Goes a m s
  At over s = is_open s ≡ false

  answers_follow : (x : Model A) (s : S) → At x s → (cs : List (Call A P E)) → answers k s cs ≡ answers (modelled w) x cs
  answers_follow x s at [] = refl
  answers_follow x s at (start a ∷ cs) =
      ap₂ (λ (r : R) (rs : List R). r ∷ rs) (f.started a).0 (answers_follow (going a []) (k.starts a).1 (f.started a).1 cs)
  answers_follow (going a m) s at (push p ∷ cs) = let q = f.pushed a m s p at in
      ap₂ (λ (r : R) (rs : List R). r ∷ rs) q.0 (answers_follow (going a (m ++ w.chunk p)) (k.pushes s p).1 q.1 cs)
  answers_follow over s at (push p ∷ cs) =
      ap (λ (q : R × S). q.0 ∷ answers k q.1 cs) (f.push_refused s p at)
      ∙ ap (λ (rs : List R). w.refused_push p ∷ rs) (answers_follow over s at cs)
  answers_follow (going a m) s at (end e ∷ cs) = let q = f.ended a m s e at in
      ap₂ (λ (r : R) (rs : List R). r ∷ rs) q.0 (answers_follow over (k.ends s e).1 q.1 cs)
  answers_follow over s at (end e ∷ cs) =
      ap (λ (q : R × S). q.0 ∷ answers k q.1 cs) (f.end_refused s e at)
      ∙ ap (λ (rs : List R). w.refused_end e ∷ rs) (answers_follow over s at cs)

  by_test : {X : Type 0} (s : S) → (is_open s ≡ true → X) → (is_open s ≡ false → X) → X
  by_test {X} s goes shut = by (is_open s) refl
    where
      by : (b : Bool) → is_open s ≡ b → X
      by true o = goes o
      by false o = shut o

  pub chunked : Chunked k w
  chunked = record {
    cut_anyhow = λ a ps e. (f.ended a _ _ e (pushes_follow a [] (k.starts a).1 ps (f.started a).1)).0;
    every_call =
        λ s a cs.
        ap₂ (λ (r : R) (rs : List R). r ∷ rs) (f.started a).0 (answers_follow (going a []) (k.starts a).1 (f.started a).1 cs);
    kept_by_push = λ s p e. by_test s (λ o. absurd (f.push_taken s p o e)) (f.push_refused s p);
    kept_by_end = λ s x e. by_test s (λ o. absurd (f.end_taken s x o e)) (f.end_refused s x);
  }

  module _ {C : Type 0} (Held : S → Type 0) (counts : S → C) where
    -- of one call with the number n
    exactly : (s : S) (n : ℕ) → (is_open s ≡ true → Given k w counts s) → (Given k w counts s → is_open s ≡ true)
        → (is_open s ≡ true → n ≡ 20 → ⊥) → (is_open s ≡ false → n ≡ 20) → (n ≡ 20) ↔ (Given k w counts s → ⊥)
    exactly s n given opened taken refused =
        by_test s (λ o. ((λ e. absurd (taken o e)), (λ none. absurd (none (given o)))))
        (λ o. ((λ e g. false≢true (sym o ∙ opened g)), (λ none. refused o)))

    pub exactly_20 : ((s : S) → Held s → is_open s ≡ true → Given k w counts s) → ((s : S) → Held s → Given k w counts s → is_open s ≡ true)
        → Exactly20 k w Held counts
    exactly_20 given opened = record {
      pushed =
          λ s h p.
          exactly s (w.number (k.pushes s p).0) (given s h) (opened s h) (f.push_taken s p)
          (λ o. ap (λ (q : R × S). w.number q.0) (f.push_refused s p o) ∙ f.push_20 p);
      ended =
          λ s h e.
          exactly s (w.number (k.ends s e).0) (given s h) (opened s h) (f.end_taken s e)
          (λ o. ap (λ (q : R × S). w.number q.0) (f.end_refused s e o) ∙ f.end_20 e);
    }

-- ---- pushes of one byte each

byte_lendable : Lendable (0 ∷ [])
byte_lendable = (byte, omega arith)
  where
    byte : Bytes (0 ∷ [])
    byte zero = omega arith
    byte (suc i) = omega arith

module _ {P : Type 0} (chunk : P → List ℕ) (one : P) (is : chunk one ≡ 0 ∷ []) where
  pub ones_lendable : (n : ℕ) → All (λ (p : P). Lendable (chunk p)) (replicate n one)
  ones_lendable zero = all_none
  ones_lendable (suc n) = all_more (subst Lendable (sym is) byte_lendable) (ones_lendable n)

  pub length_ones : (n : ℕ) → length (flatten (map chunk (replicate n one))) ≡ n
  unfolding flatten
  length_ones zero = refl
  length_ones (suc n) = ap (λ (c : List ℕ). length (c ++ flatten (map chunk (replicate n one)))) is ∙ ap suc (length_ones n)
