-- What is present and what is quarantined in one state, against another.
--
--   held t v           whether a volume is present or quarantined
--   or_first, or_second     it is, where it is one of them
--   Inside u t         what is present or quarantined in u is so in t
--   inside_itself, inside_more         each state is in itself, and in what a state that it is in is in
--   inside_same        states, each in the other, are the same
-- Assumes nothing.
use mathlib.Core.Path.{◌≡◌, refl, sym, ◌∙◌, fun_ext}
use mathlib.Core.Bool.{Bool, true, false, ◌||◌, false≢true}
use Prim.Native.Nat.{ℕ}
use Rattle.recovery.specs.Recoverable.{State}
use Rattle.inventory.proofs.ModelSets.{tests_same}
use Rattle.inventory.proofs.Calls.{Ranged}

-- whether a volume is present or quarantined
abbrev pub held : State → ℕ → Bool
held t v = t.volumes v || t.quarantined v

-- u is of the same files and the same code as t; what is present in u is present in t, a volume perhaps quarantined there; what is quarantined in u is so in t
pub record Inside (u t : State) : Type 0 where
  pub same_n : u.n ≡ t.n
  pub same_size : u.size ≡ t.size
  pub same_code : u.code ≡ t.code
  pub files : (f : ℕ) → u.files f ≡ true → t.files f ≡ true
  pub volumes : (v : ℕ) → held u v ≡ true → held t v ≡ true
  pub quarantined : (v : ℕ) → u.quarantined v ≡ true → t.quarantined v ≡ true

pub inside_itself : (u : State) → Inside u u
inside_itself u = record {
  same_n = refl;
  same_size = refl;
  same_code = refl;
  files = λ f e. e;
  volumes = λ v e. e;
  quarantined = λ v e. e;
}

pub inside_more : {t u w : State} → Inside t u → Inside u w → Inside t w
inside_more h k = record {
  same_n = h.same_n ∙ k.same_n;
  same_size = h.same_size ∙ k.same_size;
  same_code = h.same_code ∙ k.same_code;
  files = λ f e. k.files f (h.files f e);
  volumes = λ v e. k.volumes v (h.volumes v e);
  quarantined = λ v e. k.quarantined v (h.quarantined v e);
}

pub or_first : (a b : Bool) → a ≡ true → (a || b) ≡ true
or_first true b e = refl
or_first false b e = absurd (false≢true e)

pub or_second : (a b : Bool) → b ≡ true → (a || b) ≡ true
or_second true b e = refl
or_second false b e = e

-- a volume that is held and not quarantined is present
present_else : (a b : Bool) → (a || b) ≡ true → b ≡ false → a ≡ true
present_else true b e n = refl
present_else false b e n = absurd (false≢true (sym n ∙ e))

-- states, each in the other
pub inside_same : (u t : State) → Ranged u → Ranged t → Inside u t → Inside t u → u ≡ t
inside_same u t ru rt h k = λ i. record {
  n = h.same_n i;
  size = h.same_size i;
  files = fun_ext (λ f. tests_same (u.files f) (t.files f) (h.files f) (k.files f)) i;
  volumes = fun_ext (λ v. tests_same (u.volumes v) (t.volumes v) (there u t ru h k v) (there t u rt k h v)) i;
  quarantined = fun_ext (λ v. tests_same (u.quarantined v) (t.quarantined v) (h.quarantined v) (k.quarantined v)) i;
  code = h.same_code i;
}
  where
    there : (u t : State) → Ranged u → Inside u t → Inside t u → (v : ℕ) → u.volumes v ≡ true → t.volumes v ≡ true
    there u t ru h k v e =
        present_else (t.volumes v) (t.quarantined v) (h.volumes v (or_first (u.volumes v) (u.quarantined v) e)) (by (t.quarantined v) refl)
      where
        by : (b : Bool) → t.quarantined v ≡ b → b ≡ false
        by true q = absurd (false≢true (sym (ru.apart v e) ∙ k.quarantined v q))
        by false q = refl
