-- A call that tells what is present or quarantined in a state, made where some of it has been told.
--
--   TellsOne t u c w     the call c, which tells of t, leads from u to w, which has what it tells
--   told_file, told_volume, told_quarantined     the calls that tell
-- Assumes nothing.
use mathlib.Core.Path.{◌≡◌, refl, sym, ap, ◌∙◌, subst}
use mathlib.Core.Bool.{Bool, true, false, not, cond, ◌&&◌, ◌||◌, false≢true}
use Prim.Native.Nat.{ℕ}
use native.Mathlib.Omega.{arith}
use lib.Dec.{eqb}
use borrow.Author.Tests.{eqb-true}
use Rattle.codes.specs.Codes.{same}
use Rattle.codes.specs.declared.Code.{Code}
use Rattle.codes.proofs.CodeLaws.{same_itself}
use Rattle.parity.specs.Parity.{is_file}
use Rattle.recovery.specs.Recoverable.{State, is_volume}
use Rattle.inventory.specs.Model.{add_file, add_volume, quarantine, with_files, with_volumes, insert, remove, changed, number_of}
use Rattle.inventory.specs.Model.{Call, change, next}
use Rattle.inventory.proofs.ModelSets.{insert_here, insert_other, insert_inside}
use Rattle.inventory.proofs.Inside.{held, or_first, or_second, Inside, inside_itself}

-- the call c leads from u to w, which has what it tells
pub record TellsOne (t u : State) (c : Call) (w : State) : Type 0 where
  pub inside : Inside w t
  pub keeps : Inside u w
  pub files : (f : ℕ) → change add_file f ≡ c → w.files f ≡ true
  pub volumes : (v : ℕ) → change (add_volume t.code) v ≡ c → held w v ≡ true
  pub quarantined : (v : ℕ) → change quarantine v ≡ c → held u v ≡ true → w.quarantined v ≡ true

file_is : (f g : ℕ) → change add_file f ≡ change add_file g → f ≡ g
file_is f g e = cc

volume_is : (c d : Code) (v w : ℕ) → change (add_volume c) v ≡ change (add_volume d) w → v ≡ w
volume_is c d v w e = cc

quarantined_is : (v w : ℕ) → change quarantine v ≡ change quarantine w → v ≡ w
quarantined_is v w e = cc

file_not_volume : (c : Code) (f v : ℕ) → change add_file f ≡ change (add_volume c) v → ⊥
file_not_volume c f v e = let z : ◌≡◌ {A = ℕ} 0 1 = cc in omega arith

file_not_quarantined : (f v : ℕ) → change add_file f ≡ change quarantine v → ⊥
file_not_quarantined f v e = let z : ◌≡◌ {A = ℕ} 0 1 = cc in omega arith

volume_not_quarantined : (c : Code) (f v : ℕ) → change (add_volume c) f ≡ change quarantine v → ⊥
volume_not_quarantined c f v e = let z : ◌≡◌ {A = ℕ} 0 1 = cc in omega arith

-- the tests of a call pass, and what it changes is there
module _ (t u : State) (h : Inside u t) where
  pub told_file : (g : ℕ) → t.files g ≡ true → is_file u.n g ≡ true → TellsOne t u (change add_file g) (next u (change add_file g))
  unfolding next number_of changed
  told_file g e r = by (is_file u.n g) (u.files g) r refl
    where
      to : (w : State) → Inside w t → Inside u w → w.files g ≡ true → TellsOne t u (change add_file g) w
      to w i k m = record {
        inside = i;
        keeps = k;
        files = λ f p. ap w.files (file_is f g p) ∙ m;
        volumes = λ v p. absurd (file_not_volume t.code g v (sym p));
        quarantined = λ v p. absurd (file_not_quarantined g v (sym p));
      }

      by : (a b : Bool) → a ≡ true → u.files g ≡ b
          → TellsOne t u (change add_file g) (cond (eqb (cond a (cond b 11 0) 10) 0) (with_files u (insert g u.files)) u)
      by true true r m = to u h (inside_itself u) m
      by true false r m =
          to (with_files u (insert g u.files))
          record {
            same_n = h.same_n;
            same_size = h.same_size;
            same_code = h.same_code;
            files = insert_inside u.files t.files g e h.files;
            volumes = h.volumes;
            quarantined = h.quarantined;
          }
          record {
            same_n = refl;
            same_size = refl;
            same_code = refl;
            files = insert_other u.files g;
            volumes = λ v m. m;
            quarantined = λ v m. m;
          }
          (insert_here u.files g)
      by false b r m = absurd (false≢true r)

  pub told_volume : (c : Code) (g : ℕ) → c ≡ t.code → held t g ≡ true → is_volume u.n g ≡ true
      → TellsOne t u (change (add_volume c) g) (next u (change (add_volume c) g))
  unfolding next number_of changed
  told_volume c g z e r = by (is_volume u.n g) (same c u.code) (u.quarantined g) (u.volumes g) r own refl refl
    where
      own : same c u.code ≡ true
      own = ap (same c) (h.same_code ∙ sym z) ∙ same_itself c

      to : (w : State) → Inside w t → Inside u w → held w g ≡ true → TellsOne t u (change (add_volume c) g) w
      to w i k m = record {
        inside = i;
        keeps = k;
        files = λ f p. absurd (file_not_volume c f g p);
        volumes = λ v p. ap (held w) (volume_is t.code c v g p) ∙ m;
        quarantined = λ v p. absurd (volume_not_quarantined c g v (sym p));
      }

      there : (v : ℕ) → (insert g u.volumes v || u.quarantined v) ≡ true → held t v ≡ true
      there v m = go (insert g u.volumes v) refl m
        where
          go : (b : Bool) → insert g u.volumes v ≡ b → (b || u.quarantined v) ≡ true → held t v ≡ true
          go true p m = insert_inside u.volumes (held t) g e (λ v m. h.volumes v (or_first (u.volumes v) (u.quarantined v) m)) v p
          go false p m = h.volumes v (or_second (u.volumes v) (u.quarantined v) m)

      here : (v : ℕ) → held u v ≡ true → (insert g u.volumes v || u.quarantined v) ≡ true
      here v m = go (u.volumes v) refl m
        where
          go : (b : Bool) → u.volumes v ≡ b → (b || u.quarantined v) ≡ true → (insert g u.volumes v || u.quarantined v) ≡ true
          go true p m = or_first (insert g u.volumes v) (u.quarantined v) (insert_other u.volumes g v p)
          go false p m = or_second (insert g u.volumes v) (u.quarantined v) m

      by : (a s q b : Bool) → a ≡ true → s ≡ true → u.quarantined g ≡ q → u.volumes g ≡ b
          → TellsOne t u (change (add_volume c) g)
          (cond (eqb (cond a (cond s (cond q 27 (cond b 11 0)) 29) 10) 0) (with_volumes u (insert g u.volumes) u.quarantined) u)
      by true true true b r o p m = to u h (inside_itself u) (or_second (u.volumes g) (u.quarantined g) p)
      by true true false true r o p m = to u h (inside_itself u) (or_first (u.volumes g) (u.quarantined g) m)
      by true true false false r o p m =
          to (with_volumes u (insert g u.volumes) u.quarantined)
          record {
            same_n = h.same_n;
            same_size = h.same_size;
            same_code = h.same_code;
            files = h.files;
            volumes = there;
            quarantined = h.quarantined;
          }
          record { same_n = refl; same_size = refl; same_code = refl; files = λ f m. m; volumes = here; quarantined = λ v m. m }
          (or_first (insert g u.volumes g) (u.quarantined g) (insert_here u.volumes g))
      by true false q b r o p m = absurd (false≢true o)
      by false s q b r o p m = absurd (false≢true r)

  pub told_quarantined : (g : ℕ) → t.quarantined g ≡ true → is_volume u.n g ≡ true
      → TellsOne t u (change quarantine g) (next u (change quarantine g))
  unfolding next number_of changed
  told_quarantined g e r = by (is_volume u.n g) (u.volumes g) r refl
    where
      to : (w : State) → Inside w t → Inside u w → (held u g ≡ true → w.quarantined g ≡ true) → TellsOne t u (change quarantine g) w
      to w i k m = record {
        inside = i;
        keeps = k;
        files = λ f p. absurd (file_not_quarantined f g p);
        volumes = λ v p. absurd (volume_not_quarantined t.code v g p);
        quarantined = λ v p l. ap w.quarantined (quarantined_is v g p) ∙ m (ap (held u) (sym (quarantined_is v g p)) ∙ l);
      }

      -- a volume that is moved is held as before
      moved : (v : ℕ) → held u g ≡ true → (remove g u.volumes v || insert g u.quarantined v) ≡ held u v
      moved v l = go (eqb v g) refl
        where
          go : (b : Bool) → eqb v g ≡ b → (not b && u.volumes v || (b || u.quarantined v)) ≡ held u v
          go true q = sym (ap (held u) (eqb-true v g q) ∙ l)
          go false q = refl

      by : (a b : Bool) → a ≡ true → u.volumes g ≡ b
          → TellsOne t u (change quarantine g)
          (cond (eqb (cond a (cond b 0 11) 10) 0) (with_volumes u (remove g u.volumes) (insert g u.quarantined)) u)
      by true true r m = let l = or_first (u.volumes g) (u.quarantined g) m in
          to (with_volumes u (remove g u.volumes) (insert g u.quarantined))
          record {
            same_n = h.same_n;
            same_size = h.same_size;
            same_code = h.same_code;
            files = h.files;
            volumes = λ v k. h.volumes v (sym (moved v l) ∙ k);
            quarantined = insert_inside u.quarantined t.quarantined g e h.quarantined;
          }
          record {
            same_n = refl;
            same_size = refl;
            same_code = refl;
            files = λ f m. m;
            volumes = λ v k. moved v l ∙ k;
            quarantined = insert_other u.quarantined g;
          }
          (λ l. insert_here u.quarantined g)
      by true false r m = to u h (inside_itself u) (λ l. subst (λ (b : Bool). (b || u.quarantined g) ≡ true) m l)
      by false b r m = absurd (false≢true r)
