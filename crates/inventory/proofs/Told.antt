-- What is present and what is quarantined, told anew to a set newly opened.
--
--   opened_told      calls that tell what is present and what is quarantined in a state, and nothing else, lead to it
--   after_told       so of a state that calls lead to
--   calls_for_lem, retold     there are such calls
-- Assumes nothing.
use mathlib.Core.Path.{◌≡◌, refl, sym, ap, ◌∙◌, subst}
use mathlib.Core.Logic.{⊎_elim, ◌⊎◌, inl, inr}
use mathlib.Core.Bool.{Bool, true, false, ◌||◌, false≢true}
use mathlib.Core.List.Memᴰ
use mathlib.Core.List.{List, [], ◌∷◌, Memᴰ}
use Prim.Native.Nat.{ℕ, zero, suc, ◌≤◌, ◌+◌}
use native.Mathlib.Omega.{arith}
use native.Mathlib.Decide.{ℕ_discrete}
use Rattle.codes.specs.declared.Code.{Code}
use Rattle.computed_tests.proofs.Tests.{one_to_inside}
use Rattle.recovery.specs.Recoverable.{State, is_volume}
use Rattle.inventory.specs.Model.{add_file, remove_file, add_volume, remove_volume, quarantine, release}
use Rattle.inventory.specs.Model.{Call, change, count, query, opened, next, after}
use Rattle.inventory.specs.Claim.{Tells, Before, TellsExactly, Retold}
use Rattle.inventory.proofs.Calls.{after_same, Ranged, opened_ranged, after_ranged}
use Rattle.inventory.proofs.Inside.{held, or_first, or_second, Inside, inside_itself, inside_more, inside_same}
use Rattle.inventory.proofs.TellingCalls.{TellsOne, told_file, told_volume, told_quarantined}

-- ---- calls that tell

-- the calls cs lead from u to e, which has what they tell
record TellsAll (t u : State) (cs : List Call) (e : State) : Type 0 where
  inside : Inside e t
  keeps : Inside u e
  files : (f : ℕ) → Memᴰ (change add_file f) cs → e.files f ≡ true
  volumes : (v : ℕ) → Memᴰ (change (add_volume t.code) v) cs → held e v ≡ true
  moved : (v : ℕ) → held u v ≡ true → Memᴰ (change quarantine v) cs → e.quarantined v ≡ true
  quarantined : (v : ℕ) → Before (change (add_volume t.code) v) (change quarantine v) cs → e.quarantined v ≡ true

tells_more : {t u w e : State} {c : Call} {cs : List Call} → TellsOne t u c w → TellsAll t w cs e → TellsAll t u (c ∷ cs) e
unfolding Before
tells_more one all = record {
  inside = all.inside;
  keeps = inside_more one.keeps all.keeps;
  files = λ f m. ⊎_elim (λ p. all.keeps.files f (one.files f p)) (all.files f) (Memᴰ.cases_cons m);
  volumes = λ v m. ⊎_elim (λ p. all.keeps.volumes v (one.volumes v p)) (all.volumes v) (Memᴰ.cases_cons m);
  moved = λ v l m.
      ⊎_elim (λ p. all.keeps.quarantined v (one.quarantined v p l)) (all.moved v (one.keeps.volumes v l)) (Memᴰ.cases_cons m);
  quarantined = λ v m. ⊎_elim (λ p. all.moved v (one.volumes v p.0) p.1) (all.quarantined v) m;
}

module _ (t : State) (ranged : Ranged t) where
  -- the call c, which tells of t, leads from u to a state that has what it tells
  next_tells : (c : Call) (u : State) → Inside u t → Tells t c → TellsOne t u c (next u c)
  unfolding Tells
  next_tells (change add_file g) u h e = told_file t u h g e (rw h.same_n (ranged.files g e))
  next_tells (change (add_volume c) g) u h (z, e) = told_volume t u h c g z e (rw h.same_n (volume_ranged (t.volumes g) refl e))
    where
      volume_ranged : (b : Bool) → t.volumes g ≡ b → (b || t.quarantined g) ≡ true → is_volume t.n g ≡ true
      volume_ranged true p e = ranged.volumes g p
      volume_ranged false p e = ranged.quarantined g e
  next_tells (change quarantine g) u h e = told_quarantined t u h g e (rw h.same_n (ranged.quarantined g e))
  next_tells (change remove_file g) u h e = absurd e
  next_tells (change remove_volume g) u h e = absurd e
  next_tells (change release g) u h e = absurd e
  next_tells count u h e = absurd e
  next_tells (query g room) u h e = absurd e

  after_tells : (cs : List Call) (u : State) → Inside u t → ((c : Call) → Memᴰ c cs → Tells t c) → TellsAll t u cs (after u cs)
  unfolding after Before
  after_tells [] u h only = record {
    inside = h;
    keeps = inside_itself u;
    files = λ f m. absurd (Memᴰ.not-nil m);
    volumes = λ v m. absurd (Memᴰ.not-nil m);
    moved = λ v l m. absurd (Memᴰ.not-nil m);
    quarantined = λ v m. absurd m;
  }
  after_tells (c ∷ cs) u h only = let one = next_tells c u h (only c (Memᴰ.head refl)) in
      tells_more one (after_tells cs (next u c) one.inside (λ d m. only d (Memᴰ.tail m)))

  pub opened_told : (d : Code) (n : ℕ) (size : ℕ → ℕ) (tells : List Call) → t.code ≡ d → t.n ≡ n → t.size ≡ size → TellsExactly t tells
      → after (opened d n size) tells ≡ t
  opened_told d n size tells ed en es told =
      inside_same e t (after_ranged (opened d n size) tells (opened_ranged d n size)) ranged a.inside
      record {
        same_n = sym a.inside.same_n;
        same_size = sym a.inside.same_size;
        same_code = sym a.inside.same_code;
        files = λ f m. a.files f (told.files f m);
        volumes = λ v m. held_there v (t.volumes v) refl m;
        quarantined = λ v m. a.quarantined v (told.quarantined v m);
      }
    where
      e : State
      e = after (opened d n size) tells

      a : TellsAll t (opened d n size) tells e
      a =
          after_tells tells (opened d n size)
          record {
            same_n = sym en;
            same_size = sym es;
            same_code = sym ed;
            files = λ f e. absurd (false≢true e);
            volumes = λ v e. absurd (false≢true e);
            quarantined = λ v e. absurd (false≢true e);
          }
          told.only

      held_there : (v : ℕ) (b : Bool) → t.volumes v ≡ b → (b || t.quarantined v) ≡ true → held e v ≡ true
      held_there v true p m = a.volumes v (told.volumes v p)
      held_there v false p m = or_second (e.volumes v) (e.quarantined v) (a.quarantined v (told.quarantined v m))

pub after_told : (d : Code) (n : ℕ) (size : ℕ → ℕ) (cs tells : List Call) → TellsExactly (after (opened d n size) cs) tells
    → after (opened d n size) tells ≡ after (opened d n size) cs
after_told d n size cs tells told = let same = after_same (opened d n size) cs in
    opened_told (after (opened d n size) cs) (after_ranged (opened d n size) cs (opened_ranged d n size)) d n size tells same.same_code
    same.same_n same.same_size told

-- ---- there are such calls

-- the calls cs, after the call c where the test passes
with_call : Bool → Call → List Call → List Call
with_call true c cs = c ∷ cs
with_call false c cs = cs

call_in : (b : Bool) (c : Call) (cs : List Call) → b ≡ true → Memᴰ c (with_call b c cs)
unfolding with_call
call_in true c cs e = Memᴰ.head refl
call_in false c cs e = absurd (false≢true e)

call_more : (b : Bool) (c d : Call) (cs : List Call) → Memᴰ d cs → Memᴰ d (with_call b c cs)
unfolding with_call
call_more true c d cs m = Memᴰ.tail m
call_more false c d cs m = m

call_cases : (b : Bool) (c d : Call) (cs : List Call) → Memᴰ d (with_call b c cs) → ((b ≡ true) × (d ≡ c)) ⊎ Memᴰ d cs
unfolding with_call
call_cases true c d cs m = ⊎_elim (λ (e : d ≡ c). inl (refl, e)) (λ (n : Memᴰ d cs). inr n) (Memᴰ.cases_cons m)
call_cases false c d cs m = inr m

-- two calls, one after the other
before_first : (b : Bool) (c d : Call) (cs : List Call) {e : Call} → b ≡ true → e ≡ c → Memᴰ d cs → Before e d (with_call b c cs)
unfolding with_call Before
before_first true c d cs p q m = inl (q, m)
before_first false c d cs p q m = absurd (false≢true p)

before_later : (b : Bool) (c d e : Call) (cs : List Call) → Before d e cs → Before d e (with_call b c cs)
unfolding with_call Before
before_later true c d e cs m = inr m
before_later false c d e cs m = m

-- the calls that tell what is present and what is quarantined in t, of the numbers 1 to m
module _ (t : State) where
  calls_for : ℕ → List Call
  calls_for zero = []
  calls_for (suc m) =
      with_call (t.files (suc m)) (change add_file (suc m))
      (with_call (held t (suc m)) (change (add_volume t.code) (suc m)) (with_call (t.quarantined (suc m)) (change quarantine (suc m)) (calls_for m)))

  calls_only : (m : ℕ) (c : Call) → Memᴰ c (calls_for m) → Tells t c
  unfolding calls_for Tells
  calls_only zero c h = absurd (Memᴰ.not-nil h)
  calls_only (suc m) c h =
      ⊎_elim (λ p. subst (Tells t) (sym p.1) p.0)
      (λ h. ⊎_elim (λ p. subst (Tells t) (sym p.1) (refl, p.0))
      (λ h. ⊎_elim (λ p. subst (Tells t) (sym p.1) p.0) (calls_only m c)
      (call_cases (t.quarantined (suc m)) (change quarantine (suc m)) c _ h)) (call_cases (held t (suc m)) (change (add_volume t.code) (suc m)) c _ h))
      (call_cases (t.files (suc m)) (change add_file (suc m)) c _ h)

  -- what tells of the numbers before tells of all
  calls_before : (m : ℕ) (c : Call) → Memᴰ c (calls_for m) → Memᴰ c (calls_for (suc m))
  unfolding calls_for
  calls_before m c h = call_more _ _ c _ (call_more _ _ c _ (call_more _ _ c _ h))

  calls_file : (m f : ℕ) → 1 ≤ f → f ≤ m → t.files f ≡ true → Memᴰ (change add_file f) (calls_for m)
  unfolding calls_for
  calls_file zero f h l e = absurd (omega arith)
  calls_file (suc m) f h l e = elim (ℕ_discrete f (suc m)) [
    | yes p ↦ Memᴰ.cast (ap (change add_file) p) (call_in _ (change add_file (suc m)) _ (ap t.files (sym p) ∙ e))
    | no q ↦ calls_before m _ (calls_file m f h (omega arith) e)
  ]

  calls_volume : (m v : ℕ) → 1 ≤ v → v ≤ m → held t v ≡ true → Memᴰ (change (add_volume t.code) v) (calls_for m)
  unfolding calls_for
  calls_volume zero v h l e = absurd (omega arith)
  calls_volume (suc m) v h l e = elim (ℕ_discrete v (suc m)) [
    | yes p ↦ call_more _ _ _ _ (Memᴰ.cast (ap (change (add_volume t.code)) p) (call_in _ (change (add_volume t.code) (suc m)) _ (ap (held t) (sym p) ∙ e)))
    | no q ↦ calls_before m _ (calls_volume m v h (omega arith) e)
  ]

  calls_quarantined : (m v : ℕ) → 1 ≤ v → v ≤ m → t.quarantined v ≡ true → Before (change (add_volume t.code) v) (change quarantine v) (calls_for m)
  unfolding calls_for
  calls_quarantined zero v h l e = absurd (omega arith)
  calls_quarantined (suc m) v h l e = elim (ℕ_discrete v (suc m)) [
    | yes p ↦
        before_later _ _ _ _ _
        (before_first _ _ _ _ (or_second (t.volumes (suc m)) (t.quarantined (suc m)) (ap t.quarantined (sym p) ∙ e)) (ap (change (add_volume t.code)) p)
        (Memᴰ.cast (ap (change quarantine) p) (call_in _ (change quarantine (suc m)) _ (ap t.quarantined (sym p) ∙ e))))
    | no q ↦
        before_later _ _ _ _ _ (before_later _ _ _ _ _ (before_later _ _ _ _ _ (calls_quarantined m v h (omega arith) e)))
  ]

  pub calls_for_lem : Ranged t → (cs : List Call) × TellsExactly t cs
  calls_for_lem ranged = (
    calls_for (t.n + 255),
    record {
      only = calls_only (t.n + 255);
      files = λ f e. let r = one_to_inside t.n f (ranged.files f e) in calls_file (t.n + 255) f r.0 (omega arith) e;
      volumes = λ v e.
          let r = one_to_inside _ v (ranged.volumes v e) in
          calls_volume (t.n + 255) v r.0 (omega arith) (or_first (t.volumes v) (t.quarantined v) e);
      quarantined = λ v e.
          let r = one_to_inside _ v (ranged.quarantined v e) in
          calls_quarantined (t.n + 255) v r.0 (omega arith) e;
    },
  )

pub retold : Retold
retold d n size cs = calls_for_lem (after (opened d n size) cs) (after_ranged (opened d n size) cs (opened_ranged d n size))
