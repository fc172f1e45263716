-- What a call gives that writes into lent bytes.
--
--   written_fits, written_short     where the bytes fit, and where they do not
--   unless_none, unless_refused     after the call's tests
--   unless_accepted                 accepted, where the tests hold nowhere and the bytes fit
--   never, not-refused              a refusal is no acceptance
--   refused_tells, accepted_tells   what an answer tells
--   refused_exactly                 which refusals a call gives, from the first one that holds, or none
--   Accepted, unless_tells          what it tells where it is accepted
--   unless_same, writing_kept       a refusal leaves the bytes
--   kept_by_number                  so it does where it is told by its number
--   refused_as, numbered_as         as a refusal, and as a number
--   numbered-none                   as a number, where the tests hold nowhere
--   written_refusal                 where there are no tests, the number says it all
--   unless_within                   which refusals it gives
-- Assumes nothing.
use Rattle.std.specs.Prelude.{Ok, Err}
use mathlib.Core.Path.{◌≡◌, refl, sym, ap, ap₂, ◌∙◌, subst}
use mathlib.Core.Logic.{◌≢◌}
use mathlib.Core.Bool.{Bool, true, false, cond}
use mathlib.Core.List.{List, ◌++◌}
use Prim.Native.Nat.{ℕ, ◌≤◌, ◌<◌}
use native.Mathlib.Omega.{arith}
use borrow.Author.Tests.{leb-true, le-leb, lt-leb, eqb-true, eq-eqb, ne_eqb}
use lib.Dec.{leb, eqb}
use lib.ListN.{length, take, drop}
use lib.Seq.{take-append_seam}
use Rattle.lent_bytes.specs.Writing.{refused, accepted, written, written_unless, RefusedExactly, writing_refusal, with_refusal, with_number, Kept}
use Rattle.lent_bytes.specs.Claim.{WritingKept}
use Rattle.refusals.specs.Tests.{bare}
use Rattle.refusals.specs.declared.Refusal.{Refusal}
use Rattle.refusals.proofs.RangeLaws.{Within, bare-within}
use Rattle.lent_bytes.specs.Writing.{Writing}

pub written_fits : (s out : List ℕ) {n : ℕ} {t : List ℕ} → length s ≤ length out → n ≡ length s → t ≡ s ++ drop (length s) out
    → (Ok n, t) ≡ written s out
unfolding written
written_fits s out h size same = simp (le-leb (length s) (length out) h) (ap₂ (λ (k : ℕ) (l : List ℕ). (Ok k, l)) size same)

pub written_short : (s out : List ℕ) → length out < length s → refused (bare 14) out ≡ written s out
unfolding written
written_short s out h = simp (lt-leb (length s) (length out) h)

-- n is a name of what the tests give
module _ (s out : List ℕ) {n m : Refusal} (e : n ≡ m) where
  pub unless_none : {r : Writing × List ℕ} → n.number ≡ 0 → r ≡ written s out → r ≡ written_unless m s out
  unfolding written_unless
  unless_none z f = simp (eq-eqb m.number 0 (ap (λ (r : Refusal). r.number) (sym e) ∙ z)) f

  pub unless_refused : {t : List ℕ} → (n.number ≡ 0 → ⊥) → t ≡ out → (Err n, t) ≡ written_unless m s out
  unfolding written_unless
  unless_refused h same =
      simp (ne_eqb m.number 0 (λ z. h (ap (λ (r : Refusal). r.number) e ∙ z)))
      (ap₂ (λ (k : Refusal) (l : List ℕ). (Err k, l)) e same)

pub unless_accepted : (m : Refusal) (s out : List ℕ) → m.number ≡ 0 → length s ≤ length out → written_unless m s out ≡ accepted s out
unless_accepted m s out z fits = sym (unless_none s out refl z (written_fits s out fits refl refl))

-- the tests hold nowhere, the bytes fit, and they stand at the front
pub record Accepted (m : Refusal) (s out : List ℕ) (n : ℕ) (room : List ℕ) : Type 0 where
  pub none : m.number ≡ 0
  pub fits : length s ≤ length out
  pub length_is : n ≡ length s
  pub room_is : room ≡ s ++ drop (length s) out
  pub written_is : take n room ≡ s

pub never : {A : Type 0} {n : ℕ} {k : Refusal} {room out : List ℕ} → refused k out ≡ (Ok n, room) → A
never {A} {n} {k} e = let answer : Err k ≡ Ok n = ap (λ (p : Writing × List ℕ). p.0) e in
    absurd (let z : ◌≡◌ {A = ℕ} 0 1 = cc in omega arith)

pub not-refused : {A : Type 0} (s out : List ℕ) {r : Refusal} {room : List ℕ} → accepted s out ≡ (Err r, room) → A
not-refused s out {r} e = let answer : Ok (length s) ≡ Err r = ap (λ (p : Writing × List ℕ). p.0) e in
    absurd (let z : ◌≡◌ {A = ℕ} 0 1 = cc in omega arith)

pub refused_tells : {q r : Refusal} {out room : List ℕ} → refused q out ≡ (Err r, room) → (q ≡ r) × (room ≡ out)
refused_tells e = (ap (λ (p : Writing × List ℕ). writing_refusal p.0) e, sym (ap (λ (p : Writing × List ℕ). p.1) e))

pub accepted_tells : (s out : List ℕ) {n : ℕ} {room : List ℕ} → accepted s out ≡ (Ok n, room) → (n ≡ length s) × (room ≡ s ++ drop (length s) out)
accepted_tells s out {n} e =
    let answer : Ok (length s) ≡ Ok n = ap (λ (p : Writing × List ℕ). p.0) e in (cc, sym (ap (λ (p : Writing × List ℕ). p.1) e))

-- each refusal of R is given; and one of R holds, or s is written
pub refused_exactly : (R : Refusal → Type 0) {w : Writing × List ℕ} (s out : List ℕ) → ((r : Refusal) → R r → w ≡ refused r out)
    → ((P : Type 0) → ((r : Refusal) → R r → P) → (w ≡ accepted s out → P) → P) → RefusedExactly R w out
refused_exactly R s out given first r = (
  given r,
  λ room e. first (R r × (room ≡ out))
      (λ q f. let t = refused_tells (sym (given q f) ∙ e) in (subst R t.0 f, t.1)) (λ passed. not-refused s out (sym passed ∙ e)),
)

pub unless_tells : (m : Refusal) (s out : List ℕ) {n : ℕ} {room : List ℕ} → written_unless m s out ≡ (Ok n, room) → Accepted m s out n room
unfolding written_unless written
unless_tells m s out {n} {room} e = by (eqb m.number 0) (leb (length s) (length out)) refl refl e
  where
    by : (z f : Bool) → eqb m.number 0 ≡ z → leb (length s) (length out) ≡ f
        → cond z (cond f (accepted s out) (refused (bare 14) out)) (refused m out) ≡ (Ok n, room) → Accepted m s out n room
    by true true z f e = let t = accepted_tells s out e in
        record {
          none = eqb-true m.number 0 z;
          fits = leb-true (length s) (length out) f;
          length_is = t.0;
          room_is = t.1;
          written_is = ap₂ (λ (k : ℕ) (l : List ℕ). take k l) t.0 t.1 ∙ take-append_seam s (drop (length s) out);
        }
    by true false z f e = never e
    by false f z g e = never e

pub unless_same : (m : Refusal) (s out : List ℕ) {r : Refusal} {room : List ℕ} → written_unless m s out ≡ (Err r, room) → room ≡ out
unfolding written_unless written
unless_same m s out {r} {room} e = by (eqb m.number 0) (leb (length s) (length out)) e
  where
    by : (z f : Bool) → cond z (cond f (accepted s out) (refused (bare 14) out)) (refused m out) ≡ (Err r, room) → room ≡ out
    by true true e = not-refused s out e
    by true false e = (refused_tells e).1
    by false f e = (refused_tells e).1

pub writing_kept : WritingKept
unfolding written_unless
writing_kept = record {
  refused_at_once = λ r out k e. refl;
  for_room = λ s out k e. unless_same (bare 0) s out (ap (λ (w : Writing). (w, (written s out).1)) e);
  by_tests = λ r s out k e. unless_same r s out (ap (λ (w : Writing). (w, (written_unless r s out).1)) e);
}

pub kept_by_number : (w : Writing × List ℕ) {out : List ℕ} → Kept w out → (writing_refusal w.0).number ≢ 0 → w.1 ≡ out
kept_by_number (Ok n, t) k h = absurd (h refl)
kept_by_number (Err r, t) k h = k r refl

module _ {w : Writing} {t : List ℕ} {r : Writing × List ℕ} {k : Refusal} (e : k ≡ writing_refusal w) (f : (w, t) ≡ r) where
  pub refused_as : (k, t) ≡ with_refusal r
  refused_as = ap (λ (k : Refusal). (k, t)) e ∙ ap with_refusal f

  pub numbered_as : (k.number, t) ≡ with_number r
  numbered_as = ap (λ (p : Refusal × List ℕ). (p.0.number, p.1)) refused_as

-- the bytes l, which s names, are written where the number n of the tests is 0
pub numbered-none : (s out : List ℕ) (n : ℕ) {l : List ℕ} {r : ℕ × List ℕ} → n ≡ 0 → r ≡ with_number (written l out) → l ≡ s
    → r ≡ with_number (written_unless (bare n) s out)
numbered-none s out n z e same = e ∙ ap (λ (l : List ℕ). with_number (written l out)) same ∙ ap with_number (unless_none s out {n = bare n} refl z refl)

pub written_refusal : (s out : List ℕ) {n : ℕ} {t : List ℕ} → (n, t) ≡ with_number (written s out) → (bare n, t) ≡ with_refusal (written s out)
unfolding written
written_refusal s out e = ap (λ (p : ℕ × List ℕ). (bare p.0, p.1)) e ∙ by (leb (length s) (length out))
  where
    gives : Bool → Writing × List ℕ
    gives b = cond b (accepted s out) (refused (bare 14) out)

    by : (b : Bool) → (bare (with_number (gives b)).0, (with_number (gives b)).1) ≡ with_refusal (gives b)
    by true = refl
    by false = refl

pub unless_within : (k : ℕ) (m : Refusal) (s out : List ℕ) → Within k m → Within k (with_refusal (written_unless m s out)).0
unfolding written_unless written
unless_within k m s out w = by (eqb m.number 0) (leb (length s) (length out))
  where
    by : (z f : Bool) → Within k (with_refusal (cond z (cond f (accepted s out) (refused (bare 14) out)) (refused m out))).0
    by true true = bare-within k 0 (omega arith)
    by true false = bare-within k 14 (omega arith)
    by false f = w
