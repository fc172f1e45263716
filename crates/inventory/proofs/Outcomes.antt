-- What the calls hand back, case by case.
--
--   outcome_of, outcome_back, handed_back_one, refused_tells      what a call returns tells its outcome, a refused one too
--   returned, returned_ok, returned_err, returned_number          what is left where of a refusal the number alone is told
--   files_changed, volumes_changed, both_changed, number_same     adding, removing, quarantine and release
--   changed_returned, files_returned, volumes_returned, not_changed     what these return
--   first_fails, first_holds                       a row of tests
--   open_out_of_range, open_miscounted, open_too_large, open_accepted     opening
--   nonempty_more, nonempty_same                   the loop of opening
-- Assumes nothing.
use mathlib.Core.Path.{◌≡◌, refl, sym, ap, ap₂, ◌∙◌}
use mathlib.Core.Logic.{◌≢◌}
use mathlib.Core.Bool.{Bool, true, false, cond, ◌&&◌, and-false, true≢false}
use mathlib.Core.List.{List}
use Prim.Native.Nat.{ℕ, suc, ◌<◌, ◌≤◌, ◌+◌}
use native.Mathlib.Numerals.{add-one}
use lib.Dec.{leb, eqb}
use lib.ListN.{length, get_or}
use borrow.Author.Tests.{eqb-true, eq-eqb, ne_eqb, le-leb, lt-leb}
use Rattle.computed_tests.specs.Numbers.{one_to, all_below}
use Rattle.computed_tests.proofs.Tests.{all_false, all_true}
use Rattle.codes.specs.declared.Code.{Code}
use Rattle.number_sets.specs.Sets.{inserted}
use Rattle.std.specs.Prelude.{Result, Ok, Err, MatchResult}
use Rattle.std.specs.Result.{IsErrAnd}
use Rattle.std.proofs.lemmas.Result.{err_from_is_err_and}
use Rattle.inventory.specs.Steps.{change_number, unless_refused, refusal, or_refused, or_refusal, handed_back}
use Rattle.inventory.specs.Steps.{if_inventory, outcome, accepted, with_files, with_volumes, fresh, refused_opening, nonempty_of, open_step}
use Rattle.inventory.specs.declared.Inventory.{Inventory}
use Rattle.inventory.specs.declared.Refused.{Refused}
use Rattle.inventory.specs.Outcome.{Outcome}

-- ---- what a call returns tells its outcome

-- the outcome that is told by what a call returns
pub outcome_of : Result Inventory Refused → Outcome
outcome_of (Ok s) = outcome s 0
outcome_of (Err r) = outcome r.inventory r.number

pub outcome_back : (o : Outcome) → outcome_of (handed_back o) ≡ o
unfolding outcome_of
outcome_back o = go (eqb o.number 0) refl
  where
    go : (b : Bool) → eqb o.number 0 ≡ b → outcome_of (cond b (Ok o.next) (Err (refusal o))) ≡ o
    go true e = ap (outcome o.next) (sym (eqb-true o.number 0 e))
    go false e = refl

-- an opening or a change returns one thing for each outcome, a refused one too
pub handed_back_one : (o o' : Outcome) → handed_back o ≡ handed_back o' → o ≡ o'
handed_back_one o o' e = sym (outcome_back o) ∙ ap outcome_of e ∙ outcome_back o'

-- a refusal is none of the number 0, and has the number and the inventory of the outcome
pub refused_tells : (o : Outcome) {r : Refused} → Err r ≡ handed_back o → (o.number ≢ 0) × (r.number ≡ o.number) × (r.inventory ≡ o.next)
refused_tells o {r} h = go (eqb o.number 0) refl h
  where
    go : (b : Bool) → eqb o.number 0 ≡ b → Err r ≡ cond b (Ok o.next) (Err (refusal o)) → (o.number ≢ 0) × (r.number ≡ o.number) × (r.inventory ≡ o.next)
    go true e h = absurd (cc)
    go false e h = let same : r ≡ refusal o = cc in
        (λ z. true≢false (sym (eq-eqb o.number 0 z) ∙ e), ap (λ (r : Refused). r.number) same, ap (λ (r : Refused). r.inventory) same)

-- what is left where of a refusal the number alone is told
abbrev pub returned : Outcome → Result Inventory ℕ
returned o = or_refusal o.next o.number

pub returned_ok : (o : Outcome) {t : Inventory} → Ok t ≡ handed_back o → Ok t ≡ returned o
returned_ok o {t} h = go (eqb o.number 0) h
  where
    go : (b : Bool) → Ok t ≡ cond b (Ok o.next) (Err (refusal o)) → Ok t ≡ cond b (Ok o.next) (Err o.number)
    go true h = cc
    go false h = absurd (cc)

pub returned_err : (o : Outcome) {r : Refused} → Err r ≡ handed_back o → Err r.number ≡ returned o
returned_err o h = let t = refused_tells o h in
    ap Err t.1 ∙ sym (ap (λ (b : Bool). cond b (Ok o.next) (Err o.number)) (ne_eqb o.number 0 t.0))

-- what a call returns, its refusal made the number
pub returned_number : (o : Outcome) {q : Result Inventory Refused} {s : Result Inventory ℕ} (P : Refused → ℕ → Type 0) → q ≡ handed_back o
    → MatchResult q (λ t. s ≡ Ok t) (λ r. IsErrAnd s (P r)) → ((r : Refused) (k : ℕ) → P r k → k ≡ r.number) → s ≡ returned o
returned_number o {q = Ok t} P h m f = m ∙ returned_ok o h
returned_number o {q = Err r} {s} P h m f = let p = err_from_is_err_and s m in p.1 ∙ ap Err (f r p.0 p.2) ∙ returned_err o h

-- ---- adding, removing, quarantine and release

-- a call that changes one of the sets, the files or the volumes, unless it is refused
module _ (s : Inventory) (ws now changed : List ℕ) (k number : ℕ) (is : changed ≡ ws) (same : k ≡ number) where
  set-changed : (put : List ℕ → Inventory) (set : List ℕ) → put set ≡ s → now ≡ unless_refused k changed set
      → outcome (put now) k ≡ accepted number (put ws) s
  set-changed put set own e =
      ap (λ (b : List ℕ). outcome (put b) k) (e ∙ ap (λ (b : List ℕ). unless_refused k b set) is)
      ∙ go (eqb k 0) ∙ ap (λ (k : ℕ). accepted k (put ws) s) same
    where
      go : (b : Bool) → outcome (put (cond b ws set)) k ≡ outcome (cond b (put ws) s) k
      go true = refl
      go false = ap (λ (x : Inventory). outcome x k) own

  pub files_changed : now ≡ unless_refused k changed s.files → outcome (with_files s now) k ≡ accepted number (with_files s ws) s
  files_changed = set-changed (with_files s) s.files refl

  pub volumes_changed : now ≡ unless_refused k changed s.volumes
      → outcome (with_volumes s now s.quarantined) k ≡ accepted number (with_volumes s ws s.quarantined) s
  volumes_changed = set-changed (λ ws. with_volumes s ws s.quarantined) s.volumes refl

  -- a call that changes both sets of volumes, unless it is refused
  pub both_changed : {qs aside changed' : List ℕ} → changed' ≡ qs → now ≡ unless_refused k changed s.volumes
      → aside ≡ unless_refused k changed' s.quarantined → outcome (with_volumes s now aside) k ≡ accepted number (with_volumes s ws qs) s
  both_changed {qs} is' e f =
      ap₂ (λ (b c : List ℕ). outcome (with_volumes s b c) k) (e ∙ ap (λ (b : List ℕ). unless_refused k b s.volumes) is)
      (f ∙ ap (λ (b : List ℕ). unless_refused k b s.quarantined) is')
      ∙ go (eqb k 0) ∙ ap (λ (k : ℕ). accepted k (with_volumes s ws qs) s) same
    where
      go : (b : Bool) → outcome (with_volumes s (cond b ws s.volumes) (cond b qs s.quarantined)) k ≡ outcome (cond b (with_volumes s ws qs) s) k
      go true = refl
      go false = refl

-- what a change returns after the test of its number k: the inventory changed, or the one that it was given, with the number
module _ (s : Inventory) (k number : ℕ) (same : k ≡ number) where
  passed : Ok tt ≡ or_refused (tt {0}) (outcome s k) → k ≡ 0
  passed h = go (eqb k 0) refl h
    where
      go : (b : Bool) → eqb k 0 ≡ b → Ok tt ≡ cond b (Ok (tt {0})) (Err (refusal (outcome s k))) → k ≡ 0
      go true e h = eqb-true k 0 e
      go false e h = absurd (cc)

  -- the set after a test that passed
  set_after : (changed before : List ℕ) → k ≡ 0 → changed ≡ unless_refused k changed before
  set_after changed before z = ap (λ (k : ℕ). unless_refused k changed before) (sym z)

  handed : (t : Inventory) {o : Outcome} → k ≡ 0 → outcome t k ≡ o → Ok t ≡ handed_back o
  handed t z e = ap (λ (k : ℕ). handed_back (outcome t k)) (sym z) ∙ ap handed_back e

  pub changed_returned : (t : Inventory) → Ok tt ≡ or_refused (tt {0}) (outcome s k) → Ok t ≡ handed_back (accepted number t s)
  changed_returned t h = let z = passed h in
      handed t z (ap (λ (j : ℕ). outcome (unless_refused j t s) k) (sym z) ∙ ap (λ (k : ℕ). accepted k t s) same)

  pub files_returned : {ws now : List ℕ} → now ≡ ws → Ok tt ≡ or_refused (tt {0}) (outcome s k)
      → Ok (with_files s now) ≡ handed_back (accepted number (with_files s ws) s)
  files_returned {ws} {now} e h = let z = passed h in handed (with_files s now) z (files_changed s ws now now k number e same (set_after now s.files z))

  pub volumes_returned : {ws now qs aside : List ℕ} → now ≡ ws → aside ≡ qs → Ok tt ≡ or_refused (tt {0}) (outcome s k)
      → Ok (with_volumes s now aside) ≡ handed_back (accepted number (with_volumes s ws qs) s)
  volumes_returned {ws} {now} {qs} {aside} e f h = let z = passed h in
      handed (with_volumes s now aside) z
      (both_changed s ws now now k number e same f (set_after now s.volumes z) (set_after aside s.quarantined z))

  pub not_changed : (t : Inventory) (r : Refused) → Err r ≡ or_refused (tt {0}) (outcome s k) → Err r ≡ handed_back (accepted number t s)
  not_changed t r h = go (eqb k 0) h ∙ ap (λ (k : ℕ). handed_back (accepted k t s)) same
    where
      go : (b : Bool) → Err r ≡ cond b (Ok (tt {0})) (Err (refusal (outcome s k)))
          → Err r ≡ cond b (Ok (cond b t s)) (Err (refusal (outcome (cond b t s) k)))
      go true h = absurd (cc)
      go false h = cc

-- the tests of the code are those of the step
pub number_same : (s : Inventory) {a a' b b' c c' d d' : Bool} → a ≡ a' → b ≡ b' → c ≡ c' → d ≡ d'
    → if_inventory s (change_number a b c d) ≡ if_inventory s (change_number a' b' c' d')
number_same s e f g h = cc

-- ---- a row of tests

pub first_fails : (a b : Bool) → a ≡ false → false ≡ (a && b)
first_fails a b e = sym (ap (λ (x : Bool). x && b) e)

pub first_holds : (a b r : Bool) → a ≡ true → r ≡ b → r ≡ (a && b)
first_holds a b r e h = h ∙ sym (ap (λ (x : Bool). x && b) e)

-- ---- opening

abbrev fits : List ℕ → ℕ → Bool
fits sizes i = leb (get_or sizes i 0) 16777216

abbrev opening : Code → ℕ → List ℕ → Bool → Bool → Outcome
opening d n sizes counted small = cond counted (cond small (outcome (fresh d n sizes) 0) (refused_opening 1)) (refused_opening 10)

module _ (d : Code) (n : ℕ) (sizes : List ℕ) where
  pub open_out_of_range : one_to 254 n ≡ false → refused_opening 10 ≡ open_step d n sizes
  unfolding open_step
  open_out_of_range e = sym (ap (λ (b : Bool). opening d n sizes (b && eqb (length sizes) n) (all_below n (fits sizes))) e)

  pub open_miscounted : length sizes ≢ n → refused_opening 10 ≡ open_step d n sizes
  unfolding open_step
  open_miscounted q =
      sym (ap (λ (b : Bool). opening d n sizes (one_to 254 n && b) (all_below n (fits sizes))) (ne_eqb (length sizes) n q)
      ∙ ap (λ (b : Bool). opening d n sizes b (all_below n (fits sizes))) (and-false (one_to 254 n)))

  module _ (r : one_to 254 n ≡ true) (c : length sizes ≡ n) where
    counted : (one_to 254 n && eqb (length sizes) n) ≡ true
    counted = ap₂ (λ (a b : Bool). a && b) r (eq-eqb (length sizes) n c)

    pub open_too_large : (k : ℕ) → k < n → 16777216 < get_or sizes k 0 → refused_opening 1 ≡ open_step d n sizes
    unfolding open_step
    open_too_large k l h = sym (ap₂ (opening d n sizes) counted (all_false n (fits sizes) k l (lt-leb (get_or sizes k 0) 16777216 h)))

    pub open_accepted : ((k : ℕ) → k < n → get_or sizes k 0 ≤ 16777216) → outcome (fresh d n sizes) 0 ≡ open_step d n sizes
    unfolding open_step
    open_accepted h = sym (ap₂ (opening d n sizes) counted (all_true n (fits sizes) (λ k l. le-leb (get_or sizes k 0) 16777216 (h k l))))

-- ---- the loop of opening

pub nonempty_more : (sizes ws : List ℕ) (k : ℕ) → ws ≡ nonempty_of sizes k → 1 ≤ get_or sizes k 0
    → inserted (k + 1) ws ≡ nonempty_of sizes (k + 1)
unfolding nonempty_of
nonempty_more sizes ws k e h =
    ap₂ inserted (add-one k) e
    ∙ sym (ap (λ (b : Bool). cond b (inserted (suc k) (nonempty_of sizes k)) (nonempty_of sizes k)) (le-leb 1 (get_or sizes k 0) h))
    ∙ ap (nonempty_of sizes) (sym (add-one k))

pub nonempty_same : (sizes ws : List ℕ) (k : ℕ) → ws ≡ nonempty_of sizes k → get_or sizes k 0 < 1
    → ws ≡ nonempty_of sizes (k + 1)
unfolding nonempty_of
nonempty_same sizes ws k e h =
    e ∙ sym (ap (λ (b : Bool). cond b (inserted (suc k) (nonempty_of sizes k)) (nonempty_of sizes k)) (lt-leb 1 (get_or sizes k 0) h))
    ∙ ap (nonempty_of sizes) (sym (add-one k))
