-- Which calls are refused with 10 after an accepted opening (document 01, "The sheet"; document 02, 2026-10).
--
--   range_exactly             what is out of range
--   change_10                 the model's number of a change is 10 exactly where it is out of range
--   query_10                  so is that of a query
--   range_refused_for, range_refused     the claim over any rules, and at those of the two codes
-- Assumes nothing.
use mathlib.Core.Path.{◌≡◌, refl, sym, ap, ◌∙◌, subst}
use mathlib.Core.Logic.{◌↔◌}
use mathlib.Core.Bool.{Bool, true, false, true≢false}
use mathlib.Core.List.{List}
use Prim.Native.Nat.{ℕ, ◌-◌}
use native.Mathlib.Omega.{arith}
use Rattle.codes.specs.declared.Code.{Code}
use Rattle.parity.specs.Coefficient.{rule_of}
use Rattle.parity.specs.Parity.{is_file}
use Rattle.recovery.specs.Recoverable.{State}
use Rattle.inventory.specs.Model.{Change, add_file, remove_file, add_volume, remove_volume, quarantine, release, number_of}
use Rattle.inventory.specs.Model.{Call, change, count, query, reply, opened, after, Gives, GivesQuery}
use Rattle.inventory.specs.Steps.{in_range, of_other_code, while_quarantined, already, change_number}
use Rattle.inventory.specs.Claim.{size_in, OutOfRange, RangeRefusedFor, RangeRefused}
use Rattle.inventory.proofs.Outside.{outside_exactly}
use Rattle.inventory.proofs.ChangeNumbers.{model_number}
use Rattle.inventory.proofs.Representation.{meets}
use Rattle.inventory.proofs.Calls.{after_same, missing_not}
use Rattle.inventory.proofs.Condition.{calls_sound}

-- ---- changes

number_10 : (ranged other aside done : Bool) → (change_number ranged other aside done ≡ 10) ↔ (ranged ≡ false)
unfolding change_number
number_10 true true aside done = (λ e. absurd (omega arith), λ z. absurd (true≢false z))
number_10 true false true done = (λ e. absurd (omega arith), λ z. absurd (true≢false z))
number_10 true false false true = (λ e. absurd (omega arith), λ z. absurd (true≢false z))
number_10 true false false false = (λ e. absurd (omega arith), λ z. absurd (true≢false z))
number_10 false other aside done = (λ e. refl, λ e. refl)

pub range_exactly : (n : ℕ) (c : Change) (k : ℕ) → (in_range c n k ≡ false) ↔ OutOfRange n (change c k)
unfolding in_range OutOfRange
range_exactly n add_file f = outside_exactly n f
range_exactly n remove_file f = outside_exactly n f
range_exactly n (add_volume c) v = outside_exactly (255 - n) v
range_exactly n remove_volume v = outside_exactly (255 - n) v
range_exactly n quarantine v = outside_exactly (255 - n) v
range_exactly n release v = outside_exactly (255 - n) v

pub change_10 : (t : State) (c : Change) (k : ℕ) → (number_of t c k ≡ 10) ↔ OutOfRange t.n (change c k)
change_10 t c k = let is = model_number t c k in
    let ten =
    number_10 (in_range c t.n k) (of_other_code c t.code) (while_quarantined c t.quarantined k)
    (already c t.files t.volumes t.quarantined k) in
    let out = range_exactly t.n c k in
    (λ e. out.0 (ten.0 (sym is ∙ e)), λ o. is ∙ ten.1 (out.1 o))

-- ---- queries

query_10 : (rule : ℕ → ℕ → ℕ) (t : State) (f : ℕ) (room : List ℕ) (k : ℕ) (values : List ℕ) (ranged has : Bool)
    → GivesQuery rule t f room ranged has (reply k values) → (k ≡ 10) ↔ (ranged ≡ false)
query_10 rule t f room k values false has g = (λ e. refl, λ e. cc)
query_10 rule t f room k values true true g = let is : k ≡ 13 = cc in (λ e. absurd (omega arith), λ z. absurd (true≢false z))
query_10 rule t f room k values true false g = (
  λ e. absurd
      (missing_not rule t f room 10 values (λ z. omega arith) (λ z. omega arith) (λ z. omega arith) (reply k values)
      (ap (λ (j : ℕ). reply j values) e) g),
  λ z. absurd (true≢false z),
)

-- ---- every call

gives_10 : (rules : Code → ℕ → ℕ → ℕ) (t : State) (c : Call) (k : ℕ) (values : List ℕ) → Gives rules t c (reply k values)
    → (k ≡ 10) ↔ OutOfRange t.n c
unfolding Gives OutOfRange
gives_10 rules t (change c j) k values g = let is : k ≡ number_of t c j = cc in
    let ten = change_10 t c j in
    (λ e. ten.0 (sym is ∙ e), λ o. is ∙ ten.1 o)
gives_10 rules t count k values g = let is : k ≡ 0 = cc in (λ e. omega arith, λ z. absurd z)
gives_10 rules t (query f room) k values g = let ten = query_10 (rules t.code) t f room k values (is_file t.n f) (t.files f) g in
    let out = outside_exactly t.n f in
    (λ e. out.0 (ten.0 e), λ o. ten.1 (out.1 o))

pub range_refused_for : (rules : Code → ℕ → ℕ → ℕ) → RangeRefusedFor rules
range_refused_for rules d n sizes cs s reached c k values e step = let start : State = opened d n (size_in sizes) in
    let R = (calls_sound rules d n sizes reached.accepted cs reached.replies s reached.run).1 in
    subst (λ (m : ℕ). (k ≡ 10) ↔ OutOfRange m c) (after_same start cs).same_n
    (gives_10 rules (after start cs) c k values (meets rules (size_in sizes) (after start cs) s c (reply k values) e R step).0)

pub range_refused : RangeRefused
range_refused = range_refused_for rule_of
