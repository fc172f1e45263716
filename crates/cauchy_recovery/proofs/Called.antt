-- A query after any list of calls on an inventory opened for Cauchy coefficients.
--
--   reply_undetermined     the model's reply to a query of a missing file that is not recoverable
--   any_will_do_called     the claim
-- Assumes nothing.
use mathlib.Core.Path.{◌≡◌, refl, sym, ap, subst}
use mathlib.Core.Bool.{true, false}
use mathlib.Core.List.{List}
use Prim.Native.Nat.{ℕ, ◌≤◌, ◌<◌}
use Rattle.codes.specs.declared.Code.{Code}
use Rattle.codes.specs.declared.Code.TheVariants.{Cauchy}
use Rattle.parity.specs.Coefficient.{rule_of}
use Rattle.parity.specs.Parity.{is_file}
use Rattle.recovery.specs.Recoverable.{State, Recoverable}
use Rattle.inventory.specs.Model.{Call, Reply, queried, opened, GivesMissing, undetermined, no_room, recoverable}
use Rattle.inventory.specs.Claim.{size_in}
use Rattle.inventory.specs.declared.Inventory.{Inventory}
use Rattle.inventory.proofs.Calls.{after_same}
use Rattle.inventory.proofs.Condition.{calls_fit, calls_file, asked, condition}
use Rattle.cauchy_recovery.specs.Claim.{volumes_present, nonempty_missing, state_after, Reached, AnyWillDoCalled}
use Rattle.cauchy_recovery.proofs.AnyWillDo.{any_will_do}

reply_undetermined : (rule : ℕ → ℕ → ℕ) (t : State) (f : ℕ) (room : List ℕ) (number : ℕ) (room' : List ℕ) → ¬ Recoverable rule t f
    → (r : Reply) → r ≡ queried number room' → GivesMissing rule t f room r → (number ≡ 12) × (room' ≡ room)
reply_undetermined rule t f room number room' h r e (undetermined q) = let n : number ≡ 12 = cc in let s : room' ≡ room = cc in (n, s)
reply_undetermined rule t f room number room' h r e (no_room y b) = absurd (h y)
reply_undetermined rule t f room number room' h r e (recoverable y b w W) = absurd (h y)

module _ (n : ℕ) (sizes : List ℕ) (cs : List Call) (s : Inventory) (reached : Reached n sizes cs s) (f : ℕ) (is_file_lem : is_file n f ≡ true)
    (missing : (state_after n sizes cs).files f ≡ false) where
  abbrev now : State
  now = state_after n sizes cs

  by_code : now.code ≡ Cauchy
  by_code = (after_same (opened Cauchy n (size_in sizes)) cs).same_code

  same_size : now.size f ≡ size_in sizes f
  same_size = ap (λ (g : ℕ → ℕ). g f) (after_same (opened Cauchy n (size_in sizes)) cs).same_size

  fits : now.n ≤ 254
  fits = calls_fit Cauchy n sizes cs reached.accepted

  in_range_lem : is_file now.n f ≡ true
  in_range_lem = calls_file Cauchy n sizes cs f is_file_lem

  back : nonempty_missing now ≤ volumes_present now → Recoverable (rule_of Cauchy) now f
  back many = subst (λ (c : Code). Recoverable (rule_of c) now f) by_code (any_will_do.enough now by_code fits many f in_range_lem missing)

  gone : volumes_present now < nonempty_missing now → 1 ≤ size_in sizes f → ¬ Recoverable (rule_of Cauchy) now f
  gone few full y =
      any_will_do.too_few now by_code fits few f in_range_lem missing (subst (λ (k : ℕ). 1 ≤ k) (sym same_size) full)
      (subst (λ (c : Code). Recoverable (rule_of c) now f) (sym by_code) y)

pub any_will_do_called : AnyWillDoCalled
any_will_do_called = record {
  enough = λ n sizes cs s reached many f is_file_lem missing room l number room' e did.
      ((condition Cauchy n sizes reached.accepted cs reached.replies s reached.run).exactly f is_file_lem missing room l number room' e did).1
      (back n sizes cs s reached f is_file_lem missing many);
  too_few = λ n sizes cs s reached few f is_file_lem missing full room number room' e did.
      reply_undetermined (rule_of Cauchy) (state_after n sizes cs) f room number room' (gone n sizes cs s reached f is_file_lem missing few full)
      (queried number room') refl
      (asked rule_of Cauchy n sizes reached.accepted cs reached.replies s reached.run f is_file_lem missing room (queried number room') e did);
}
