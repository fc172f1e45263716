-- What the calls on a running mul_add give, as the code works it out.
--
--   pushed-same     a push
--   ended_same      an end
-- Assumes nothing.
use mathlib.Core.Path.{◌≡◌, ap, ◌∙◌}
use mathlib.Core.List.{List}
use Prim.Native.Nat.{ℕ}
use Rattle.job_bytes.specs.MulAdds.{mul_add_of, mul_add_stored, mul_add_pushed, mul_add_ended}
use Rattle.running_mul_add.specs.Running.{push_of, end_of}
use Rattle.running_mul_add.specs.declared.Outcome.{Outcome}
use Rattle.running_mul_add.specs.declared.RunningMulAdd.{RunningMulAdd}

module _ (b : List ℕ) {s : RunningMulAdd} {o : Outcome} {n : ℕ} {t : List ℕ} where
  pub pushed-same : (fragment buffer : List ℕ) {after : List ℕ} → s ≡ mul_add_of b → (o, after) ≡ push_of s fragment buffer → (n, t) ≡ mul_add_stored o b
      → (n, t, after) ≡ mul_add_pushed b fragment buffer
  pushed-same fragment buffer {after} loaded pushed stored =
      ap (λ (r : ℕ × List ℕ). (r.0, r.1, after)) stored
      ∙ ap (λ (r : Outcome × List ℕ). let kept = mul_add_stored r.0 b in (kept.0, kept.1, r.1))
      (pushed ∙ ap (λ (s : RunningMulAdd). push_of s fragment buffer) loaded)

  pub ended_same : s ≡ mul_add_of b → o ≡ end_of s → (n, t) ≡ mul_add_stored o b → (n, t) ≡ mul_add_ended b
  ended_same loaded ended stored = stored ∙ ap (λ (o : Outcome). mul_add_stored o b) (ended ∙ ap end_of loaded)
