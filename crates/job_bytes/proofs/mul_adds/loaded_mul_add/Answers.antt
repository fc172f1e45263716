-- `job_bytes::mul_adds::loaded_mul_add` meets its contract.
-- Assumes nothing.
use mathlib.Core.Path.{sym, ap₂, ◌∙◌, subst}
use Prim.Native.Nat.{ℕ, ◌≤◌, ◌<◌}
use Rattle.job_bytes.proofs.MulAddLaws.{is_mul_add_lem, others, heavy, marked, loaded_going, loaded_over}
use Rattle.running_mul_add.specs.Running.{mul_add_from}
use Rattle.job_bytes.proofs.mul_adds.loaded_mul_add.Goals as goal

pub returns-then-bytes-ne-LENGTH : goal.returns-then-bytes-ne-LENGTH
returns-then-bytes-ne-LENGTH c = c.over.ensures ∙ sym (loaded_over _ (others _ c.if-bytes-ne-LENGTH.true))

pub returns-then-weight-gt-MAX_WEIGHT : goal.returns-then-weight-gt-MAX_WEIGHT
returns-then-weight-gt-MAX_WEIGHT c = let b = c.args.bytes.now in c.over-then-weight-gt-MAX_WEIGHT.ensures ∙ sym (loaded_over b (heavy b (subst (λ (w : ℕ). 255 < w) c.read64-weight.ensures c.if-weight-gt-MAX_WEIGHT.true)))

pub returns-then-read64-ne0 : goal.returns-then-read64-ne0
returns-then-read64-ne0 c = let b = c.args.bytes.now in c.over-then-read64-ne0.ensures ∙ sym (loaded_over b (marked b (λ e. c.if-read64-ne0.true (c.read64.ensures ∙ e))))

pub returns : goal.returns
returns c = let b = c.args.bytes.now in let weight = c.read64-weight.ensures in let small = subst (λ (w : ℕ). w ≤ 255) weight c.if-weight-gt-MAX_WEIGHT.false in
    let none = sym c.read64.ensures ∙ c.if-read64-ne0.false in
    ap₂ mul_add_from weight c.read64-2.ensures ∙ sym (loaded_going b (is_mul_add_lem b c.if-bytes-ne-LENGTH.false small none))
