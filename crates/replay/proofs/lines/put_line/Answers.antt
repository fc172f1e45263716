-- `replay::lines::put_line` meets its contract.
-- Assumes nothing.
use Rattle.replay.proofs.EventLines.{line_kept, line_denied, line_told}
use mathlib.Core.Path.{◌≡◌, ap, ◌∙◌}
use Rattle.std.specs.Prelude.{Some}
use Rattle.replay.proofs.lines.put_line.Goals as goal

pub returns-in-Ok-recoverable_files : goal.returns-in-Ok-recoverable_files
returns-in-Ok-recoverable_files c =
    (λ e t. (_, line_kept e (t ∙ ap Some c.in-Ok.is) c.in-Ok-recoverable_files.ensures, c.put_files.ensures), λ k z. let never : ⊥ = cc in absurd never)

pub returns-in-Err-recoverable_files : goal.returns-in-Err-recoverable_files
returns-in-Err-recoverable_files c =
    (λ e t. (_, line_denied e (t ∙ ap Some c.in-Ok.is) c.in-Err-recoverable_files.ensures, c.put_refused.ensures), λ k z. let never : ⊥ = cc in absurd never)

pub returns-in-Err : goal.returns-in-Err
returns-in-Err c = (
  λ e t. (_, line_told e (t ∙ ap Some c.in-Err.is), c.put_refused-in-Err.ensures),
  λ k z. let same : k ≡ c.in-Err.number = cc in rw same c.put_refused-in-Err.ensures,
)
