-- What a scan found, as the code works it out.
--
--   found_refused    amid an entry the list is refused
-- Assumes nothing.
use Rattle.std.specs.Prelude.{Err}
use Rattle.std.proofs.Common.{◌≡◌, ℕ, ◌+◌, ◌%◌, ◌^◌, pos_of_ne-zero}
use Rattle.cut_lists.proofs.CutLaws.{if_zero_pos}
use Rattle.refusals.specs.declared.Refusal.{Refusal}
use Rattle.entries.specs.Walk.{refusal_at}
use Rattle.entries.specs.declared.Fault.{Fault}
use Rattle.list_scan.specs.declared.Scan.{Scan}
use Rattle.list_scan.specs.Found.{fault_at, found_of}

pub found_refused : (sc : Scan) {f : Fault} {n : ℕ} {r : Refusal} → (sc.at ≡ 0 → ⊥) → f ≡ fault_at sc.head sc.at
    → n ≡ (sc.totals.entries + 1) % 2 ^ 64 → r ≡ refusal_at f n → Err r ≡ found_of sc
unfolding found_of
found_refused sc h e g i = cc (if_zero_pos sc.at _ _ (pos_of_ne-zero h))
