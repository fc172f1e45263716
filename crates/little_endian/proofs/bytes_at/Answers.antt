-- `little_endian::bytes_at` meets its contract.
-- Assumes nothing.
use Rattle.std.proofs.Common.{◌≡◌, ◌+◌, ◌<◌, ◌≢◌, ◌∙◌, ap, length, arith, rules, slice_index, get_or-set_other, get_or-set_same, length-set, below_more}
use Rattle.little_endian.specs.Bytes.{le_at}
use Rattle.little_endian.proofs.Reading.{byte_past}
use Rattle.little_endian.proofs.bytes_at.Goals as goal

pub loop-k-preserved : goal.loop-k-preserved
loop-k-preserved g c = let a = c.args in let l = c.loop-k in
    let byte : c.read8.result ≡ slice_index a.s.now (a.at + l.k) =
    c.read8.ensures ∙ ap (le_at 1 a.s.now) c.saturating_add.ensures ∙ byte_past a.s.now (a.at + l.k) _ (search rules) in (
      simp length-set l.invariant.0,
      below_more _ _ (λ j h. let ne : j ≢ l.k = omega arith in rw get_or-set_other (l.invariant.1 j h))
          (let lt : l.k < length l.byte-items = omega arith in rw get_or-set_same byte),
    )
