-- `md5_blocks::blocks::blocks` meets its contract.
-- Assumes nothing.
use Rattle.std.proofs.Common.{◌≡◌, ℕ, ◌+◌, ◌-◌, ◌*◌, ◌<◌, ◌≤◌, List, length, drop, sym, ◌∙◌, ap, ap₂, arith, length-drop, drop-drop}
use Rattle.md5_blocks.specs.declared.rounds.Words.{Words}
use Rattle.md5_blocks.specs.Blocks.{all_blocks}
use Rattle.md5_blocks.proofs.BlockLaws.{all_short, all_more}
use Rattle.md5_blocks.proofs.blocks.blocks.Goals as goal

pub loop-k-preserved : goal.loop-k-preserved
loop-k-preserved c = let s = c.args.s.now in let l = c.loop-k in let at : ℕ = 64 * l.k in
    let whole : 64 ≤ length (drop at s) = simp length-drop (omega arith) in
    let size : at + 64 - at ≡ 64 = omega arith in
    let next : 64 * (l.k + 1) ≡ at + 64 = omega arith in
    ap₂ (λ (v : Words) (r : List ℕ). all_blocks v r) (rw size at c.block-v.ensures) (ap (λ (j : ℕ). drop j s) next ∙ sym (drop-drop 64 at s))
    ∙ sym (all_more l.v (drop at s) whole)
    ∙ l.invariant

pub returns : goal.returns
returns c = let s = c.args.s.now in let l = c.loop-k in
    let none : length (drop (64 * l.k) s) < 64 = simp length-drop (omega arith) in
    sym (all_short l.v (drop (64 * l.k) s) none) ∙ l.invariant
