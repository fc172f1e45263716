-- `md5_blocks::blocks::words` meets its contract.
-- Assumes nothing.
use Rattle.std.proofs.Common.{◌≡◌, ℕ, List, [], ◌∷◌, ◌++◌, sym, refl, ◌∙◌, ap₂, add-one, arith, length-set, take_all, take-suc-set}
use Rattle.md5_blocks.specs.Blocks.{words_of}
use Rattle.md5_blocks.proofs.blocks.words.Goals as goal

pub loop-k-init : goal.loop-k-init
unfolding words_of
loop-k-init c = (refl, refl)

pub loop-k-preserved : goal.loop-k-preserved
unfolding words_of
loop-k-preserved c = let l = c.loop-k in let more = take-suc-set l.word-items l.k c.read32.result (omega arith) in
    (simp length-set l.invariant.0, rw add-one (more ∙ ap₂ (λ (ws : List ℕ) (v : ℕ). ws ++ v ∷ []) l.invariant.1 c.read32.ensures))

pub returns : goal.returns
returns c = let l = c.loop-k in let all : l.k ≡ 16 = omega arith in
    sym (take_all 16 l.word-items (omega arith)) ∙ (rw all at l.invariant.1)
