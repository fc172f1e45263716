-- `amending::planning::Plan::patch` meets its contract.
-- Assumes nothing.
use mathlib.Core.Path.{◌≡◌, refl, sym, ap, ◌∙◌}
use mathlib.Core.List.{List, append_assoc}
use Prim.Native.Nat.{ℕ, ◌-◌, ◌≤◌}
use native.Mathlib.Omega.{arith}
use lib.ListN.{length, take, drop, replicate, length-drop, length-replicate}
use lib.Seq.{sets-eq, length-take-le}
use borrow.Rule.Slice.PartMut.{put_mid}
use Rattle.std.proofs.lemmas.List.Edits.{paste_all}
use Rattle.std.proofs.lemmas.Slice.{put_mid-paste}
use Rattle.amending.specs.Plan.{cleared, summed}
use Rattle.amending.proofs.planning.Plan.patch.Goals as goal

-- zeros put in the place of a part
zeroed : (s : List ℕ) (from to : ℕ) {v : List ℕ} → from ≤ to → to ≤ length s → v ≡ replicate (length (take (to - from) (drop from s))) 0
    → put_mid from (to - from) s v ≡ cleared from to s
zeroed s from to {v} h fits e =
    let zeros : List ℕ = replicate (to - from) 0 in
    let n : length zeros ≡ to - from = length-replicate (to - from) 0 in
    let part : length (take (to - from) (drop from s)) ≡ to - from = length-take-le (to - from) (drop from s) (omega (arith, length-drop from s)) in
    put_mid-paste from (to - from) s v zeros (to - from) (e ∙ ap (λ (k : ℕ). replicate k 0) part) refl (sym n)
    ∙ paste_all s from zeros (to - from) (sym n)
    ∙ sym (sets-eq zeros s from (omega arith) ∙ simp (append_assoc, n) refl)

pub returns : goal.returns
returns c =
    let p = c.args.self in
    let x = c.args.change.now in
    let z = zeroed c.args.volume.now c.args.present p.total c.requires.0 c.requires.2 (c.fill.ensures.after (λ y e. e)) in
    let k = c.add_stretch.ensures ∙ ap (summed p.weight p.stretch_at p.total x.old.now x.new.now) z in
    cc
