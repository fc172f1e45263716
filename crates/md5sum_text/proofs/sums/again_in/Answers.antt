-- `md5sum_text::sums::again_in` meets its contract. The loop's invariant: the entries that remain, held against the lines before the first one
-- found, give the first of all.
-- Assumes nothing.
use mathlib.Core.Path.{◌≡◌, sym, ap, ◌∙◌}
use mathlib.Core.List.{List, [], ◌∷◌}
use Prim.Native.Nat.{ℕ}
use native.Mathlib.Omega.{arith}
use Rattle.computed_tests.specs.Lists.{first_below}
use Rattle.computed_tests.proofs.Lists.{first_is}
use Rattle.entries.specs.Walk.{entries_of}
use Rattle.md5sum_text.specs.Lines.{lines_of}
use Rattle.md5sum_text.specs.Import.{is_again, again_in}
use Rattle.md5sum_text.proofs.SumLaws.{again_end, again_more}
use Rattle.md5sum_text.proofs.sums.again_in.Goals as goal

pub loop-entry-init : goal.loop-entry-init
unfolding again_in
loop-entry-init c = let all : c.into_iter-entry-iterator.result ≡ (entries_of c.args.list.now).pieces = cc in
    let ls : List (List ℕ) = (lines_of c.args.text.now).pieces in
    rw all (omega (arith, c.requires), ap (λ (n : ℕ). first_below n (is_again (entries_of c.args.list.now).pieces ls)) c.requires)

pub again_for-first-requires : goal.again_for-first-requires
again_for-first-requires c = c.loop-entry.invariant.0

pub loop-entry-preserved : goal.loop-entry-preserved
loop-entry-preserved c = let l = c.loop-entry in
    let ls : List (List ℕ) = (lines_of c.args.text.now).pieces in
    let e : List ℕ = c.in-Some.entry.now in
    let es : List (List ℕ) = c.next.new.self in
    let found = c.again_for-first.ensures in (
      omega (arith, found, (first_is l.first (is_again (e ∷ []) ls)).within, l.invariant.0),
      ap (λ (k : ℕ). first_below k (is_again es ls)) found ∙ again_more l.first e es ls
          ∙ ap (λ (ds : List (List ℕ)). first_below l.first (is_again ds ls)) (sym c.in-Some.ensures.steps) ∙ l.invariant.1,
    )

pub returns : goal.returns
returns c = again_end c.loop-entry.first (lines_of c.args.text.now).pieces c.in-None.ensures.steps.0 ∙ c.loop-entry.invariant.1
