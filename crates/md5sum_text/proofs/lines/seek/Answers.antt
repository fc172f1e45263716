-- `md5sum_text::lines::seek` meets its contract. The loop's invariant: no line so far has the name and another sum, and the next one stands at
-- its place.
-- Assumes nothing.
use mathlib.Core.Path.{◌≡◌, sym, ap, ◌∙◌}
use mathlib.Core.Bool.{Bool}
use mathlib.Core.List.{List, []}
use Prim.Native.Nat.{ℕ}
use native.Mathlib.Omega.{arith}
use lib.ListN.{take, drop, get_or}
use borrow.Author.Count.{below_more}
use Rattle.md5sum_text.specs.Lines.{shaped_length, lines_of}
use Rattle.md5sum_text.specs.Walks.{is_other}
use Rattle.md5sum_text.specs.declared.lines.Place.{Place}
use Rattle.md5sum_text.proofs.LineLaws.{place, IsLine, line_at, line_of, line_long}
use Rattle.md5sum_text.proofs.lines.seek.Goals as goal

-- what the code's test of a line says of that line of the text
tested : (s name sum : List ℕ) (p : Place) {n : ℕ} {line : List ℕ} {b r : Bool} → IsLine s p (shaped_length (drop p.at s))
    → n ≡ shaped_length (drop p.at s) → line ≡ take n (drop p.at s) → b ≡ is_other name sum line → b ≡ r
    → is_other name sum (get_or (lines_of s).pieces p.number []) ≡ r
tested s name sum p i size part test which = ap (is_other name sum) (sym (line_of i size part)) ∙ sym test ∙ which

pub loop-number-init : goal.loop-number-init
loop-number-init c = (omega arith, c.requires.0, c.requires.2, λ j h k. absurd (omega arith))

pub length_at-length-requires : goal.length_at-length-requires
length_at-length-requires c = let l = c.loop-number in (line_at c.args.text.now (place l.number l.at) l.invariant.2 (omega (arith, c.requires.1))).some

pub is_other-requires : goal.is_other-requires
is_other-requires c = let l = c.loop-number in
    line_long (line_at c.args.text.now (place l.number l.at) l.invariant.2 (omega (arith, c.requires.1))) c.length_at-length.ensures c.part.ensures

pub returns-then-is_other : goal.returns-then-is_other
returns-then-is_other c = let l = c.loop-number in
    let a = c.args in
    let i = line_at a.text.now (place l.number l.at) l.invariant.2 (omega (arith, c.requires.1)) in
    let is = tested a.text.now a.name.now a.sum.now (place l.number l.at) i c.length_at-length.ensures c.part.ensures c.is_other.ensures c.if-is_other.true in
    record { sought = record { low = l.invariant.0; high = l.invariant.1; before = l.invariant.3; found = λ h. is }; stands = l.invariant.2 }

pub overflow_add-at : goal.overflow_add-at
overflow_add-at c = let l = c.loop-number in
    omega (arith, (line_at c.args.text.now (place l.number l.at) l.invariant.2 (omega (arith, c.requires.1))).fits, c.length_at-length.ensures)

pub loop-number-preserved : goal.loop-number-preserved
loop-number-preserved c = let l = c.loop-number in
    let a = c.args in
    let i = line_at a.text.now (place l.number l.at) l.invariant.2 (omega (arith, c.requires.1)) in
    let is = tested a.text.now a.name.now a.sum.now (place l.number l.at) i c.length_at-length.ensures c.part.ensures c.is_other.ensures c.if-is_other.false in
    (omega arith, omega arith, rw c.length_at-length.ensures i.next, below_more _ _ l.invariant.3 (λ h. is))

pub returns : goal.returns
returns c = let l = c.loop-number in record {
  sought = record { low = l.invariant.0; high = l.invariant.1; before = l.invariant.3; found = λ h. absurd (omega arith) };
  stands = l.invariant.2;
}
