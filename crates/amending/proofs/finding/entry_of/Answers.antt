-- `amending::finding::entry_of` meets its contract.
-- Assumes nothing.
use mathlib.Core.Path.{◌≡◌, sym, ap, ◌∙◌}
use Prim.Native.Nat.{ℕ, ◌+◌}
use native.Mathlib.Omega.{arith}
use mathlib.Core.List.{List, flatten}
use lib.ListN.{length, length-append}
use Rattle.cut_lists.proofs.CutLaws.{cut-length}
use Rattle.entries.specs.Entry.{status_of, saved_count, length_of}
use Rattle.entries.specs.Walk.{entries_of}
use Rattle.amending.specs.Plan.{span_in}
use Rattle.amending.specs.declared.finding.Span.{Span}
use Rattle.amending.proofs.SpanLaws.{past, span_here, span_more, span_none}
use Rattle.amending.proofs.finding.entry_of.Goals as goal

nothing-before : (x : Span) → past 0 x ≡ x
nothing-before x = let e : 0 + x.from ≡ x.from = omega arith in ap (λ (k : ℕ). record { from = k; length = x.length }) e

further : (n m : ℕ) (x : Span) → past (n + m) x ≡ past n (past m x)
further n m x = let e : n + m + x.from ≡ n + (m + x.from) = omega arith in ap (λ (k : ℕ). record { from = k; length = x.length }) e

just : (n m : ℕ) → ◌≡◌ {A = Span} (record { from = n; length = m }) (past n (record { from = 0; length = m }))
just n m = let e : n ≡ n + 0 = omega arith in ap (λ (k : ℕ). record { from = k; length = m }) e

pub loop-entry-init : goal.loop-entry-init
loop-entry-init c = let s = c.args.list.now in let all : c.into_iter-entry-iterator.result ≡ (entries_of s).pieces = cc in
    rw all (
      omega (arith, cut-length length_of s),
      nothing-before _ ∙ ap (span_in (entries_of s).pieces) c.saturating_sub-saved_before.ensures,
    )

pub returns-then-saved_before-saved : goal.returns-then-saved_before-saved
returns-then-saved_before-saved c = let l = c.loop-entry in
    let less = rw (c.saved_count-saved.ensures, c.status_of.ensures) at c.if-saved_before-saved.true in
    just l.from _ ∙ ap (past l.from) (sym (span_here _ c.next.new.self l.saved_before less))
    ∙ rw c.in-Some.ensures.steps at l.invariant.1

pub loop-entry-preserved : goal.loop-entry-preserved
unfolding flatten
loop-entry-preserved c = let l = c.loop-entry in let e = c.in-Some.entry.now in let es = c.next.new.self in let steps = c.in-Some.ensures.steps in
    let saved : c.saved_count-saved.result ≡ saved_count (status_of e) = c.saved_count-saved.ensures ∙ ap saved_count c.status_of.ensures in
    let more = span_more e es l.saved_before (omega (arith, saved)) in
    let joined : length (flatten l.entry-iterator) ≡ length e + length (flatten es) =
    ap (λ (es : List (List ℕ)). length (flatten es)) steps ∙ length-append e (flatten es) in
    rw saved (omega (arith, joined, l.invariant.0), further l.from _ _ ∙ ap (past l.from) (sym more) ∙ rw steps at l.invariant.1)

pub returns : goal.returns
returns c = let l = c.loop-entry in just l.from 0 ∙ ap (past l.from) (sym (span_none l.saved_before c.in-None.ensures.steps.0)) ∙ l.invariant.1
