-- `listing::put_listing` meets its contract.
-- Assumes nothing.
use Rattle.std.specs.Prelude.{Ok}
use mathlib.Core.Path.{◌≡◌, ap, subst, ◌∙◌}
use mathlib.Core.List.{List}
use Prim.Native.Nat.{ℕ, ◌-◌, ◌+◌, ◌≤◌}
use native.Mathlib.Omega.{arith}
use lib.ListN.{length}
use Rattle.par1_rules.specs.Layout.{list_size_of}
use Rattle.par1_read.specs.declared.reading.Parts.{Parts}
use Rattle.par1_read.specs.Reading.{Reading}
use Rattle.text.proofs.WriterLaws.{puts_then}
use Rattle.par1_read.specs.Reading.{reading_refusal}
use Rattle.listing.specs.Listing.{ListIn}
use Rattle.listing.proofs.put_listing.Goals as goal

-- the list lies in the file
lies : (r : Reading) (f : List ℕ) {p : Parts} → ListIn r f → r ≡ Ok p → (p.list_size ≡ list_size_of f) × (96 + list_size_of f ≤ length f)
lies r f h is = subst (λ (r : Reading). ListIn r f) is h

pub returns-in_default : goal.returns-in_default
returns-in_default c = rw c.in_default.is (rw (c.refusal_of.ensures ∙ ap reading_refusal c.in_default.is) at c.put_refused.ensures)

pub overflow_add-end : goal.overflow_add-end
overflow_add-end c = let i = lies c.args.reading c.args.file.now c.requires c.in-Ok.is in omega (arith, i.0, i.1)

pub slice_bounds-put_entries-end : goal.slice_bounds-put_entries-end
slice_bounds-put_entries-end c = let i = lies c.args.reading c.args.file.now c.requires c.in-Ok.is in omega (arith, i.0, i.1)

pub returns : goal.returns
returns c = let p = c.in-Ok.parts in let i = lies c.args.reading c.args.file.now c.requires c.in-Ok.is in
    let size : 96 + p.list_size - 96 ≡ list_size_of c.args.file.now = omega (arith, i.0) in
    rw c.in-Ok.is (puts_then c.put_head.ensures (rw size at c.put_entries.ensures))
