-- `catalog::checking::Counts::locate` meets its contract.
-- Assumes nothing.
use mathlib.Core.Path.{◌≡◌, ap, ap₂, ◌∙◌}
use mathlib.Core.Bool.{true, ◌&&◌}
use mathlib.Core.List.{List, []}
use Prim.Native.Nat.{ℕ, ◌+◌, ◌*◌, ◌≤◌}
use native.Mathlib.Omega.{arith}
use lib.ListN.{length, drop, get_or}
use lib.Dec.{ltb, eqb}
use Rattle.std.specs.List.{take_while}
use Rattle.catalog.specs.Rows.{number_of}
use Rattle.catalog.specs.Catalog.{rows_in, is_catalog, entry_count, volume_count, catalog_length, volume_rows, holds}
use Rattle.catalog.specs.Plan.{place_of, counts_of}
use Rattle.catalog.specs.declared.checking.Counts.{Counts}
use Rattle.catalog.proofs.CatalogLaws.{Catalog, is_catalog_lem}
use Rattle.catalog.proofs.PlaceLaws.{place_counted}
use Rattle.catalog.proofs.ChangeLaws.{at_most, present_is}
use Rattle.catalog.proofs.checking.Counts.locate.Goals as goal

-- a catalog with its numbers of rows
record Counted (b : List ℕ) (k : Counts) : Type 0 where
  catalog : Catalog b
  entries : k.entries ≡ entry_count b
  volumes : k.volumes ≡ volume_count b
  within : 16 + 28 * (k.entries + k.volumes) ≤ length b

counted : (b : List ℕ) (k : Counts) → (is_catalog b ≡ true) × (k ≡ counts_of b) → Counted b k
counted b k h =
    let catalog = is_catalog_lem b h.0 in
    let entries = ap (λ (c : Counts). c.entries) h.1 in
    let volumes = ap (λ (c : Counts). c.volumes) h.1 in
    record { catalog = catalog; entries = entries; volumes = volumes; within = omega (arith, catalog.within, entries, volumes) }

-- its volume rows, and the place that is found among them
rows_are : (b : List ℕ) (k : Counts) {rows : List (List ℕ)} → Counted b k → rows ≡ rows_in k.volumes (drop (16 + 28 * k.entries) b) → rows ≡ volume_rows b
rows_are b k i e = e ∙ ap₂ (λ (m n : ℕ). rows_in n (drop (16 + 28 * m) b)) i.entries i.volumes

place_most : (b : List ℕ) (k : Counts) {rows : List (List ℕ)} (number : ℕ) {p : ℕ} → Counted b k → rows ≡ rows_in k.volumes (drop (16 + 28 * k.entries) b)
    → p ≡ length (take_while (λ r. ltb (number_of r) number) rows) → p ≤ k.volumes
place_most b k {rows} number i e f =
    omega (arith, f, place_counted number rows, ap (place_of number) (rows_are b k i e), at_most b i.catalog number, i.volumes)

pub overflow_mul-start : goal.overflow_mul-start
overflow_mul-start c = let i = counted c.args.bytes.now c.args.self c.requires in omega (arith, i.within)

pub overflow_add-start : goal.overflow_add-start
overflow_add-start c = let i = counted c.args.bytes.now c.args.self c.requires in omega (arith, i.within)

pub rows_at-rows-requires : goal.rows_at-rows-requires
rows_at-rows-requires c = let i = counted c.args.bytes.now c.args.self c.requires in omega (arith, i.within)

pub overflow_mul-result : goal.overflow_mul-result
overflow_mul-result c =
    let i = counted c.args.bytes.now c.args.self c.requires in
    omega (arith, i.within, place_most c.args.bytes.now c.args.self c.args.number i c.rows_at-rows.ensures c.place_of-place.ensures)

pub overflow_add-result : goal.overflow_add-result
overflow_add-result c =
    let i = counted c.args.bytes.now c.args.self c.requires in
    omega (arith, i.within, place_most c.args.bytes.now c.args.self c.args.number i c.rows_at-rows.ensures c.place_of-place.ensures)

pub overflow_mul-result-2 : goal.overflow_mul-result-2
overflow_mul-result-2 c = let i = counted c.args.bytes.now c.args.self c.requires in omega (arith, i.within)

pub overflow_add-result-2 : goal.overflow_add-result-2
overflow_add-result-2 c = let i = counted c.args.bytes.now c.args.self c.requires in omega (arith, i.within)

pub returns : goal.returns
returns c =
    let b = c.args.bytes.now in
    let n = c.args.self in
    let i = counted b n c.requires in
    let all = rows_are b n i c.rows_at-rows.ensures in
    let e = c.place_of-place.ensures ∙ place_counted c.args.number c.rows_at-rows.result.now ∙ ap (place_of c.args.number) all in
    let at : 16 + 28 * n.entries + 28 * c.place_of-place.result ≡ 16 + 28 * (entry_count b + place_of c.args.number (volume_rows b)) = omega (arith, i.entries, e) in
    let to : 16 + 28 * n.entries + 28 * n.volumes ≡ catalog_length b = omega (arith, i.entries, i.volumes) in
    let here : c.is_row_of.result ≡ holds c.args.number (volume_rows b) = c.is_row_of.ensures
    ∙ ap₂ (λ (p : ℕ) (rs : List (List ℕ)). ltb p (length rs) && eqb (number_of (get_or rs p [])) c.args.number) e all ∙ present_is b i.catalog c.args.number in
    λ j. record { entries = i.entries j; volumes = i.volumes j; at = at j; to = to j; present = here j }
