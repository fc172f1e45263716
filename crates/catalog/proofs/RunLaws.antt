-- After any run of calls the catalog is the one newly opened and given the volumes now in it.
--
--   afresh         the volumes of a catalog, added in any order to one newly opened, give the same bytes
--   after_run      the claim
-- Assumes nothing.
use mathlib.Core.Path.{◌≡◌, sym, ap, ◌∙◌, subst}
use mathlib.Core.List.{List, [], ◌∷◌, ◌++◌, map, reverse_aux, reverse, Permᴰ}
use Prim.Native.Nat.{ℕ, ◌+◌, ◌*◌, ◌≤◌}
use native.Mathlib.Omega.{arith}
use lib.ListN.{length, take, drop, length-append, length-drop}
use lib.Seq.{take_at}
use Rattle.cut_lists.specs.All.{All, all_none, all_more}
use Rattle.lent_bytes.specs.Writing.{accepted}
use Rattle.lent_bytes.specs.Writing.{Writing}
use Rattle.catalog.specs.Rows.{volume_row, catalog_bytes}
use Rattle.catalog.specs.Calls.{open_of, added_bytes, add_of}
use Rattle.catalog.specs.Runs.{Call, opening, adding, answers, given, room_after, Held, held_after, held_run, held_length}
use Rattle.catalog.specs.Claim.{IsWritten, is_written, Stands, AfterRun}
use Rattle.catalog.proofs.FileRows.{file_rows}
use Rattle.catalog.proofs.HeldLaws.{rows_of, entries_of, catalog_of, VolumeIn, In, Invariant, in_rows, perm_length, read_back, stands_catalog}
use Rattle.catalog.proofs.StepLaws.{Next, open_next, open_accepted, add_next, add_accepted, call_next, step}
use Rattle.catalog.proofs.LoadLaws.{loads}
use Rattle.catalog.proofs.OrderLaws.{sort_rows, Distinct, distinct_more, all_perm, distinct_perm, map_perm, sort_perm, sort_ascend, sort_same}

run : {h : Held} {room : List ℕ} → Invariant h room → (cs : List Call) → Invariant (held_run h room cs) (room_after room cs)
unfolding held_run room_after
run i [] = i
run {h = h} {room = room} i (c ∷ cs) = run {h = held_after c (given c room).0 h} {room = (given c room).1} (step i c) cs

-- ---- given the volumes in any order

-- what an accepted call gives, with h then in the catalog
record Gives (h : Held) (room : List ℕ) (w : Writing × List ℕ) : Type 0 where
  answer : IsWritten w.0
  invariant : Invariant h w.1
  length_kept : length w.1 ≡ length room

gives : {h : Held} {w : Writing × List ℕ} (s room : List ℕ) → w ≡ accepted s room → Next h (length s) (s ++ drop (length s) room)
    → held_length h ≤ length room → Gives h room w
gives {h} {w} s room e next fits =
    subst (Gives h room) (sym e) (record {
      answer = is_written (length s);
      invariant = next.invariant;
      length_kept = omega (arith, length-append s (drop (length s) room), length-drop (length s) room, next.answer_is);
    })

last_distinct : (vs ws : List (List ℕ)) → Distinct (rows_of (reverse_aux vs ws)) → Distinct (rows_of ws)
last_distinct [] ws d = d
last_distinct (v ∷ vs) ws d = by (last_distinct vs (v ∷ ws) d)
  where
    by : Distinct (rows_of (v ∷ ws)) → Distinct (rows_of ws)
    by (distinct_more o e) = e

abbrev with_volumes_lem : Held → List (List ℕ) → Held
with_volumes_lem h vs = record { file = h.file; volumes = vs }

record Added (h : Held) (room : List ℕ) (vs : List (List ℕ)) : Type 0 where
  all_written : All IsWritten (answers room (map adding vs))
  invariant : Invariant (with_volumes_lem h (reverse_aux vs h.volumes)) (room_after room (map adding vs))

adds : (vs : List (List ℕ)) {h : Held} {room : List ℕ} → Invariant h room → All (VolumeIn (entries_of h)) vs
    → Distinct (rows_of (reverse_aux vs h.volumes)) → held_length h + 28 * length vs ≤ length room → Added h room vs
unfolding answers room_after
adds [] i all_none d fits = record { all_written = all_none; invariant = i }
adds (v ∷ vs) {h} {room} i (all_more a more) d fits = by (last_distinct vs (v ∷ h.volumes) d) (λ j k. adds vs j more d k)
  where
    by : Distinct (rows_of (v ∷ h.volumes))
        → (Invariant (with_volumes_lem h (v ∷ h.volumes)) (add_of room v).1 → held_length (with_volumes_lem h (v ∷ h.volumes)) + 28 * length vs ≤ length (add_of room v).1
        → Added (with_volumes_lem h (v ∷ h.volumes)) (add_of room v).1 vs) → Added h room (v ∷ vs)
    by (distinct_more o e) rest = let done = add_accepted i v a o (omega arith) in
        let first = gives (added_bytes room v) room done (add_next i v done) (omega arith) in
        let m = rest first.invariant (omega (arith, first.length_kept)) in
        record { all_written = all_more first.answer m.all_written; invariant = m.invariant }

-- ---- the claim

first_bytes : {h : Held} {room : List ℕ} → Invariant h room → take (held_length h) room ≡ catalog_of h
first_bytes {h} i = ap (take (held_length h)) i.room_is ∙ take_at (catalog_of h) i.rest (held_length h) (in_rows h i.inside).size

pub afresh : {h : Held} → In h → (vs : List (List ℕ)) → Permᴰ vs h.volumes → (other : List ℕ) → held_length h ≤ length other
    → let cs : List Call = opening h.file ∷ map adding vs in
    All IsWritten (answers other cs) × (take (held_length h) (room_after other cs) ≡ catalog_of h)
unfolding answers room_after
afresh {h} i vs p other fits = let opened : List ℕ = (open_of h.file other).1 in
    let start = open_accepted i other (omega arith) in
    let first = gives (catalog_bytes (entries_of h) []) other start (open_next h.file other start) (omega arith) in
    let back : Permᴰ (reverse vs) h.volumes = mathlib.Core.List.Permᴰ.trans (mathlib.Core.List.Permᴰ.reverse vs) p in
    let same : Permᴰ (rows_of h.volumes) (rows_of (reverse vs)) = map_perm (λ vol. volume_row vol) (mathlib.Core.List.Permᴰ.symm back) in
    let m = adds vs first.invariant (all_perm (mathlib.Core.List.Permᴰ.symm p) i.each) (distinct_perm same i.once)
    (omega (arith, first.length_kept, perm_length p)) in
    let last : Held = with_volumes_lem h (reverse vs) in
    let long : held_length h ≡ held_length last = omega (arith, perm_length back) in (
      all_more first.answer m.all_written,
      ap (λ (k : ℕ). take k (room_after opened (map adding vs))) long ∙ first_bytes m.invariant
          ∙ ap (catalog_bytes (entries_of h)) (sym (sort_same same i.once)),
    )

stands : {h : Held} {room : List ℕ} → Invariant h room → Stands h room
stands {h} {room} i = let bytes = first_bytes i in
    let back = read_back i in
    let file = file_rows h.file i.inside.read in
    record {
      rows = sort_rows (rows_of h.volumes);
      rows_are = sort_perm (rows_of h.volumes);
      ascend = sort_ascend i.inside.once;
      fits = omega (arith, ap length i.room_is, length-append (catalog_of h) i.rest, (in_rows h i.inside).size);
      stands = bytes;
      is_catalog_lem = stands_catalog i;
      loaded = λ rows more. loads h.file file room rows (stands_catalog i) (back.count ∙ file.count) back.entries_are more;
      answered = λ c n after e. (call_next i c e).answer_is;
      afresh = λ vs p other fits. let a = afresh i.inside vs p other fits in (a.0, a.1 ∙ sym bytes);
    }

pub after_run : AfterRun
after_run f out room n e cs = stands (run (open_next f out e).invariant cs)
