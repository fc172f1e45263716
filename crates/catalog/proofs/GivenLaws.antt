-- Exactly the bytes that an opening and additions give, hashes apart, are a catalog.
--
--   given_catalog     what they give is one, whatever hashes stand in it
--   catalog_given     a catalog is given by the index and the volumes made for its rows
--   exactly_30        the claim
--   nothing_listed, ends_early     a catalog and none
-- Assumes nothing.
use Rattle.std.specs.Prelude.{Ok, Err}
use mathlib.Core.Path.{◌≡◌, refl, sym, ap, ap₂, ◌∙◌, subst}
use mathlib.Core.Bool.{true, false}
use mathlib.Core.List.Permᴰ
use mathlib.Core.List.{List, [], ◌∷◌, ◌++◌, map, flatten, append_assoc}
use Prim.Native.Nat.{ℕ, ◌+◌, ◌*◌, ◌≤◌}
use native.Mathlib.Omega.{arith}
use lib.ListN.{length, take, drop, replicate, length-map, length-replicate, length-drop, take-append-drop}
use lib.Seq.{take_at}
use Rattle.cut_lists.specs.All.{All, all_none, all_more}
use Rattle.cut_lists.proofs.AllLaws.{all_map}
use Rattle.little_endian.specs.Bytes.{Bytes, from_le, to_le, le_at}
use Rattle.little_endian.proofs.Numbers.{bytes_drop}
use Rattle.refusals.specs.Limits.{max_entries}
use Rattle.lent_bytes.specs.Writing.{Writing}
use Rattle.lent_bytes.proofs.PartLaws.{split_number}
use Rattle.par1_read.specs.Reading.{entries_in}
use Rattle.catalog.specs.Rows.{number_of, rows_for, catalog_head, catalog_bytes}
use Rattle.catalog.specs.Catalog.{entry_count, volume_count, entry_rows, volume_rows, rows_in, entry_rows_allowed, volume_rows_allowed, is_catalog}
use Rattle.catalog.specs.Calls.{open_of, add_of}
use Rattle.catalog.specs.Runs.{Call, opening, adding, answers, room_after, Held, newly_opened, held_after, held_length, Ascend, ascend_none, ascend_more}
use Rattle.catalog.specs.Claim.{IsWritten, is_written, SameButHashes, Given, Exactly30}
use Rattle.catalog.proofs.AlikeLaws.{Alike, alike_length, alike_ascend, same_catalog, same_bytes}
use Rattle.catalog.proofs.BackLaws.{Back}
use Rattle.catalog.proofs.CatalogLaws.{Catalog, is_catalog_lem, catalog_is}
use Rattle.catalog.proofs.ChangeLaws.{length_head}
use Rattle.catalog.proofs.HeldLaws.{rows_of, entries_of, catalog_of, In, Invariant, read_back, stands_catalog, in_rows}
use Rattle.catalog.proofs.StepLaws.{open_next, step}
use Rattle.catalog.proofs.KeptLaws.{allowed_ascend}
use Rattle.catalog.proofs.MadeLaws.{plain_rows, MadeFile, all_made, rows_made, made_index, index_made, made_volume, VolumeMade, volumes_made, volumes_alike}
use Rattle.catalog.proofs.OrderLaws.{sort_rows, Distinct, distinct_none, distinct_more, insert_front}
use Rattle.catalog.proofs.RowLaws.{length-rows}
use Rattle.catalog.proofs.RunLaws.{afresh}

-- ---- what is given is a catalog

-- what is in it after additions, all accepted
record After (h : Held) (vs : List (List ℕ)) (room : List ℕ) : Type 0 where
  held : Held
  invariant : Invariant held room
  file_is : held.file ≡ h.file
  count_is : length held.volumes ≡ length h.volumes + length vs

after_adds : (vs : List (List ℕ)) {h : Held} {room : List ℕ} → Invariant h room → All IsWritten (answers room (map adding vs))
    → After h vs (room_after room (map adding vs))
unfolding answers room_after
after_adds [] {h} i all_none = record { held = h; invariant = i; file_is = refl; count_is = omega arith }
after_adds (v ∷ vs) {h} {room} i (all_more w ws) = by (add_of room v).0 refl w (step i (adding v)) (λ k j. after_adds vs j ws)
  where
    by : (a : Writing) → (add_of room v).0 ≡ a → IsWritten a → Invariant (held_after (adding v) (add_of room v).0 h) (add_of room v).1
        → ((k : Held) → Invariant k (add_of room v).1 → After k vs (room_after (add_of room v).1 (map adding vs)))
        → After h (v ∷ vs) (room_after (add_of room v).1 (map adding vs))
    by (Err _) e x j rest = elim x [ ]
    by (Ok n) e (is_written _) j rest = let with-volume : Held = record { file = h.file; volumes = v ∷ h.volumes } in
        let m = rest with-volume (subst (λ (a : Writing). Invariant (held_after (adding v) a h) (add_of room v).1) e j) in
        record { held = m.held; invariant = m.invariant; file_is = m.file_is; count_is = omega (arith, m.count_is) }

after_open : (f : List ℕ) (vs : List (List ℕ)) (room : List ℕ) → All IsWritten (answers room (opening f ∷ map adding vs))
    → After (newly_opened f) vs (room_after room (opening f ∷ map adding vs))
unfolding answers room_after
after_open f vs room (all_more w ws) = after_adds vs (by (open_of f room).0 (open_of f room).1 refl w) ws
  where
    by : (a : Writing) (after : List ℕ) → open_of f room ≡ (a, after) → IsWritten a → Invariant (newly_opened f) after
    by (Err _) after e x = elim x [ ]
    by (Ok n) after e (is_written _) = (open_next f room e).invariant

given_catalog : (b : List ℕ) → Given b → is_catalog b ≡ true
given_catalog b g = let f : List ℕ = g.file in
    let vs : List (List ℕ) = g.volumes in
    let c : List ℕ = room_after g.room (opening f ∷ map adding vs) in
    let a = after_open f vs g.room g.all_written in
    let k = read_back a.invariant in
    let r = in_rows a.held a.invariant.inside in
    let entries : entry_count c ≡ length (entries_in f) = k.count ∙ r.count ∙ ap (λ (l : List ℕ). length (entries_in l)) a.file_is in
    let volumes : volume_count c ≡ length vs = omega (arith, k.volumes_count, r.volumes_count, a.count_is) in
    let same : SameButHashes (entry_count c + volume_count c) c b =
    subst (λ (n : ℕ). SameButHashes n c b) (sym (ap₂ (λ (x y : ℕ). x + y) entries volumes)) g.same in
    catalog_is b (same_catalog c b (is_catalog_lem c (stands_catalog a.invariant)) same (omega (arith, g.long)))

-- ---- a catalog is given

ascend_distinct : {rs : List (List ℕ)} → Ascend rs → Distinct rs
ascend_distinct ascend_none = distinct_none
ascend_distinct (ascend_more {r} h d) = distinct_more (all_map (λ x l (z : number_of x ≡ number_of r). omega arith) h) (ascend_distinct d)

sort_ascending : {rs : List (List ℕ)} → Ascend rs → sort_rows rs ≡ rs
sort_ascending ascend_none = refl
sort_ascending (ascend_more {r} {rs} h d) = simp (sort_ascending d, insert_front r (all_map (λ x l. omega arith) h))

all_images : {P : List ℕ → Type 0} (g : List ℕ → List ℕ) {xs : List (List ℕ)} → All (λ x. P (g x)) xs → All P (map g xs)
all_images g all_none = all_none
all_images {P} g (all_more p ps) = all_more p (all_images g ps)

-- the first 16 bytes are the four numbers
catalog_head_lem : (b : List ℕ) → Bytes b → Catalog b → take 16 b ≡ catalog_head (entry_count b) (volume_count b)
unfolding catalog_head flatten
catalog_head_lem b bytes c = let e : ℕ = entry_count b in
    let v : ℕ = volume_count b in
    let split : b ≡ to_le 4 e ++ (to_le 4 v ++ (to_le 4 (le_at 4 b 8) ++ (to_le 4 (le_at 4 b 12) ++ drop 16 b))) =
    split_number 4 0 b bytes (omega (arith, c.within))
    ∙ ap (λ (l : List ℕ). to_le 4 e ++ l) (split_number 4 4 b bytes (omega (arith, c.within))
    ∙ ap (λ (l : List ℕ). to_le 4 v ++ l) (split_number 4 8 b bytes (omega (arith, c.within))
    ∙ ap (λ (l : List ℕ). to_le 4 (le_at 4 b 8) ++ l) (split_number 4 12 b bytes (omega (arith, c.within))))) in
    let numbers : b ≡ to_le 4 e ++ (to_le 4 v ++ (to_le 4 16 ++ (to_le 4 (16 + 28 * e) ++ drop 16 b))) = cc in
    let joined : b ≡ catalog_head e v ++ drop 16 b = numbers ∙ simp append_assoc in
    ap (take 16) joined ∙ take_at (catalog_head e v) (drop 16 b) 16 (length_head e v)

bytes_head : (es vs : List (List ℕ)) (t : List ℕ) → take 16 (catalog_bytes es vs ++ t) ≡ catalog_head (length es) (length vs)
unfolding catalog_bytes
bytes_head es vs t = let h : List ℕ = catalog_head (length es) (length vs) in
    ap (take 16) (append_assoc h (flatten es ++ flatten vs) t) ∙ take_at h ((flatten es ++ flatten vs) ++ t) 16 (length_head (length es) (length vs))

module _ (b : List ℕ) (bytes : Bytes b) (c : Catalog b) where
  abbrev es : List (List ℕ)
  es = entry_rows b

  abbrev vs : List (List ℕ)
  vs = volume_rows b

  es_count : length es ≡ entry_count b
  es_count = length-rows (entry_count b) (drop 16 b)

  vs_count : length vs ≡ volume_count b
  vs_count = length-rows (volume_count b) (drop (16 + 28 * entry_count b) b)

  few : length es ≤ max_entries
  few = omega (arith, es_count, c.few)

  abbrev index : List ℕ
  index = made_index es

  abbrev volumes : List (List ℕ)
  volumes = map (λ r. made_volume es r) vs

  made_volumes : All (VolumeMade es) vs
  made_volumes = volumes_made es c.entries_right few 0 vs c.volumes_right

  index_is : MadeFile es 0 0 index
  index_is = index_made es c.entries_right few

  entries_alike : Alike (rows_for (entries_in index)) es
  entries_alike =
      subst (λ (l : List (List ℕ)). Alike (rows_for l) es) (sym index_is.entries_are)
      (rows_made 0 (all_made es c.entries_right few) (plain_rows (entry_count b) (drop 16 b) (bytes_drop 16 b bytes) (omega (arith, c.within, length-drop 16 b))) c.entries_right)

  rows_alike : Alike (rows_of volumes) vs
  rows_alike =
      volumes_alike es made_volumes
      (plain_rows (volume_count b) (drop (16 + 28 * entry_count b) b) (bytes_drop (16 + 28 * entry_count b) b bytes)
      (omega (arith, c.within, length-drop (16 + 28 * entry_count b) b)))

  ascending : Ascend (rows_of volumes)
  ascending = alike_ascend rows_alike (allowed_ascend _ _ 0 vs c.volumes_right)

  abbrev holding : Held
  holding = record { file = index; volumes = volumes }

  index_count : length (entries_in index) ≡ entry_count b
  index_count = ap length index_is.entries_are ∙ length-map es _ ∙ es_count

  volumes_count : length volumes ≡ volume_count b
  volumes_count = length-map vs _ ∙ vs_count

  inside : In holding
  inside = record {
    parts = index_is.parts;
    read = index_is.read;
    few = omega (arith, index_count, c.few);
    each = all_images (λ r. made_volume es r) (all_map (λ r m. record {
      parts = m.file.parts;
      read = m.file.read;
      same = ap rows_for (m.file.entries_are ∙ sym index_is.entries_are);
      low = omega (arith, m.some, m.file.number_is);
    }) made_volumes);
    once = ascend_distinct ascending;
  }

  catalog_given : Given b
  catalog_given = let room : List ℕ = replicate (held_length holding) 0 in
      let calls : List Call = opening index ∷ map adding volumes in
      let after : List ℕ = room_after room calls in
      let done = afresh inside volumes (Permᴰ.refl volumes) room (omega (arith, length-replicate {A = ℕ} (held_length holding) 0)) in
      let rest : List ℕ = drop (held_length holding) after in
      let whole : after ≡ catalog_of holding ++ rest =
      sym (take-append-drop (held_length holding) after) ∙ ap (λ (l : List ℕ). l ++ rest) done.1 in
      let k : Back (entries_of holding) (sort_rows (rows_of volumes)) after = read_back (record { inside = inside; rest = rest; room_is = whole }) in
      let sorted : sort_rows (rows_of volumes) ≡ rows_of volumes = sort_ascending ascending in
      let count : entry_count after ≡ entry_count b = k.count ∙ alike_length entries_alike ∙ es_count in
      let number : volume_count after ≡ volume_count b = k.volumes_count ∙ ap length sorted ∙ alike_length rows_alike ∙ vs_count in
      let head : take 16 after ≡ take 16 b =
      ap (take 16) whole ∙ bytes_head (entries_of holding) (sort_rows (rows_of volumes)) rest
      ∙ ap₂ catalog_head (alike_length entries_alike ∙ es_count) (ap length sorted ∙ alike_length rows_alike ∙ vs_count) ∙ sym (catalog_head_lem b bytes c) in
      let same : SameButHashes (entry_count b + volume_count b) after b =
      same_bytes after b count number (subst (λ (l : List (List ℕ)). Alike l es) (sym k.entries_are) entries_alike)
      (subst (λ (l : List (List ℕ)). Alike l vs) (sym (k.volumes_are ∙ sorted)) rows_alike) head in
      record {
        file = index;
        volumes = volumes;
        file_bytes = index_is.bytes;
        volumes_bytes = all_images (λ r. made_volume es r) (all_map (λ r m. m.file.bytes) made_volumes);
        room = room;
        all_written = done.0;
        long = omega (arith, index_count, volumes_count, c.within);
        same = subst (λ (n : ℕ). SameButHashes n after b) (sym (ap₂ (λ (x y : ℕ). x + y) index_count volumes_count)) same;
      }

-- ---- the claim

pub exactly_30 : Exactly30
exactly_30 b bytes = ((λ e. catalog_given b bytes (is_catalog_lem b e)), given_catalog b)

-- ---- examples

-- no entries, no volumes
pub nothing_listed : is_catalog (0 ∷ 0 ∷ 0 ∷ 0 ∷ 0 ∷ 0 ∷ 0 ∷ 0 ∷ 16 ∷ 0 ∷ 0 ∷ 0 ∷ 16 ∷ 0 ∷ 0 ∷ 0 ∷ []) ≡ true
unfolding is_catalog le_at from_le entry_rows_allowed volume_rows_allowed rows_in
nothing_listed = refl

-- one entry, and no row
pub ends_early : is_catalog (1 ∷ 0 ∷ 0 ∷ 0 ∷ 0 ∷ 0 ∷ 0 ∷ 0 ∷ 16 ∷ 0 ∷ 0 ∷ 0 ∷ 44 ∷ 0 ∷ 0 ∷ 0 ∷ []) ≡ false
unfolding is_catalog le_at from_le entry_rows_allowed volume_rows_allowed rows_in
ends_early = refl
