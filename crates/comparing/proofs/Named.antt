-- The claims on what the lines of two accepted files name.
--
--   long                  an accepted file has a header
--   number_differs        a number differs exactly where its bytes do
--   data_size_lem, data_byte  the data of an accepted file, by its header
--   head_named, entry_named, all_named, data_named     the claims
-- Assumes nothing.
use mathlib.Core.Path.{◌≡◌, refl, sym, ap, ◌∙◌, subst}
use mathlib.Core.Bool.{true, false≢true}
use mathlib.Core.List.Memᴰ
use mathlib.Core.List.{List, [], Memᴰ}
use mathlib.Core.Logic.{◌⊎◌, ◌↔◌, inl, inr, ⊎_elim}
use Prim.Native.Nat.{ℕ, ◌+◌, ◌-◌, ◌≤◌, ◌<◌, max}
use native.Mathlib.Omega.{arith}
use lib.ListN.{length, take, drop, get_or}
use lib.Seq.{get_or-drop}
use Rattle.cut_lists.specs.All.{All}
use Rattle.cut_lists.proofs.AllLaws.{all_at}
use Rattle.little_endian.specs.Bytes.{Bytes, from_le, to_le, le_at}
use Rattle.little_endian.proofs.Numbers.{bytes_take, bytes_drop}
use Rattle.little_endian.proofs.Reading.{to_le_at}
use Rattle.entries.proofs.EntryBytes.{IsEntryBytes, entries_bytes}
use Rattle.par1_rules.specs.Layout.{list_size_of, data_size_of, list_of, data_of}
use Rattle.par1_read.specs.Reading.{entries_in}
use Rattle.par1_read.proofs.ReadingLaws.{read_tells, data_length}
use Rattle.comparing.specs.Claim.{IsAccepted, Compared, HeadDiffers, entry_at, EntryDiffers, OnlyOne, byte_at, InRun, HeadNamed, EntryNamed, AllNamed, DataNamed}
use Rattle.comparing.specs.Lines.{HeadField, version_field, program_field, control_field, set-field, number_field}
use Rattle.comparing.specs.Lines.{files_field, list_field, start-field, data_field}
use Rattle.comparing.specs.Lines.{EntryField, length-field, status_field, size_field, md5-field, md5_16k_field, name_field, head, entry, all}
use Rattle.comparing.specs.Differences.{head_table, differing, head_lines}
use Rattle.comparing.specs.Runs.{differs, runs_from, runs_of, run_lines}
use Rattle.comparing.proofs.CoverLaws.{runs_cover, in_run}
use Rattle.comparing.proofs.EntryLineLaws.{all_iff, entry_iff}
use Rattle.comparing.proofs.FieldLaws.{head_bytes, head_table_lem, entry_bytes, differing_iff}
use Rattle.comparing.proofs.ScanLaws.{order, same_byte, other_byte, one_side}
use Rattle.comparing.proofs.SectionLaws.{in_head, in_list, in_data}

-- ---- numbers and their bytes

-- a number differs exactly where its bytes do
module _ (k i : ℕ) (f g : List ℕ) (bytes_one : Bytes f) (bytes_two : Bytes g) (Fits-one : i + k ≤ length f) (fits-two : i + k ≤ length g) where
  number_differs : (take k (drop i f) ≡ take k (drop i g) → ⊥) ↔ (le_at k f i ≡ le_at k g i → ⊥)
  unfolding le_at
  number_differs = (λ h e. h (sym (to_le_at k f i bytes_one Fits-one) ∙ ap (to_le k) e ∙ to_le_at k g i bytes_two fits-two), λ h e. h (ap from_le e))

-- ---- the header

pub long : (f : List ℕ) → IsAccepted f → 96 ≤ length f
long f a = (read_tells f a.0 a.1).tests.header.size.low

module _ (f g : List ℕ) (c : Compared f g) where
  low_one : 96 ≤ length f
  low_one = long f c.accepted_one

  low_two : 96 ≤ length g
  low_two = long g c.accepted_two

  number_at : (k i : ℕ) → i + k ≤ 96 → (take k (drop i f) ≡ take k (drop i g) → ⊥) ↔ (le_at k f i ≡ le_at k g i → ⊥)
  number_at k i h = number_differs k i f g c.bytes_one c.bytes_two (omega (arith, low_one)) (omega (arith, low_two))

  head_differs : (h : HeadField) → (head_bytes h f ≡ head_bytes h g → ⊥) ↔ HeadDiffers h f g
  head_differs version_field = number_at 4 8 (omega arith)
  head_differs program_field = number_at 4 12 (omega arith)
  head_differs control_field = (λ h. h, λ h. h)
  head_differs set-field = (λ h. h, λ h. h)
  head_differs number_field = number_at 8 48 (omega arith)
  head_differs files_field = number_at 8 56 (omega arith)
  head_differs list_field = number_at 8 72 (omega arith)
  head_differs start-field = number_at 8 80 (omega arith)
  head_differs data_field = number_at 8 88 (omega arith)

in_heads : (f g : List ℕ) (h : HeadField) → Memᴰ (head h) (head_lines f g) ↔ Memᴰ h (differing head_table f g)
unfolding head_lines
in_heads f g h = (
  λ m.
      let found = Memᴰ.of_map head (differing head_table f g) m in
      let is : head found.0 ≡ head h = found.2 in
      let field : h ≡ found.0 = cc in
      Memᴰ.cast field found.1,
  λ m. Memᴰ.map head m,
)

pub head_named : HeadNamed
head_named f g c h = let lines = in_head f g c.accepted_one c.accepted_two {l = head h} refl in
    let heads = in_heads f g h in
    let fields = differing_iff head_bytes f g head_table_lem in
    let values = head_differs f g c h in
    (λ m. values.0 (fields.0 (heads.0 (lines.0 m))), λ d. lines.1 (heads.1 (fields.1 (values.1 d))))

-- ---- the lists

pub list_right : (f : List ℕ) → Bytes f → All IsEntryBytes (entries_in f)
list_right f b = entries_bytes (list_of f) (bytes_take (list_size_of f) (drop 96 f) (bytes_drop 96 f b))

entry-differs : (x y : List ℕ) → IsEntryBytes x → IsEntryBytes y → (e : EntryField)
    → (entry_bytes e x ≡ entry_bytes e y → ⊥) ↔ EntryDiffers e x y
entry-differs x y i j length-field = number_differs 8 0 x y i.bytes j.bytes (omega (arith, i.low)) (omega (arith, j.low))
entry-differs x y i j status_field = number_differs 8 8 x y i.bytes j.bytes (omega (arith, i.low)) (omega (arith, j.low))
entry-differs x y i j size_field = number_differs 8 16 x y i.bytes j.bytes (omega (arith, i.low)) (omega (arith, j.low))
entry-differs x y i j md5-field = (λ h. h, λ h. h)
entry-differs x y i j md5_16k_field = (λ h. h, λ h. h)
entry-differs x y i j name_field = (λ h. h, λ h. h)

pub entry_named : EntryNamed
entry_named f g c p e = let lines = in_list f g c.accepted_one c.accepted_two {l = entry p e} refl in
    let fields = entry_iff p e 1 (entries_in f) (entries_in g) in
    let x : List ℕ = entry_at f p in
    let y : List ℕ = entry_at g p in
    let values : (p - 1 < length (entries_in f)) → (p - 1 < length (entries_in g)) → (entry_bytes e x ≡ entry_bytes e y → ⊥) ↔ EntryDiffers e x y =
    λ a b. entry-differs x y (all_at [] (list_right f c.bytes_one) (p - 1) a) (all_at [] (list_right g c.bytes_two) (p - 1) b) e in (
      λ m.
          let h = fields.0 (lines.0 m) in
          let low = h.low in
          let one = h.one_has in
          let two = h.two_has in
          ((low, omega arith), (low, omega arith), (values (omega arith) (omega arith)).0 h.differs),
      λ h.
          let low = h.0.0 in
          let one = h.0.1 in
          let two = h.1.1 in
          lines.1
          (fields.1
          (record { low = low; one_has = omega arith; two_has = omega arith; differs = (values (omega arith) (omega arith)).1 h.2 })),
    )

pub all_named : AllNamed
all_named f g c p = let lines = in_list f g c.accepted_one c.accepted_two {l = all p} refl in
    let alls = all_iff p 1 (entries_in f) (entries_in g) in (
      λ m.
          let h = alls.0 (lines.0 m) in
          let low = h.0 in
          ⊎_elim (λ o. inl ((low, omega (arith, o.0)), λ q. o.1 (omega (arith, q.1))))
          (λ o. inr (λ q. o.0 (omega (arith, q.1)), (low, omega (arith, o.1)))) h.1,
      λ h.
          lines.1 (alls.1
          (⊎_elim (λ o. (o.0.0, inl (omega (arith, o.0.1), λ q. o.1 (o.0.0, omega (arith, q)))))
          (λ o. (o.1.0, inr (λ q. o.0 (o.1.0, omega (arith, q)), omega (arith, o.1.1)))) h)),
    )

-- ---- the data

module _ (f : List ℕ) (a : IsAccepted f) where
  pub data_size_lem : length (data_of f) ≡ data_size_of f
  data_size_lem = data_length f (read_tells f a.0 a.1).tests

  pub data_byte : (p : ℕ) → get_or (data_of f) p 0 ≡ byte_at f p
  data_byte p =
      get_or-drop (96 + list_size_of f) f p 0
      ∙ ap (λ (i : ℕ). get_or f (i + p) 0) (sym (read_tells f a.0 a.1).tests.header.layout.data_start_lem)

-- the place p of two lists of n and m bytes, which have x and y there, differs
abbrev Words : ℕ → ℕ → ℕ → ℕ → ℕ → Type 0
Words p n m x y = OnlyOne (p < n) (p < m) ⊎ ((p < n) × (p < m) × (x ≡ y → ⊥))

abbrev Differ : List ℕ → List ℕ → ℕ → Type 0
Differ a b p = Words p (length a) (length b) (get_or a p 0) (get_or b p 0)

renamed : (p : ℕ) {n k m l x u y v : ℕ} → n ≡ k → m ≡ l → x ≡ u → y ≡ v → Words p n m x y → Words p k l u v
renamed p {n} {k} {m} {l} {x} {u} {y} {v} e d b c w =
    subst (λ (i : ℕ). Words p i l u v) e
    (subst (λ (i : ℕ). Words p n i u v) d (subst (λ (i : ℕ). Words p n m i v) b (subst (λ (i : ℕ). Words p n m x i) c w)))

module _ (a b : List ℕ) (p : ℕ) where
  differs_in_words : p < max (length a) (length b) → differs a b p ≡ true → Differ a b p
  differs_in_words h t = by (order p (length a)) (order p (length b))
    where
      by : (p < length a) ⊎ (length a ≤ p) → (p < length b) ⊎ (length b ≤ p) → Differ a b p
      by (inl x) (inl y) = inr (x, y, λ e. false≢true (sym (same_byte a b p x y e) ∙ t))
      by (inl x) (inr y) = inl (inl (x, λ q. omega arith))
      by (inr x) (inl y) = inl (inr (λ q. omega arith, y))
      by (inr x) (inr y) = absurd (omega arith)

  words_differ : Differ a b p → (p < max (length a) (length b)) × (differs a b p ≡ true)
  words_differ (inl o) = by (order p (length a)) (order p (length b)) o
    where
      by : (p < length a) ⊎ (length a ≤ p) → (p < length b) ⊎ (length b ≤ p) → OnlyOne (p < length a) (p < length b)
          → (p < max (length a) (length b)) × (differs a b p ≡ true)
      by (inl x) (inl y) o = absurd (⊎_elim (λ o. o.1 y) (λ o. o.0 x) o)
      by (inl x) (inr y) o = (omega arith, one_side a b p (omega arith))
      by (inr x) (inl y) o = (omega arith, one_side a b p (omega arith))
      by (inr x) (inr y) o = absurd (⊎_elim (λ o. omega (arith, o.0)) (λ o. omega (arith, o.1)) o)
  words_differ (inr o) = (omega (arith, o.0), other_byte a b p o.0 o.1 o.2)

in_runs : (a b : List ℕ) (p : ℕ) → InRun p (run_lines a b) ↔ Differ a b p
unfolding run_lines runs_of
in_runs a b p = let n = max (length a) (length b) in
    let places = runs_cover (differs a b) p n 0 in
    let runs = in_run p (runs_from (differs a b) n 0) in (
      λ i. let h = places.0 (runs.0 i) in differs_in_words a b p (omega (arith, h.high)) h.holds,
      λ d.
          let h = words_differ a b p d in
          runs.1 (places.1 (record { low = omega arith; high = omega (arith, h.0); holds = h.1 })),
    )

pub data_named : DataNamed
data_named f g c p = let a = c.accepted_one in
    let b = c.accepted_two in
    let places = in_runs (data_of f) (data_of g) p in (
      λ i.
          let runs : InRun p (run_lines (data_of f) (data_of g)) =
          record { first = i.first; last = i.last; listed = (in_data f g a b refl).0 i.listed; from = i.from; to = i.to } in
          renamed p (data_size_lem f a) (data_size_lem g b) (data_byte f a p) (data_byte g b p) (places.0 runs),
      λ d.
          let i =
          places.1 (renamed p (sym (data_size_lem f a)) (sym (data_size_lem g b)) (sym (data_byte f a p)) (sym (data_byte g b p)) d) in
          record { first = i.first; last = i.last; listed = (in_data f g a b refl).1 i.listed; from = i.from; to = i.to },
    )
