-- No line means equal bytes.
--
--   line_some, no_text     a line's text is not empty, so lines without text are none
--   stable, stable_bytes   numbers and lists that cannot differ are equal
--   same_fields            entries are equal where all their fields are
--   no_line                the claim
-- Assumes nothing.
use mathlib.Core.Path.{◌≡◌, refl, sym, ap, ap₂, ◌∙◌, subst}
use mathlib.Core.Bool.{Bool, true, false}
use mathlib.Core.List.Memᴰ
use mathlib.Core.List.{List, [], ◌∷◌, ◌++◌, flatten, Memᴰ}
use mathlib.Core.Logic.{◌⊎◌, inl, inr, ⊎_elim}
use Prim.Native.Nat.{ℕ, ◌+◌, ◌-◌, ◌≤◌, ◌<◌}
use native.Mathlib.Omega.{arith}
use lib.Dec.{eqb}
use lib.ListN.{length, take, drop, get_or, length-append}
use lib.Seq.{ext_get_or}
use borrow.Author.Tests.{eqb-true, eqb-false}
use Rattle.lent_bytes.specs.Equal.{equal}
use Rattle.lent_bytes.proofs.EqualLaws.{equal_true, equal-same}
use Rattle.lent_bytes.proofs.PartLaws.{split}
use Rattle.par1_rules.specs.Layout.{version_of, program_of, volume_number_of, data_size_of, list_of, data_of}
use Rattle.par1_rules.specs.Rules.{code_in}
use Rattle.par1_read.specs.Reading.{entries_in}
use Rattle.par1_read.proofs.ReadingLaws.{read_tells, list_joined}
use Rattle.par1_write.specs.VolumeWriting.{volume_bytes}
use Rattle.par1.proofs.WrittenRead.{volume_again}
use Rattle.comparing.specs.Claim.{IsAccepted, RefusedWith, Compared, HeadDiffers, entry_at, EntryDiffers, byte_at, DataDiffers, NoLine}
use Rattle.comparing.specs.Lines.{HeadField, version_field, program_field, control_field, set-field, number_field}
use Rattle.comparing.specs.Lines.{files_field, list_field, start-field, data_field}
use Rattle.comparing.specs.Lines.{EntryField, length-field, status_field, size_field, md5-field, md5_16k_field, name_field}
use Rattle.comparing.specs.Lines.{Line, head, entry, all, run, refused, head_text, entry_text, run_text, refused_text, line_text, text_of}
use Rattle.comparing.specs.Comparing.{lines_of, comparison_of}
use Rattle.comparing.proofs.FieldLaws.{entry_bytes}
use Rattle.comparing.proofs.EntryLineLaws.{entry_iff}
use Rattle.comparing.proofs.MemberLaws.{none_in}
use Rattle.comparing.proofs.Named.{head_named, entry_named, all_named, data_named, data_size_lem, data_byte}
use Rattle.comparing.proofs.OrderLaws.{ordered}
use Rattle.comparing.proofs.RefusedLaws.{refused_named, not_both, read_either}
use Rattle.comparing.proofs.ScanLaws.{order}
use Rattle.comparing.proofs.SectionLaws.{in_list}

-- ---- text and lines

line_some : (l : Line) → 0 < length (line_text l)
unfolding head_text entry_text run_text refused_text flatten
line_some (head h) = simp length-append (omega arith)
line_some (entry p e) = simp length-append (omega arith)
line_some (all p) = simp length-append (omega arith)
line_some (run a b) = simp length-append (omega arith)
line_some (refused side number) = simp length-append (omega arith)

no_text : (ls : List Line) → text_of ls ≡ [] → ls ≡ []
unfolding flatten
no_text [] e = refl
no_text (l ∷ ls) e = absurd (omega (arith, line_some l, length-append (line_text l) (text_of ls), ap length e))

-- ---- what cannot differ is equal

stable : (m n : ℕ) → ((m ≡ n → ⊥) → ⊥) → m ≡ n
stable m n h = by (eqb m n) refl
  where
    by : (b : Bool) → eqb m n ≡ b → m ≡ n
    by true e = eqb-true m n e
    by false e = absurd (h (eqb-false m n e))

stable_bytes : (s t : List ℕ) → ((s ≡ t → ⊥) → ⊥) → s ≡ t
stable_bytes s t h = by (equal s t) refl
  where
    by : (b : Bool) → equal s t ≡ b → s ≡ t
    by true e = equal_true s t e
    by false e = absurd (h (λ same. let z = sym e ∙ equal-same same in let w : ◌≡◌ {A = ℕ} 0 1 = cc in omega arith))

-- ---- equal files have no lines

same_head : (h : HeadField) (f : List ℕ) → HeadDiffers h f f → ⊥
same_head version_field f d = d refl
same_head program_field f d = d refl
same_head control_field f d = d refl
same_head set-field f d = d refl
same_head number_field f d = d refl
same_head files_field f d = d refl
same_head list_field f d = d refl
same_head start-field f d = d refl
same_head data_field f d = d refl

same-entry : (e : EntryField) (x : List ℕ) → EntryDiffers e x x → ⊥
same-entry length-field x d = d refl
same-entry status_field x d = d refl
same-entry size_field x d = d refl
same-entry md5-field x d = d refl
same-entry md5_16k_field x d = d refl
same-entry name_field x d = d refl

same_data : (f : List ℕ) (p : ℕ) → DataDiffers f f p → ⊥
same_data f p d = ⊎_elim (λ o. ⊎_elim (λ o. o.1 o.0) (λ o. o.0 o.1) o) (λ o. o.2 refl) d

module _ (f : List ℕ) (c : Compared f f) where
  none-listed : (l : Line) → Memᴰ l (lines_of f f) → ⊥
  none-listed (head h) m = same_head h f ((head_named f f c h).0 m)
  none-listed (entry p e) m = same-entry e (entry_at f p) ((entry_named f f c p e).0 m).2
  none-listed (all p) m = ⊎_elim (λ o. o.1 o.0) (λ o. o.0 o.1) ((all_named f f c p).0 m)
  none-listed (run a b) m = let right = (ordered f f).1 a b m in
      same_data f a ((data_named f f c a).0 (record { first = a; last = b; listed = m; from = omega arith; to = right }))
  none-listed (refused side number) m =
      ⊎_elim (λ w. not_both f c.accepted_one w.1) (λ w. not_both f c.accepted_one w.1) ((refused_named f f side number).0 m)

  same_none : comparison_of f f ≡ []
  unfolding comparison_of flatten
  same_none = ap text_of (none_in (lines_of f f) none-listed)

-- ---- entries whose fields are equal

step : (k i : ℕ) (x y : List ℕ) → take k (drop i x) ≡ take k (drop i y) → drop (i + k) x ≡ drop (i + k) y → drop i x ≡ drop i y
step k i x y e d = split k i x ∙ ap₂ ◌++◌ e d ∙ sym (split k i y)

same_fields : (x y : List ℕ) → ((e : EntryField) → entry_bytes e x ≡ entry_bytes e y) → x ≡ y
same_fields x y h =
    step 8 0 x y (h length-field) (step 8 8 x y (h status_field) (step 8 16 x y (h size_field)
    (step 16 24 x y (h md5-field) (step 16 40 x y (h md5_16k_field) (h name_field)))))

-- ---- files with no line

module _ (f g : List ℕ) (c : Compared f g) (none : lines_of f g ≡ []) where
  no_member : (l : Line) → Memᴰ l (lines_of f g) → ⊥
  no_member l m = Memᴰ.not-nil (subst (Memᴰ l) none m)

  same_version : version_of f ≡ version_of g
  same_version = stable (version_of f) (version_of g) (λ d. no_member (head version_field) ((head_named f g c version_field).1 d))

  same_program : program_of f ≡ program_of g
  same_program = stable (program_of f) (program_of g) (λ d. no_member (head program_field) ((head_named f g c program_field).1 d))

  same_number : volume_number_of f ≡ volume_number_of g
  same_number = stable (volume_number_of f) (volume_number_of g) (λ d. no_member (head number_field) ((head_named f g c number_field).1 d))

  same_size : data_size_of f ≡ data_size_of g
  same_size = stable (data_size_of f) (data_size_of g) (λ d. no_member (head data_field) ((head_named f g c data_field).1 d))

  same_count : length (entries_in f) ≡ length (entries_in g)
  same_count = by (order (length (entries_in f)) (length (entries_in g))) (order (length (entries_in g)) (length (entries_in f)))
    where
      n : ℕ
      n = length (entries_in f)

      m : ℕ
      m = length (entries_in g)

      by : (n < m) ⊎ (m ≤ n) → (m < n) ⊎ (n ≤ m) → n ≡ m
      by (inl h) o = absurd (no_member (all m) ((all_named f g c m).1 (inr (λ q. omega (arith, q.1), (omega arith, omega arith)))))
      by (inr h) (inl k) = absurd (no_member (all n) ((all_named f g c n).1 (inl ((omega arith, omega arith), λ q. omega (arith, q.1)))))
      by (inr h) (inr k) = omega arith

  same_entries : entries_in f ≡ entries_in g
  same_entries = ext_get_or [] (entries_in f) (entries_in g) same_count each
    where
      each : (i : ℕ) → i < length (entries_in f) → get_or (entries_in f) i [] ≡ get_or (entries_in g) i []
      each i h = let place : i + 1 - 1 ≡ i = omega arith in
          same_fields _ _
          (λ e. stable_bytes _ _
          (λ d. no_member (entry (i + 1) e)
          ((in_list f g c.accepted_one c.accepted_two {l = entry (i + 1) e} refl).1
          ((entry_iff (i + 1) e 1 (entries_in f) (entries_in g)).1
          (record {
            low = omega arith;
            one_has = omega arith;
            two_has = omega (arith, same_count);
            differs = λ same. d (subst (λ (j : ℕ). entry_bytes e (get_or (entries_in f) j []) ≡ entry_bytes e (get_or (entries_in g) j [])) place same);
          })))))

  same_bytes : data_of f ≡ data_of g
  same_bytes =
      ext_get_or 0 (data_of f) (data_of g) (data_size_lem f a ∙ same_size ∙ sym (data_size_lem g b))
      (λ i h. data_byte f a i ∙ stable _ _ (λ d. differ i (omega (arith, data_size_lem f a)) d) ∙ sym (data_byte g b i))
    where
      a : IsAccepted f
      a = c.accepted_one

      b : IsAccepted g
      b = c.accepted_two

      differ : (i : ℕ) → i < data_size_of f → (byte_at f i ≡ byte_at g i → ⊥) → ⊥
      differ i h d = let r = (data_named f g c i).1 (inr (h, omega (arith, same_size), d)) in no_member _ r.listed

  none-same : f ≡ g
  none-same = let one = (read_tells f c.accepted_one.0 c.accepted_one.1).tests in
      let two = (read_tells g c.accepted_two.0 c.accepted_two.1).tests in
      let list : list_of f ≡ list_of g = sym (list_joined f one) ∙ ap flatten same_entries ∙ list_joined g two in
      sym (volume_again f c.bytes_one one)
      ∙ ap (λ (v : ℕ). volume_bytes (code_in v) (program_of f) (volume_number_of f) (list_of f) (data_of f)) same_version
      ∙ ap₂ (λ (p n : ℕ). volume_bytes (code_in (version_of g)) p n (list_of f) (data_of f)) same_program same_number
      ∙ ap₂ (λ (l d : List ℕ). volume_bytes (code_in (version_of g)) (program_of g) (volume_number_of g) l d) list same_bytes
      ∙ volume_again g c.bytes_two two

-- ---- the claim

-- a refused file has a line
none-accepted : (f g : List ℕ) → lines_of f g ≡ [] → IsAccepted f × IsAccepted g
none-accepted f g none = by (read_either f) (read_either g)
  where
    some : (l : Line) → Memᴰ l (lines_of f g) → ⊥
    some l m = Memᴰ.not-nil (subst (Memᴰ l) none m)

    by : IsAccepted f ⊎ ((n : ℕ) × RefusedWith f n) → IsAccepted g ⊎ ((n : ℕ) × RefusedWith g n) → IsAccepted f × IsAccepted g
    by (inl a) (inl b) = (a, b)
    by (inl a) (inr r) = absurd (some (refused 2 r.0) ((refused_named f g 2 r.0).1 (inr (refl, r.1))))
    by (inr r) b = absurd (some (refused 1 r.0) ((refused_named f g 1 r.0).1 (inl (refl, r.1))))

pub no_line : NoLine
unfolding comparison_of
no_line f g b d = (
  λ e.
      let none = no_text (lines_of f g) e in
      let both = none-accepted f g none in
      let c : Compared f g = record { bytes_one = b; bytes_two = d; accepted_one = both.0; accepted_two = both.1 } in
      (both.0, both.1, none-same f g c none),
  λ h.
      ap (comparison_of f) (sym h.2)
      ∙ same_none f (record { bytes_one = b; bytes_two = b; accepted_one = h.0; accepted_two = h.0 }),
)
