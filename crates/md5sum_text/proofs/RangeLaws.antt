-- Which lengths and which refusals the calls give.
--
--   export_most, import_most     the length of a text and the number of entries are below the greatest length of a file
--   Most k r                     a number of at most 24, and a place of at most k
--   export_refusal_lem               the refusals of an export: the place is that of an entry of 58 bytes or more in the file
--   import_refusal_lem               those of an import: the same, or that of a line of 36 bytes or more in the text
-- Assumes nothing.
use Rattle.std.specs.Prelude.{Ok, Err}
use mathlib.Core.Path.{◌≡◌, refl, subst}
use mathlib.Core.Logic.{◌⊎◌, inl, inr, ⊎_elim}
use mathlib.Core.List.{List, flatten}
use Prim.Native.Nat.{ℕ, ◌+◌, ◌*◌, ◌/◌, ◌≤◌, ◌<◌}
use native.Mathlib.Omega.{arith}
use lib.ListN.{length, drop, length-append, length-take, length-drop, length-map}
use Rattle.refusals.specs.Limits.{max_volume_length}
use Rattle.refusals.specs.declared.Refusal.{Refusal}
use Rattle.refusals.proofs.RangeLaws.{AtMost, most_more, bare_most}
use Rattle.lent_bytes.specs.Writing.{Writing}
use Rattle.lent_bytes.proofs.WritingLaws.{never, not-refused, refused_tells, accepted_tells}
use Rattle.cut_lists.specs.All.{All, all_none, all_more}
use Rattle.cut_lists.proofs.CutLaws.{cut-count, cut_induct, cut-length}
use Rattle.entries.specs.Entry.{md5_of, name_of, length_of}
use Rattle.entries.proofs.NameLaws.{length_units}
use Rattle.entries.proofs.WalkLaws.{entries_long}
use Rattle.par1_read.specs.Reading.{entries_in, read_of}
use Rattle.par1_read.specs.declared.reading.Parts.{Parts}
use Rattle.par1_read.proofs.RangeLaws.{read_within}
use Rattle.par1_read.proofs.ReadingLaws.{read_tells}
use Rattle.par1_rules.specs.Layout.{list_size_of, list_of}
use Rattle.text.proofs.HexLaws.{hex_length}
use Rattle.md5sum_text.specs.Lines.{shaped_length, lines_of}
use Rattle.md5sum_text.specs.Export.{line_for, export_text, export_into}
use Rattle.md5sum_text.specs.Import.{again_in, text_refusal, import_into}
use Rattle.md5sum_text.proofs.CallLaws.{text_again, text_rest, shape_some, shape_none}
use Rattle.md5sum_text.proofs.LineLaws.{has_line}
use Rattle.md5sum_text.proofs.Outcomes.{fits, short, answers_in}
use Rattle.md5sum_text.proofs.Outcomes.{ExportView, export_refuses, export_unfits, exports, export_view}
use Rattle.md5sum_text.proofs.Outcomes.{ImportView, import_refuses, import_faults, imports, import_view}
use Rattle.md5sum_text.proofs.SumLaws.{below_or_not}

-- ---- lengths

line_most : (e : List ℕ) → 58 ≤ length e → length (line_for e) ≤ length e
unfolding line_for flatten
line_most e h =
    simp length-append
    (omega (arith, hex_length (md5_of e), length-take 16 (drop 24 e), length_units (name_of e), length-drop 56 e))

text_most : {es : List (List ℕ)} → All (λ e. 58 ≤ length e) es → length (export_text es) ≤ length (flatten es)
unfolding export_text flatten
text_most all_none = omega arith
text_most (all_more {x} {xs} h hs) = omega (arith, line_most x h, text_most hs, length-append (line_for x) (export_text xs), length-append x (flatten xs))

list_most : (f : List ℕ) {p : Parts} → read_of f ≡ Ok p → length (list_of f) ≤ max_volume_length
list_most f {p} e = omega (arith, length-take (list_size_of f) (drop 96 f), length-drop 96 f, (read_tells f p e).tests.header.size.high)

pub export_most : (f out : List ℕ) {k : ℕ} {t : List ℕ} → export_into f out ≡ (Ok k, t) → k ≤ max_volume_length
export_most f out {k} {t} e = by (export_view f out) e
  where
    by : {w : Writing × List ℕ} → ExportView f out w → w ≡ (Ok k, t) → k ≤ max_volume_length
    by (export_refuses read) e = never e
    by (export_unfits read u) e = never e
    by (exports read all (short h)) e = never e
    by (exports read all (fits h)) e =
        omega
        (arith, (accepted_tells (export_text (entries_in f)) out e).0, text_most (entries_long (list_of f)), cut-length length_of (list_of f), list_most f read)

pub import_most : (f s out : List ℕ) {k : ℕ} {t : List ℕ} → import_into f s out ≡ (Ok k, t) → k ≤ max_volume_length
import_most f s out {k} {t} e = by (import_view f s out) e
  where
    size : length (answers_in f s) ≡ length (entries_in f)
    size = simp length-map

    by : {w : Writing × List ℕ} → ImportView f s out w → w ≡ (Ok k, t) → k ≤ max_volume_length
    by (import_refuses read) e = never e
    by (import_faults read some) e = never e
    by (imports read none (short h)) e = never e
    by (imports read none (fits h)) e = omega (arith, (accepted_tells (answers_in f s) out e).0, size, cut-count length_of (list_of f), list_most f read)

-- ---- refusals

abbrev pub Most : ℕ → Refusal → Type 0
Most k r = AtMost 24 k r

reading_most : (f : List ℕ) {r : Refusal} → read_of f ≡ Err r → Most (length f / 58 + 1) r
reading_most f e = most_more (omega arith) (omega arith) (read_within f e)

pub export_refusal_lem : (f out : List ℕ) {r : Refusal} {t : List ℕ} → export_into f out ≡ (Err r, t) → Most (length f / 58 + 1) r
export_refusal_lem f out {r} {t} e = by (export_view f out) e
  where
    by : {w : Writing × List ℕ} → ExportView f out w → w ≡ (Err r, t) → Most (length f / 58 + 1) r
    by (export_refuses read) e = subst (Most (length f / 58 + 1)) (refused_tells e).0 (reading_most f read)
    by (export_unfits read u) e = subst (Most (length f / 58 + 1)) (refused_tells e).0 (bare_most 24 _ 24 (omega arith))
    by (exports read all (short h)) e = subst (Most (length f / 58 + 1)) (refused_tells e).0 (bare_most 24 _ 14 (omega arith))
    by (exports read all (fits h)) e = not-refused (export_text (entries_in f)) out e

-- a line has 36 bytes or more
lines_most : (s : List ℕ) → length (lines_of s).pieces * 36 ≤ length s
lines_most =
    cut_induct shaped_length (λ s c. length c.pieces * 36 ≤ length s) (omega arith) (λ s e. omega arith)
    (λ s h k e. let z = has_line s k in omega (arith, z.low, z.high, length-drop (shaped_length s) s))

text_refusal_lem : (es : List (List ℕ)) (s : List ℕ) → Most (length s / 36 + 1) (text_refusal es (lines_of s))
text_refusal_lem es s =
    ⊎_elim again (λ h. ⊎_elim (unended h) (over h) (below_or_not 0 (length (lines_of s).rest))) (below_or_not (again_in es (lines_of s).pieces) (length (lines_of s).pieces))
  where
    again : again_in es (lines_of s).pieces < length (lines_of s).pieces → Most (length s / 36 + 1) (text_refusal es (lines_of s))
    again h = rw (text_again es (lines_of s) refl h) (record { number_most = omega arith; place_most = omega (arith, lines_most s) })

    unended : length (lines_of s).pieces ≤ again_in es (lines_of s).pieces → 0 < length (lines_of s).rest → Most (length s / 36 + 1) (text_refusal es (lines_of s))
    unended h some =
        rw (text_rest es (lines_of s) refl h, shape_some (length (lines_of s).pieces) (lines_of s).rest some)
        (record { number_most = omega arith; place_most = omega (arith, lines_most s) })

    over : length (lines_of s).pieces ≤ again_in es (lines_of s).pieces → length (lines_of s).rest ≤ 0 → Most (length s / 36 + 1) (text_refusal es (lines_of s))
    over h none =
        rw (text_rest es (lines_of s) refl h, shape_none (length (lines_of s).pieces) (lines_of s).rest (omega arith)) (bare_most 24 _ 0 (omega arith))

pub import_refusal_lem : (f s out : List ℕ) {r : Refusal} {t : List ℕ} → import_into f s out ≡ (Err r, t)
    → Most (length f / 58 + 1) r ⊎ Most (length s / 36 + 1) r
import_refusal_lem f s out {r} {t} e = by (import_view f s out) e
  where
    by : {w : Writing × List ℕ} → ImportView f s out w → w ≡ (Err r, t) → Most (length f / 58 + 1) r ⊎ Most (length s / 36 + 1) r
    by (import_refuses read) e = inl (subst (Most (length f / 58 + 1)) (refused_tells e).0 (reading_most f read))
    by (import_faults read some) e = inr (subst (Most (length s / 36 + 1)) (refused_tells e).0 (text_refusal_lem (entries_in f) s))
    by (imports read none (short h)) e = inl (subst (Most (length f / 58 + 1)) (refused_tells e).0 (bare_most 24 _ 14 (omega arith)))
    by (imports read none (fits h)) e = not-refused (answers_in f s) out e
