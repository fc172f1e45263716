-- A listing is shorter than its file, and that of the program's input has room in 65,536 bytes.
--
--   line_most, head_most    the lengths of the lines, where numbers have at most eight digits
--   refused_most          that of a refusal, where its number has at most eight digits and its place at most twenty
--   lines_most            the lines of entries are no longer than the entries
--   listing_shorter       the listing of an accepted file is shorter than the file
--   input_most            the listing of any input has at most 65,536 bytes
--   input_fits            so room of 65,536 bytes is never too short for it
-- Assumes nothing.
use Rattle.std.specs.Prelude.{Ok}
use mathlib.Core.Path.{◌≡◌, refl, sym, ap, ◌∙◌, subst}
use mathlib.Core.Bool.{Bool, true, false, cond}
use mathlib.Core.List.{List, [], ◌∷◌, flatten}
use Prim.Native.Nat.{ℕ, zero, suc, ◌+◌, ◌^◌, ◌≤◌, ◌<◌}
use native.Mathlib.Omega.{arith}
use lib.Dec.{leb}
use lib.ListN.{length, drop, length-append, length-take, length-drop, length-map}
use borrow.Author.Tests.{leb-true}
use Rattle.refusals.specs.Limits.{max_file_size, max_volume_length, max_listed_length}
use Rattle.lent_bytes.proofs.WritingLaws.{written_fits}
use Rattle.cut_lists.specs.All.{All, all_none, all_more}
use Rattle.cut_lists.proofs.CutLaws.{cut-count, cut-length}
use Rattle.entries.specs.Entry.{status_of, file_size_of, name_of, is_saved, saved_count, length_of}
use Rattle.entries.specs.Claim.{Keeps}
use Rattle.entries.proofs.EntryLaws.{sized}
use Rattle.entries.proofs.FirstFaults.{entries_keep}
use Rattle.entries.proofs.NameLaws.{length_units}
use Rattle.entries.proofs.WalkLaws.{saved_most, walk_count, walk_saved}
use Rattle.text.specs.Ascii.{ascii}
use Rattle.text.specs.Decimal.{decimal, field}
use Rattle.text.proofs.DecimalLaws.{decimal-length}
use Rattle.par1_rules.specs.Layout.{volume_number_of, count_of, list_size_of, list_of}
use Rattle.refusals.specs.Tests.{bare}
use Rattle.refusals.specs.declared.Refusal.{Refusal}
use Rattle.par1_rules.proofs.RuleLaws.{number_range}
use Rattle.par1_read.specs.Reading.{entries_in, read_of}
use Rattle.par1_read.specs.declared.reading.Parts.{Parts}
use Rattle.par1_read.specs.Reading.{Reading}
use Rattle.par1_read.proofs.RangeLaws.{refusal_within}
use Rattle.par1_read.proofs.ReadingLaws.{refusal_of, parts_of, Passed, read_accepted, read_refused, read_tells}
use Rattle.listing.specs.Claim.{InputFits}
use Rattle.listing.specs.Lines.{is_placed, place_field, refused_line, head_line, label, line_of, entry_line, entry_lines}
use Rattle.listing.specs.Listing.{listing_by, listing_of, input_listing}

-- ---- lines

eight_digits : (n : ℕ) → n < 100000000 → length (decimal n) ≤ 8
eight_digits n h = decimal-length n 7 h

label_most : (status n : ℕ) → n < 100000000 → length (label status n) ≤ 8
unfolding label
label_most status n h = by (is_saved status)
  where
    by : (b : Bool) → length (cond b (decimal n) (ascii "-")) ≤ 8
    by true = eight_digits n h
    by false = omega arith

line_most : (status n size : ℕ) (name : List ℕ) → n < 100000000 → size < 100000000
    → length (line_of status n size name) ≤ 19 + length name
unfolding line_of flatten
line_most status n size name h k =
    simp (length-append, length-map)
    (omega (arith, label_most status n h, eight_digits size k, length_units name))

head_most : (v n k : ℕ) → v < 100000000 → n < 100000000 → k < 100000000 → length (head_line v n k) ≤ 46
unfolding head_line flatten
head_most v n k a b c = simp length-append (omega (arith, eight_digits v a, eight_digits n b, eight_digits k c))

twenty_digits : (n : ℕ) → n < 100000000000000000000 → length (decimal n) ≤ 20
twenty_digits n h = decimal-length n 19 h

place_most : (r : Refusal) → r.place < 100000000000000000000 → length (place_field r) ≤ 21
unfolding place_field
place_most r h = by (is_placed r.number)
  where
    by : (b : Bool) → length (cond b (field (ascii " ") r.place) []) ≤ 21
    by true = simp length-append (omega (arith, twenty_digits r.place h))
    by false = omega arith

-- any place of 64 bits has at most twenty digits
refused_most : (r : Refusal) → r.number < 100000000 → r.place < 2 ^ 64 → length (refused_line r) ≤ 38
unfolding refused_line flatten
refused_most r h k = simp length-append (omega (arith, eight_digits r.number h, place_most r (omega arith)))

-- ---- the lines of entries

lines_most : (k : ℕ) (es : List (List ℕ)) → All Keeps es → k + length es < 100000000
    → length (entry_lines k es) ≤ length (flatten es)
unfolding entry_lines flatten
lines_most k [] all_none h = omega arith
lines_most k (e ∷ es) (all_more l ls) h = let n : ℕ = k + saved_count (status_of e) in
    let more : n ≤ k + 1 = omega (arith, saved_most (status_of e)) in
    let one = line_most (status_of e) n (file_size_of e) (name_of e) (omega arith) (omega (arith, leb-true (file_size_of e) max_file_size l.file_size_right)) in
    let long = (sized (length e) (length e) l.size_right).low in
    omega (arith, one, lines_most n es ls (omega arith), length-append (entry_line n e) (entry_lines n es), length-append e (flatten es), length-drop 56 e)

-- ---- the numbers of an accepted file

accepted_shorter : (f : List ℕ) → Passed f → length (listing_by (Ok (parts_of f)) f) < length f
accepted_shorter f tests = let es : List (List ℕ) = entries_in f in
    let list : length (list_of f) ≤ list_size_of f = omega (arith, length-take (list_size_of f) (drop 96 f)) in
    let fits : 96 + list_size_of f ≤ length f = omega (arith, tests.header.layout.data_start_lem, tests.header.layout.data_end) in
    let few : length es ≤ length (list_of f) = cut-count length_of (list_of f) in
    let most : length f ≤ max_volume_length = tests.header.size.high in
    let small = number_range (volume_number_of f) tests.totals_of_lem.saved tests.totals.number_right in
    let count : count_of f ≡ length es = sym tests.totals.count_is ∙ walk_count (list_of f) tests.walk_is in
    let saved = walk_saved (list_of f) tests.walk_is in
    let head = head_most (parts_of f).number (parts_of f).entries (parts_of f).saved (omega (arith, small.0)) (omega arith) (omega (arith, small.1, saved)) in
    let lines = lines_most 0 es (entries_keep (list_of f)) (omega arith) in
    omega
    (arith, head, lines, cut-length length_of (list_of f), length-append (head_line (parts_of f).number (parts_of f).entries (parts_of f).saved) (entry_lines 0 es))

-- ---- listings

listing_shorter : (f : List ℕ) (p : Parts) → read_of f ≡ Ok p → length (listing_of f) < length f
unfolding listing_of
listing_shorter f p e = let told = read_tells f p e in
    subst (λ (r : Reading). length (listing_by r f) < length f) (sym (e ∙ ap Ok told.parts_are)) (accepted_shorter f told.tests)

by_refusal : (s : List ℕ) → length s ≤ max_listed_length → (n : ℕ) → n ≡ (refusal_of s).number → length (listing_of s) ≤ max_listed_length
unfolding listing_of
by_refusal s h zero e = omega (arith, listing_shorter s (parts_of s) (read_accepted s (sym e)))
by_refusal s h (suc n) e = let few = refusal_within s in
    rw (read_refused s refl (λ z. omega arith))
    (omega (arith, refused_most (refusal_of s) (omega (arith, few.number_most)) (omega (arith, few.place_most))))

input_most : (s : List ℕ) → length (input_listing s) ≤ max_listed_length
unfolding input_listing
input_most s = by (leb (length s) max_listed_length) refl
  where
    by : (b : Bool) → leb (length s) max_listed_length ≡ b → length (cond b (listing_of s) (refused_line (bare 1))) ≤ max_listed_length
    by true e = by_refusal s (leb-true (length s) max_listed_length e) (refusal_of s).number refl
    by false e = omega (arith, refused_most (bare 1) (omega arith) (omega arith))

pub input_fits : InputFits
input_fits input out h = sym (written_fits (input_listing input) out (omega (arith, input_most input)) refl refl)
