-- Entries that differ in marks only: every field but the status is the same, and so is what bit 0 of the status tells.
--
--   saved_same                        whether a file is saved
--   entry_size_lem, file_size, md5-same, md5_16k, name_same, is_saved_lem, is_counted_lem, body_allowed_lem     of two entries
--   alike_self, totals_same, set_hash_same     of entries one after another
--   number_same                       their file numbers
--   lines_same                        their lines in a listing
-- Assumes nothing.
use mathlib.Core.Path.{◌≡◌, refl, sym, ap, ap₂, ◌∙◌}
use mathlib.Core.Bool.{Bool, cond}
use mathlib.Core.List.{List, [], ◌++◌, map, foldr, flatten}
use Prim.Native.Nat.{ℕ, zero, suc, ◌+◌, ◌%◌, max}
use native.Mathlib.Omega.{arith}
use lib.Dec.{eqb}
use lib.ListN.{length, take, drop, get_or, length-map}
use lib.Seq.{drop-drop}
use Rattle.entries.specs.Entry.{entry_size, status_of, file_size_of, md5_of, md5_of_16k, name_of, is_saved, is_counted, saved_count, body_allowed}
use Rattle.entries.specs.Numbering.{saved_of, file_number}
use Rattle.entries.specs.Walk.{greatest_of, totals_of}
use Rattle.little_endian.specs.Bytes.{from_le, le_at}
use Rattle.listing.specs.Lines.{label, line_of, entry_line, entry_lines}
use Rattle.md5_digest.specs.Digest.{md5}
use Rattle.par1_rules.specs.Hashes.{set_hash}
use Rattle.checked_mark.proofs.PairLaws.{pairs_self, pairs_take, count_same, kept_same}
use Rattle.checked_mark.specs.Marks.{unmarked, Pairs, pairs_none, pairs_more, EntryAlike}

-- bit 0 stays
pub saved_same : (st su : ℕ) → unmarked st ≡ unmarked su → is_saved st ≡ is_saved su
saved_same st su h = let e : st % 2 ≡ su % 2 = omega arith in ap (λ (n : ℕ). eqb n 1) e

module _ {e g : List ℕ} (a : EntryAlike e g) where
  later : (k : ℕ) → drop (16 + k) e ≡ drop (16 + k) g
  later k = sym (drop-drop k 16 e) ∙ ap (drop k) a.rest-same ∙ drop-drop k 16 g

  pub entry_size_lem : entry_size e ≡ entry_size g
  unfolding le_at
  entry_size_lem = ap from_le a.size_same

  pub file_size : file_size_of e ≡ file_size_of g
  unfolding le_at
  file_size = ap (λ (s : List ℕ). from_le (take 8 s)) a.rest-same

  pub md5-same : md5_of e ≡ md5_of g
  md5-same = ap (take 16) (later 8)

  pub md5_16k : md5_of_16k e ≡ md5_of_16k g
  md5_16k = ap (take 16) (later 24)

  pub name_same : name_of e ≡ name_of g
  name_same = later 40

  pub is_saved_lem : is_saved (status_of e) ≡ is_saved (status_of g)
  is_saved_lem = saved_same _ _ a.status_alike

  pub is_counted_lem : is_counted (status_of e) ≡ is_counted (status_of g)
  unfolding is_counted
  is_counted_lem = is_saved_lem

  pub body_allowed_lem : body_allowed e ≡ body_allowed g
  unfolding body_allowed
  body_allowed_lem = simp (file_size, name_same)

-- ---- entries one after another

pub alike_self : (es : List (List ℕ)) → Pairs EntryAlike es es
alike_self = pairs_self (λ e. record { length-same = refl; size_same = refl; status_alike = refl; rest-same = refl })

module _ {es gs : List (List ℕ)} (ps : Pairs EntryAlike es gs) where
  saved_md5s : map (λ e. md5_of e) (saved_of es) ≡ map (λ e. md5_of e) (saved_of gs)
  saved_md5s = kept_same (λ e. md5_of e) (λ e. is_saved (status_of e)) (λ e g a. md5-same a) (λ e g a. is_saved_lem a) ps

  pub saved_count_lem : length (saved_of es) ≡ length (saved_of gs)
  saved_count_lem = sym (length-map (saved_of es) (λ e. md5_of e)) ∙ ap length saved_md5s ∙ length-map (saved_of gs) (λ e. md5_of e)

  pub greatest-same : greatest_of es ≡ greatest_of gs
  greatest-same =
      ap (foldr max 0) (kept_same (λ e. file_size_of e) (λ e. is_counted (status_of e)) (λ e g a. file_size a) (λ e g a. is_counted_lem a) ps)

pub totals_same : {es gs : List (List ℕ)} → Pairs EntryAlike es gs → totals_of es ≡ totals_of gs
totals_same ps = cc (count_same ps, saved_count_lem ps, greatest-same ps)

pub set_hash_same : {es gs : List (List ℕ)} → Pairs EntryAlike es gs → set_hash es ≡ set_hash gs
unfolding set_hash
set_hash_same ps = ap (λ (hs : List (List ℕ)). md5 (flatten hs)) (saved_md5s ps)

-- ---- file numbers

saved_at : (k : ℕ) {es gs : List (List ℕ)} → Pairs EntryAlike es gs → is_saved (status_of (get_or es k [])) ≡ is_saved (status_of (get_or gs k []))
saved_at k pairs_none = refl
saved_at zero (pairs_more a ps) = is_saved_lem a
saved_at (suc k) (pairs_more a ps) = saved_at k ps

pub number_same : (k : ℕ) {es gs : List (List ℕ)} → Pairs EntryAlike es gs → file_number es k ≡ file_number gs k
number_same k ps = ap₂ (λ (b : Bool) (n : ℕ). cond b (n + 1) 0) (saved_at k ps) (saved_count_lem (pairs_take k ps))

-- ---- lines

pub lines_same : (k : ℕ) {es gs : List (List ℕ)} → Pairs EntryAlike es gs → entry_lines k es ≡ entry_lines k gs
unfolding entry_lines line_of label
lines_same k pairs_none = refl
lines_same k (pairs_more {x = e} {y = g} {xs = es} {ys = gs} a ps) =
    simp (is_saved_lem a, file_size a, name_same a)
    (ap (λ (t : List ℕ). entry_line (k + saved_count (status_of g)) g ++ t) (lines_same (k + saved_count (status_of g)) ps))
