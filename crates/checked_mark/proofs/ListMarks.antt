-- Lists that differ in marks only: the walk gives the same, and the entries are alike.
--
--   front_length, front_fault, front_item     what a list begins with, where that is bytes that say their own length
--   WalkedAlike s t    the walks over the lists s and t find entries alike, and stop alike
--   walked_alike, walk_same     so they do, and give the same
--   first_alike        the claim
-- Assumes nothing.
use Rattle.std.specs.Prelude.{Err}
use mathlib.Core.Path.{◌≡◌, refl, sym, ap, ◌∙◌}
use mathlib.Core.Bool.{Bool, true, false, cond}
use mathlib.Core.List.{List, ◌++◌}
use Prim.Native.Nat.{ℕ, ◌+◌, ◌≤◌, ◌<◌}
use native.Mathlib.Omega.{arith}
use lib.ListN.{length, length-append}
use lib.Seq.{take-append_seam, drop-append_seam}
use Rattle.cut_lists.specs.Pieces.{none, before}
use Rattle.cut_lists.proofs.CutLaws.{cut_stop, cut_more}
use Rattle.entries.specs.Entry.{entry_size, file_size_of, file_size_allowed, entry_size_allowed, body_allowed, entry_allowed, length_of}
use Rattle.entries.specs.Walk.{Item, fault_of, item_of, first_of, entries_of, totals_of, walked_to, walk_of}
use Rattle.entries.specs.declared.Fault.TheVariants.{FileSize, Name}
use Rattle.entries.specs.declared.Totals.{Totals}
use Rattle.entries.proofs.EntryLaws.{sized, first_some}
use Rattle.entries.proofs.FirstFaults.{sized_right}
use Rattle.entries.proofs.WalkLaws.{stopped}
use Rattle.little_endian.proofs.Reading.{le_at-append}
use Rattle.checked_mark.specs.Claim.{without_marks, FirstAlike}
use Rattle.checked_mark.specs.Marks.{Pairs, pairs_none, pairs_more, EntryAlike, SizeRight, ListsAlike, rest-same, entry_more}
use Rattle.checked_mark.proofs.EntryMarks.{entry_size_lem, file_size, body_allowed_lem, alike_self, totals_same}

-- ---- the front of a list

module _ {e : List ℕ} (z : SizeRight e) (s : List ℕ) where
  low : 58 ≤ length e
  low = (sized (length e) (length e) z.size_right).low

  own_size : entry_size (e ++ s) ≡ length e
  own_size = le_at-append 8 e s 0 (omega (arith, low)) ∙ z.fills

  size_allowed : entry_size_allowed (length e) (length (e ++ s)) ≡ true
  size_allowed = let n = sized (length e) (length e) z.size_right in
      let total : length (e ++ s) ≡ length e + length s = length-append e s in
      sized_right (length e) (length (e ++ s)) n.even n.low (omega arith)

  front_length : length_of (e ++ s) ≡ cond (body_allowed e) (length e) 0
  unfolding length_of entry_allowed
  front_length = simp (own_size, size_allowed, take-append_seam e s)

  front_fault : fault_of (e ++ s) ≡ cond (file_size_allowed (file_size_of e)) Name FileSize
  unfolding fault_of
  front_fault = simp (own_size, size_allowed, take-append_seam e s)

  front_some : 0 < length (e ++ s)
  front_some = omega (arith, low, length-append e s)

  front_item : first_of (e ++ s) ≡ cond (body_allowed e) (item_of e) (Err (cond (file_size_allowed (file_size_of e)) Name FileSize))
  unfolding entry_allowed
  front_item = first_some (e ++ s) front_some ∙ simp (front_fault, own_size, size_allowed, take-append_seam e s)

  front_taken : body_allowed e ≡ true → entries_of (e ++ s) ≡ before e (entries_of s)
  front_taken right = let n : length_of (e ++ s) ≡ length e = front_length ∙ simp right in
      simp (cut_more length_of (e ++ s) front_some (omega (arith, low)), n, take-append_seam, drop-append_seam)

  front_left : body_allowed e ≡ false → entries_of (e ++ s) ≡ none (e ++ s)
  front_left wrong = cut_stop length_of (e ++ s) (front_length ∙ simp wrong)

sized_alike : {e g : List ℕ} → EntryAlike e g → SizeRight e → SizeRight g
sized_alike a z = record {
  fills = sym (entry_size_lem a) ∙ z.fills ∙ a.length-same;
  size_right = ap (λ (n : ℕ). entry_size_allowed n n) (sym a.length-same) ∙ z.size_right;
}

-- ---- the walk

pub record WalkedAlike (s t : List ℕ) : Type 0 where
  pub entries_alike : Pairs EntryAlike (entries_of s).pieces (entries_of t).pieces
  -- the end, or the same fault
  pub stopped_same : (n : Totals) → walked_to n (entries_of s).rest ≡ walked_to n (entries_of t).rest

module _ {e g s t : List ℕ} (z : SizeRight e) (a : EntryAlike e g) (others : WalkedAlike s t) where
  other : SizeRight g
  other = sized_alike a z

  left_same : (n : Totals) → walked_to n (e ++ s) ≡ walked_to n (g ++ t)
  left_same n =
      let faults : fault_of (e ++ s) ≡ fault_of (g ++ t) = simp (front_fault z s, file_size a, front_fault other t) in
      simp (stopped n (e ++ s) (front_some z s), faults, stopped n (g ++ t) (front_some other t))

  more_alike : (b : Bool) → body_allowed e ≡ b → body_allowed g ≡ b → WalkedAlike (e ++ s) (g ++ t)
  more_alike true p q = let one = front_taken z s p in
      let two = front_taken other t q in
      record {
        entries_alike = rw (one, two) (pairs_more a others.entries_alike);
        stopped_same = λ n. rw (one, two) (others.stopped_same n);
      }
  more_alike false p q = let one = front_left z s p in
      let two = front_left other t q in
      record { entries_alike = rw (one, two) pairs_none; stopped_same = λ n. rw (one, two) (left_same n) }

pub walked_alike : {s t : List ℕ} → ListsAlike s t → WalkedAlike s t
walked_alike (rest-same s) = record { entries_alike = alike_self (entries_of s).pieces; stopped_same = λ n. refl }
walked_alike (entry_more {e} z a l) = more_alike z a (walked_alike l) (body_allowed e) refl (sym (body_allowed_lem a))

pub walk_same : {s t : List ℕ} → ListsAlike s t → walk_of s ≡ walk_of t
unfolding walk_of
walk_same {s} {t} l = let w = walked_alike l in
    ap (λ (n : Totals). walked_to n (entries_of s).rest) (totals_same w.entries_alike) ∙ w.stopped_same (totals_of (entries_of t).pieces)

pub first_alike : FirstAlike
first_alike s t (rest-same _) = refl
first_alike _ _ (entry_more {e} {g} {s} {t} z a l) = cc (front_item z s, by (body_allowed e), body_allowed_lem a, front_item (sized_alike a z) t)
  where
    fault : List ℕ → Item
    fault = λ d. Err (cond (file_size_allowed (file_size_of d)) Name FileSize)

    by : (b : Bool) → without_marks (cond b (item_of e) (fault e)) ≡ without_marks (cond b (item_of g) (fault g))
    by true = cc (a.length-same, a.status_alike, file_size a)
    by false = ap (λ (n : ℕ). without_marks (Err (cond (file_size_allowed n) Name FileSize))) (file_size a)
