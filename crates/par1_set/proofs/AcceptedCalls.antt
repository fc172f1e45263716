-- What accepted calls tell of a set of files: that it keeps the rules.
--
--   EntriesTold, entries_tell    from an accepted `write_entry` of each file
--   set_tells                    and from an accepted `write_volume` after it
-- Assumes nothing.
use Rattle.std.specs.Prelude.{Ok, Err}
use mathlib.Core.Path.{◌≡◌, refl, sym, ap, ◌∙◌}
use mathlib.Core.List.{List, [], ◌∷◌, ◌++◌, flatten}
use Prim.Native.Nat.{ℕ, ◌+◌, ◌≤◌}
use native.Mathlib.Omega.{arith}
use borrow.Author.Tests.{leb-true}
use lib.ListN.{length, take, drop, length-append, length-drop}
use lib.Seq.{length-take-le}
use Rattle.cut_lists.specs.All.{All, all_none, all_more}
use Rattle.codes.specs.declared.Code.{Code}
use Rattle.lent_bytes.specs.Writing.{Writing}
use Rattle.lent_bytes.proofs.WritingLaws.{never, unless_tells}
use Rattle.par1_write.specs.EntryWriting.{entry_refusal, write_entry_of}
use Rattle.par1_write.specs.VolumeWriting.{write_volume_of}
use Rattle.par1_write.proofs.EntryWritingLaws.{entry_passed}
use Rattle.refusals.specs.Tests.{bare}
use Rattle.refusals.specs.declared.Refusal.{Refusal}
use Rattle.par1_set.specs.Calls.{next, write_entries, write_set}
use Rattle.par1_set.specs.Files.{File, entry_for, list_for, FileRight, Writable}
use Rattle.par1_set.proofs.CallLaws.{entries_written, set_then}

-- one entry was accepted
record EntryTold (x : File) (out : List ℕ) (n : ℕ) (after : List ℕ) : Type 0 where
  right : FileRight x
  writable : Writable x
  fits : length (entry_for x) ≤ length out
  written : n ≡ length (entry_for x)
  kept : length after ≡ length out

entry_tells : (x : File) (out : List ℕ) {n : ℕ} {after : List ℕ} → write_entry_of x.contents x.status x.name out ≡ (Ok n, after)
    → EntryTold x out n after
unfolding write_entry_of
entry_tells x out {n} {after} e = let refusal : Refusal = bare (entry_refusal (length x.contents) x.status x.name) in
    let s : List ℕ = entry_for x in
    let told = unless_tells refusal s out e in
    let p = entry_passed (length x.contents) x.status x.name told.none in
    let small : x.status ≤ 1 = leb-true x.status 1 p.status_right in
    record {
      right = record { size_right = p.size_right; status_right = omega arith; name_right = p.name_right };
      writable = small;
      fits = told.fits;
      written = told.length_is;
      kept = ap length told.room_is ∙ simp (length-append, length-drop) (omega (arith, told.fits));
    }

-- the files keep the rules, and the room holds their entries from byte at on
pub record EntriesTold (fs : List File) (at : ℕ) (room : List ℕ) : Type 0 where
  pub files_right : All FileRight fs
  pub writable : All Writable fs
  pub fits : at + length (list_for fs) ≤ length room

-- one entry, then the others
module _ (x : File) (fs : List File) (at : ℕ) (room : List ℕ) {n : ℕ} {after : List ℕ}
    (others : (j : ℕ) (s : List ℕ) → j ≤ length s → write_entries fs j s ≡ (Ok n, after) → EntriesTold fs j s) where
  more_tells : (w : Writing) (t : List ℕ) → at ≤ length room → write_entry_of x.contents x.status x.name (drop at room) ≡ (w, t)
      → next w room (λ k. write_entries fs (at + k) (take at room ++ t)) ≡ (Ok n, after) → EntriesTold (x ∷ fs) at room
  unfolding flatten
  more_tells (Err k) t h first e = never e
  more_tells (Ok k) t h first e = let one = entry_tells x (drop at room) first in
      let left = length-drop at room in
      let kept : length (take at room ++ t) ≡ length room = omega (arith, length-append (take at room) t, length-take-le at room h, one.kept) in
      let rest = others (at + k) (take at room ++ t) (omega (arith, one.fits, one.written)) e in
      record {
        files_right = all_more one.right rest.files_right;
        writable = all_more one.writable rest.writable;
        fits = omega (arith, rest.fits, one.written, length-append (entry_for x) (list_for fs));
      }

entries_tell : (fs : List File) (at : ℕ) (room : List ℕ) {n : ℕ} {after : List ℕ} → at ≤ length room
    → write_entries fs at room ≡ (Ok n, after) → EntriesTold fs at room
unfolding write_entries flatten
entries_tell [] at room h e = record { files_right = all_none; writable = all_none; fits = omega arith }
entries_tell (x ∷ fs) at room h e = let r : Writing × List ℕ = write_entry_of x.contents x.status x.name (drop at room) in
    more_tells x fs at room (λ j s. entries_tell fs j s) r.0 r.1 h refl e

pub set_tells : (c : Code) (program v : ℕ) (fs : List File) (area room out : List ℕ) {n : ℕ} {after : List ℕ}
    → write_set c program v fs area room out ≡ (Ok n, after)
    → All FileRight fs × All Writable fs × (write_volume_of c program v (list_for fs) area out ≡ (Ok n, after))
unfolding write_set
set_tells c program v fs area room out {n} {after} e = let r : Writing × List ℕ = write_entries fs 0 room in by r.0 r.1 refl e
  where
    by : (w : Writing) (t : List ℕ) → write_entries fs 0 room ≡ (w, t) → next w out (λ k. write_volume_of c program v (take k t) area out) ≡ (Ok n, after)
        → All FileRight fs × All Writable fs × (write_volume_of c program v (list_for fs) area out ≡ (Ok n, after))
    by (Err k) t first second = never second
    by (Ok k) t first second =
        let told = entries_tell fs 0 room (omega arith) first in (
          told.files_right,
          told.writable,
          sym (set_then c program v fs area room out (entries_written room told.files_right told.writable (omega (arith, told.fits)))) ∙ e,
        )
