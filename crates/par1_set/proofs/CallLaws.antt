-- What the calls give that write a set of files, one after another.
--
--   entries_written    `write_entry` of each file gives the list area
--   set_then           then the calls give what `write_volume` gives
-- Assumes nothing.
use Rattle.std.specs.Prelude.{Ok}
use mathlib.Core.Path.{◌≡◌, sym, ap, ap₂, ◌∙◌}
use mathlib.Core.List.{List, [], ◌++◌, append_assoc, flatten}
use Prim.Native.Nat.{ℕ, ◌+◌, ◌≤◌}
use native.Mathlib.Omega.{arith}
use lib.ListN.{length, take, drop, length-append, length-drop}
use lib.Seq.{take-append_seam, drop-append_seam, drop-drop}
use Rattle.cut_lists.specs.All.{All, all_none, all_more}
use Rattle.codes.specs.declared.Code.{Code}
use Rattle.lent_bytes.specs.Writing.{accepted}
use Rattle.lent_bytes.specs.Writing.{Writing}
use Rattle.par1.proofs.EntryWritten.{entry-accepted}
use Rattle.par1_write.specs.EntryWriting.{write_entry_of}
use Rattle.par1_write.specs.VolumeWriting.{write_volume_of}
use Rattle.par1_set.specs.Calls.{next, write_entries, write_set}
use Rattle.par1_set.specs.Files.{File, entry_for, list_for, FileRight, Writable}

-- the bytes p stand in the room already, and the rest of it follows them: an entry e, then the others l
after-entry : (p e l rest : List ℕ)
    → ◌≡◌ {A = Writing × List ℕ} (Ok (length (p ++ e) + length l), (p ++ e) ++ (l ++ drop (length l) (drop (length e) rest)))
    (Ok (length p + length (e ++ l)), p ++ ((e ++ l) ++ drop (length (e ++ l)) rest))
after-entry p e l rest =
    let n : length (p ++ e) + length l ≡ length p + length (e ++ l) = omega (arith, length-append p e, length-append e l) in
    let past : drop (length l) (drop (length e) rest) ≡ drop (length (e ++ l)) rest =
    drop-drop (length l) (length e) rest ∙ ap (λ (k : ℕ). drop k rest) (sym (length-append e l)) in
    ap₂ (λ (k : ℕ) (t : List ℕ). (Ok k, t)) n (simp append_assoc (ap (λ (t : List ℕ). p ++ (e ++ (l ++ t))) past))

entries_from : {fs : List File} (p rest : List ℕ) → All FileRight fs → All Writable fs → length (list_for fs) ≤ length rest
    → write_entries fs (length p) (p ++ rest) ≡ (Ok (length p + length (list_for fs)), p ++ (list_for fs ++ drop (length (list_for fs)) rest))
unfolding write_entries flatten
entries_from p rest all_none all_none h = let n : length p ≡ length p + 0 = omega arith in ap (λ (k : ℕ). (Ok k, p ++ rest)) n
entries_from p rest (all_more {x} {xs = fs} r rs) (all_more w ws) h = let e : List ℕ = entry_for x in
    let l : List ℕ = list_for fs in
    let out : List ℕ = p ++ rest in
    let total : length (e ++ l) ≡ length e + length l = length-append e l in
    let wrote_one : write_entry_of x.contents x.status x.name (drop (length p) out) ≡ accepted e rest =
    ap (write_entry_of x.contents x.status x.name) (drop-append_seam p rest)
    ∙ entry-accepted x.contents x.status x.name rest r.size_right w r.name_right (omega arith) in
    let wrote : take (length p) out ++ (e ++ drop (length e) rest) ≡ (p ++ e) ++ drop (length e) rest =
    ap (λ (t : List ℕ). t ++ (e ++ drop (length e) rest)) (take-append_seam p rest) ∙ sym (append_assoc p e _) in
    ap (λ (q : Writing × List ℕ). next q.0 out (λ n. write_entries fs (length p + n) (take (length p) out ++ q.1))) wrote_one
    ∙ ap₂ (λ (k : ℕ) (t : List ℕ). write_entries fs k t) (sym (length-append p e)) wrote
    ∙ entries_from (p ++ e) (drop (length e) rest) rs ws (omega (arith, length-drop (length e) rest))
    ∙ after-entry p e l rest

pub entries_written : {fs : List File} (room : List ℕ) → All FileRight fs → All Writable fs → length (list_for fs) ≤ length room
    → write_entries fs 0 room ≡ accepted (list_for fs) room
entries_written {fs} room rs ws h = let n : 0 + length (list_for fs) ≡ length (list_for fs) = omega arith in
    entries_from [] room rs ws h ∙ ap (λ (k : ℕ). (Ok k, list_for fs ++ drop (length (list_for fs)) room)) n

pub set_then : (c : Code) (program v : ℕ) (fs : List File) (area room out : List ℕ) → write_entries fs 0 room ≡ accepted (list_for fs) room
    → write_set c program v fs area room out ≡ write_volume_of c program v (list_for fs) area out
unfolding write_set
set_then c program v fs area room out wrote =
    ap (λ (r : Writing × List ℕ). next r.0 out (λ n. write_volume_of c program v (take n r.1) area out)) wrote
    ∙ ap (λ (l : List ℕ). write_volume_of c program v l area out) (take-append_seam (list_for fs) _)
