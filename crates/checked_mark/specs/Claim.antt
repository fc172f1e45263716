-- Document 01, of a status: "Bit 1: checked. Other bits are kept and ignored." Document 02, 2026-09, of bit 1: "Old volumes that carry it are still
-- read and written back unchanged, but, amending, comparing and control hashes apart, nothing acts on it." All these bits are marks (specs/Marks):
-- whatever files differ in marks only get the same answers.
--
--   read_in_chunks cs    what reading gives of a file that came in the chunks cs
--   ButHash r s h k    the rooms r and s are the same but for 16 bytes, in which they have h and k
--   SameAnswers f g    reading, reading in chunks, numbering, listing, export, import and opening a catalog give the same of the files f and g, and so
--                      does adding them to a catalog, but for the control hash in the row
--   NothingActs        so they do of files that differ in marks and control hashes only
--   without_marks i     what a list begins with, without marks
--   FirstAlike         lists that differ in marks only begin with the same, marks apart
--   CheckedAlike       contents are checked alike by entries that differ in marks only
--   WrittenAlike       lists that differ in marks only are refused alike, and written to files that differ so
--   Remarked f g fs gs     the volumes or indices f and g of the files fs and gs differ so, and do differ where a status does
--   SomeMarked         so do those of all files that keep the rules, with any other marks
-- What excludes an empty reading: the volume of every set of files that keeps the rules differs so from that of the same files with any other marks
-- (`SomeMarked`), and both are accepted (`par1_set` specs/Claim, `SetRead`). Refused files are covered too, with number and place.
-- The contracts of read, first, check, write_volume, list, list_input, export, import, open and add cite read_of, first_of, check_of, write_volume_of, listing_of,
-- input_listing, export_into, import_into, open_of and add_of, those of a running read push_answer and end_answer.
-- Assumes nothing.
use Rattle.std.specs.Prelude.{◌≡◌, ◌⊎◌, ℕ, ◌+◌, ◌^◌, ◌<◌, take, drop, Some, None, Ok, Err}
use mathlib.Core.List.{List, map, flatten}
use Rattle.catalog.specs.Calls.{open_of, add_of}
use Rattle.codes.specs.declared.Code.{Code}
use Rattle.entries.specs.Numbering.{file_number}
use Rattle.entries.specs.Walk.{Item, first_of}
use Rattle.jobs.specs.Job.{after_pushes}
use Rattle.listing.specs.Listing.{listing_of, input_listing}
use Rattle.md5sum_text.specs.Export.{export_into}
use Rattle.md5sum_text.specs.Import.{import_into}
use Rattle.par1.specs.Checking.{check_of}
use Rattle.par1_read.specs.Reading.{entries_in, read_of}
use Rattle.par1_read.specs.Reading.{Reading}
use Rattle.par1_rules.specs.Layout.{version_for, control_hash_of}
use Rattle.par1_set.specs.Files.{File}
use Rattle.par1_set.specs.Volume.{volume_for, index_for, VolumeRight, IndexRight}
use Rattle.par1_write.specs.VolumeWriting.{write_volume_of}
use Rattle.parity.specs.Coefficient.{rule_of}
use Rattle.running_read.specs.Claim.{read_steps}
use Rattle.running_read.specs.Running.{start_read, end_answer}
use Rattle.checked_mark.specs.Marks.{unmarked, Pairs, EntryAlike, ListsAlike, AlikeButMarks, FileAlike}

abbrev pub read_in_chunks : List (List ℕ) → Reading
read_in_chunks chunks = (end_answer (after_pushes read_steps start_read chunks)).reading

pub record ButHash (r s h k : List ℕ) : Type 0 where
  pub at : ℕ
  pub before_same : take at r ≡ take at s
  pub one_has : take 16 (drop at r) ≡ h
  pub other_has : take 16 (drop at s) ≡ k
  pub after_same : drop (at + 16) r ≡ drop (at + 16) s

pub record SameAnswers (f g : List ℕ) : Type 0 where
  -- the parts, or the number and the place of the refusal
  pub read_same : read_of f ≡ read_of g
  -- however each of them is cut
  pub chunks_same : (cs ds : List (List ℕ)) → flatten cs ≡ f → flatten ds ≡ g → read_in_chunks cs ≡ read_in_chunks ds
  -- "Files are numbered 1 to n over the saved entries only"
  pub numbers-same : (k : ℕ) → file_number (entries_in f) k ≡ file_number (entries_in g) k
  pub listing_same : listing_of f ≡ listing_of g
  pub input_same : input_listing f ≡ input_listing g
  -- md5sum text, into any room; with any text
  pub export_same : (out : List ℕ) → export_into f out ≡ export_into g out
  pub import_same : (text out : List ℕ) → import_into f text out ≡ import_into g text out
  -- a catalog, and f or g added as a volume to any room: a row has the control hash of its volume
  pub opened-same : (out : List ℕ) → open_of f out ≡ open_of g out
  pub added_same : (room : List ℕ) → (add_of room f).0 ≡ (add_of room g).0
  pub rooms_alike : (room : List ℕ) → ((add_of room f).1 ≡ (add_of room g).1) ⊎ ButHash (add_of room f).1 (add_of room g).1 (control_hash_of f) (control_hash_of g)

-- proved: proofs/NothingActs.antt, `nothing_acts`
abbrev pub NothingActs : Type 0
NothingActs = (f g : List ℕ) → AlikeButMarks f g → SameAnswers f g

-- all bits of a status are told
abbrev pub without_marks : Item → Item
without_marks (Ok (Some e)) = Ok (Some (record { length = e.length; status = unmarked e.status; size = e.size }))
without_marks (Ok None) = Ok None
without_marks (Err f) = Err f

-- proved: proofs/ListMarks.antt, `first_alike`
abbrev pub FirstAlike : Type 0
FirstAlike = (s t : List ℕ) → ListsAlike s t → without_marks (first_of s) ≡ without_marks (first_of t)

-- entries that keep the rules or do not, and any contents; proved: proofs/CheckMarks.antt, `checked_alike`
abbrev pub CheckedAlike : Type 0
CheckedAlike = (e g m : List ℕ) → EntryAlike e g → check_of e m ≡ check_of g m

-- proved: proofs/VolumeMarks.antt, `written_alike`
abbrev pub WrittenAlike : Type 0
WrittenAlike =
    (code : Code) (program number : ℕ) (s t area out : List ℕ) → program < 2 ^ 32 → number < 2 ^ 64 → ListsAlike s t
    → let one = write_volume_of code program number s area out in
    let two = write_volume_of code program number t area out in
    (one.0 ≡ two.0) × ((n : ℕ) → one.0 ≡ Ok n → AlikeButMarks (take n one.1) (take n two.1))

pub record Remarked (f g : List ℕ) (fs gs : List File) : Type 0 where
  pub alike : AlikeButMarks f g
  -- the marks are in the bytes
  pub differ : f ≡ g → map (λ x. x.status) fs ≡ map (λ x. x.status) gs

-- proved: proofs/SetMarks.antt, `some_marked`
pub record SomeMarked : Type 0 where
  pub volumes : (code : Code) (program v : ℕ) (fs gs : List File) → program < 2 ^ 32 → VolumeRight v fs → Pairs FileAlike fs gs
      → let volume : List File → List ℕ = λ hs. volume_for (version_for code) (rule_of code) program v hs in
      VolumeRight v gs × Remarked (volume fs) (volume gs) fs gs
  pub indices : (code : Code) (program : ℕ) (fs gs : List File) (comment : List ℕ) → program < 2 ^ 32 → IndexRight fs comment → Pairs FileAlike fs gs
      → IndexRight gs comment × Remarked (index_for (version_for code) program fs comment) (index_for (version_for code) program gs comment) fs gs
