-- Condition 2 of the tender, over a whole set of files: what is written of them is what Par 1.0 and document 01 define, and is read back. For each
-- code c (document 02, 2026-13: "For this code condition 2 is read with this version and these factors in place of Par 1.0's.").
--
--   VolumeMade c program v fs ks room out  what the calls give, for volume v of the files fs
--   SetWritten                             they give it for every set that keeps the rules and whose entries are written
--   IndexMade, IndexWritten                the same of the index
--   OnlyVolumes, OnlyIndices               they write nothing else
--   SetRead, IndexRead                     volumes and indices that list entries of other statuses are read back too
--   FileBack x                             the entry of the file x says what x is
--   FilesListed fs                         how the files fs stand in their list
--   SetListed                              they stand so
-- What excludes an empty reading: the rules ask for no more than the calls do (`OnlyVolumes`), a set with a file between that is not saved
-- keeps them (proofs/Examples.antt, `p6_right`), and n files have an order to be taken in (parity specs/Claim, `SomeOrder`).
-- The contracts of write_entry, coefficient, mul_add, write_volume, read and check cite write_entry_of, coefficient_answer, mul_add,
-- write_volume_of, read_of and check_of.
-- Assumes nothing.
use Rattle.std.specs.Prelude.{◌≡◌, true, List, [], ℕ, ◌^◌, ◌<◌, ◌≤◌, length, get_or, Ok}
use Rattle.cut_lists.specs.All.{All}
use Rattle.codes.specs.declared.Code.{Code}
use Rattle.entries.specs.Entry.{is_saved}
use Rattle.entries.specs.Numbering.{saved_of, file_number}
use Rattle.entries.specs.Walk.{entries_of, greatest_of}
use Rattle.lent_bytes.specs.Writing.{accepted}
use Rattle.mul_add.specs.Once.{Once}
use Rattle.par1.specs.Claim.{ReadBack, EntryBack}
use Rattle.par1_rules.specs.Layout.{version_for}
use Rattle.parity.specs.Coefficient.{rule_of, coefficient_answer}
use Rattle.parity.specs.Parity.{is_file, greatest}
use Rattle.refusals.specs.Limits.{max_volume_length}
use Rattle.par1_set.specs.Calls.{write_entries, add_files, write_set}
use Rattle.par1_set.specs.Files.{File, no_file, saved_files, file_count, contents_of, entry_for, entries_for, list_for, data_size_for, FileRight, Writable}
use Rattle.par1_set.specs.Volume.{data_for, volume_for, index_for, VolumeRight, IndexRight}

-- ---- "A volume written is, byte by byte, the one that Par 1.0, RFC 1321 and document 01 define. Reading returns the parts it was
-- ---- written from"

pub record VolumeMade (c : Code) (program v : ℕ) (fs : List File) (ks room out : List ℕ) : Type 0 where
  -- `write_entry` of each file, one after another, gives the list
  pub list_is : write_entries fs 0 room ≡ accepted (list_for fs) room
  -- `coefficient` of each saved file gives its weight
  pub coefficients_are : (f : ℕ) → is_file (file_count fs) f ≡ true → coefficient_answer c f v ≡ Ok (rule_of c f v)
  -- `mul_add` of each saved file with its weight, into zeros, gives the data
  pub data_is : add_files (rule_of c) v fs ks ≡ data_for (rule_of c) v fs
  -- `write_volume` of the list and the data gives the volume
  pub volume_is : write_set c program v fs (add_files (rule_of c) v fs ks) room out ≡ accepted (volume_for (version_for c) (rule_of c) program v fs) out
  -- `read` of the volume gives the parts
  pub read_back : ReadBack (volume_for (version_for c) (rule_of c) program v fs) c program v (list_for fs) (data_for (rule_of c) v fs)

-- ks is any order of the files 1 to n; there is room for the list and for the volume; the program identifier is a u32;
-- proved: proofs/Sets.antt, `set-written`
abbrev pub SetWritten : Type 0
SetWritten =
    (c : Code) (program v : ℕ) (fs : List File) (ks room out : List ℕ) → program < 2 ^ 32 → VolumeRight v fs → All Writable fs
    → Once (is_file (file_count fs)) ks
    → length (list_for fs) ≤ length room → length (volume_for (version_for c) (rule_of c) program v fs) ≤ length out
    → VolumeMade c program v fs ks room out

pub record IndexMade (c : Code) (program : ℕ) (fs : List File) (comment room out : List ℕ) : Type 0 where
  pub index_is : write_set c program 0 fs comment room out ≡ accepted (index_for (version_for c) program fs comment) out
  pub read_back : ReadBack (index_for (version_for c) program fs comment) c program 0 (list_for fs) comment

-- proved: proofs/Sets.antt, `index_written`
abbrev pub IndexWritten : Type 0
IndexWritten =
    (c : Code) (program : ℕ) (fs : List File) (comment room out : List ℕ) → program < 2 ^ 32 → IndexRight fs comment → All Writable fs
    → length (list_for fs) ≤ length room → length (index_for (version_for c) program fs comment) ≤ length out
    → IndexMade c program fs comment room out

-- ---- nothing else is written

-- whatever the files: where the calls accept them they keep the rules, and it is their volume that is written;
-- proved: proofs/Sets.antt, `only_volumes`
abbrev pub OnlyVolumes : Type 0
OnlyVolumes =
    (c : Code) (program v : ℕ) (fs : List File) (ks room out : List ℕ) (n : ℕ) (after : List ℕ) → 1 ≤ v → Once (is_file (file_count fs)) ks
    → write_set c program v fs (add_files (rule_of c) v fs ks) room out ≡ (Ok n, after)
    → VolumeRight v fs × All Writable fs × ((Ok n, after) ≡ accepted (volume_for (version_for c) (rule_of c) program v fs) out)

-- proved: proofs/Sets.antt, `only_indices`
abbrev pub OnlyIndices : Type 0
OnlyIndices =
    (c : Code) (program : ℕ) (fs : List File) (comment room out : List ℕ) (n : ℕ) (after : List ℕ)
    → write_set c program 0 fs comment room out ≡ (Ok n, after)
    → IndexRight fs comment × All Writable fs × ((Ok n, after) ≡ accepted (index_for (version_for c) program fs comment) out)

-- ---- document 02, 2026-09: "Old volumes that carry it are still read and written back unchanged", for what is read is written again with the same
-- ---- bytes (`par1` specs/Claim, `WrittenRead`)

-- proved: proofs/Sets.antt, `set_read`
abbrev pub SetRead : Type 0
SetRead =
    (c : Code) (program v : ℕ) (fs : List File) → program < 2 ^ 32 → VolumeRight v fs
    → ReadBack (volume_for (version_for c) (rule_of c) program v fs) c program v (list_for fs) (data_for (rule_of c) v fs)

-- proved: proofs/Sets.antt, `index_read`
abbrev pub IndexRead : Type 0
IndexRead =
    (c : Code) (program : ℕ) (fs : List File) (comment : List ℕ) → program < 2 ^ 32 → IndexRight fs comment
    → ReadBack (index_for (version_for c) program fs comment) c program 0 (list_for fs) comment

-- ---- the files in their list

abbrev pub FileBack : File → Type 0
FileBack x = EntryBack (entry_for x) x.contents x.status x.name

pub record FilesListed (fs : List File) : Type 0 where
  -- "Entries fill the list area with nothing left over": one for each file, in order
  pub entries_are : entries_of (list_for fs) ≡ record { pieces = entries_for fs; rest = [] }
  -- each says what its file is, and `check` accepts the file by it
  pub files_are : All FileBack fs
  -- "Files are numbered 1 to n over the saved entries only, in list order"
  pub saved_are : saved_of (entries_for fs) ≡ entries_for (saved_files fs)
  -- so the file that counts in the parity by the number of entry k is the file of entry k
  pub numbered : (k : ℕ) → k < length fs → is_saved (get_or fs k no_file).status ≡ true
      → contents_of fs (file_number (entries_for fs) k) ≡ (get_or fs k no_file).contents
  -- the data size is the one that reading and writing ask for
  pub data_size_lem : data_size_for fs ≡ greatest_of (entries_for fs)
  -- document 02, 2026-02: it "is the greatest size among saved entries"
  pub of_saved : data_size_for fs ≡ greatest (file_count fs) (λ f. length (contents_of fs f))

-- proved: proofs/FileEntries.antt, `set-listed`
abbrev pub SetListed : Type 0
SetListed = (fs : List File) → All FileRight fs → length (list_for fs) ≤ max_volume_length → FilesListed fs
