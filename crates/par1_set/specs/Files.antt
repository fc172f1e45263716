-- A set of files, as a Par 1.0 list has them, in list order (document 01, "Byte layout").
--
--   File               a file: its contents, the status of its entry, its name in bytes
--   no_file             what stands at a place past the last file
--   saved_files fs      those of the files fs that are saved in the parity
--   file_count fs       how many they are: n
--   contents_of fs f    the contents of file f: the f-th saved one, from 1
--   entry_for x         the entry of the file x
--   entries_for fs      the entries of the files fs
--   list_for fs         the list area of the files fs
--   data_size_for fs     the data size of their volumes
--   FileRight x        the file x keeps the rules of a list
--   Writable x         its entry is one that is written
-- Assumes nothing.
use Rattle.std.specs.Prelude.{◌≡◌, true, ℕ, ◌-◌, ◌^◌, ◌<◌, ◌≤◌, max, length, get_or}
use mathlib.Core.List.{List, [], map, foldr, flatten}
use Rattle.entries.specs.Entry.{is_saved, is_counted, file_size_allowed, name_allowed}
use Rattle.entries.specs.Numbering.{keep}
use Rattle.par1_write.specs.EntryWriting.{entry_bytes}

pub record File : Type 0 where
  pub contents : List ℕ
  pub status : ℕ
  pub name : List ℕ

abbrev pub no_file : File
no_file = record { contents = []; status = 0; name = [] }

-- ---- "Files are numbered 1 to n over the saved entries only, in list order; entries not saved have no number."

abbrev pub saved_files : List File → List File
saved_files fs = keep (λ x. is_saved x.status) fs

abbrev pub file_count : List File → ℕ
file_count fs = length (saved_files fs)

abbrev pub contents_of : List File → ℕ → List ℕ
contents_of fs f = (get_or (saved_files fs) (f - 1) no_file).contents

-- ---- "Entries fill the list area with nothing left over"

abbrev pub entry_for : File → List ℕ
entry_for x = entry_bytes x.contents x.status x.name

abbrev pub entries_for : List File → List (List ℕ)
entries_for fs = map (λ x. entry_for x) fs

abbrev pub list_for : List File → List ℕ
list_for fs = flatten (entries_for fs)

-- document 02, 2026-02: "data size is the greatest size among saved entries": `is_counted` says which files count
abbrev pub data_size_for : List File → ℕ
data_size_for fs = foldr max 0 (map (λ x. length x.contents) (keep (λ x. is_counted x.status) fs))

-- ---- the rules

-- reading takes any status of 64 bits: document 02, 2026-09, "Old volumes that carry it are still read"
pub record FileRight (x : File) : Type 0 where
  pub size_right : file_size_allowed (length x.contents) ≡ true
  pub status_right : x.status < 2 ^ 64
  pub name_right : name_allowed x.name ≡ true

-- "entries are written with status 0 or 1 only"
abbrev pub Writable : File → Type 0
Writable x = x.status ≤ 1
