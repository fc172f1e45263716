-- Conditions 2 and 3 of the tender meet: from the files and the volumes of a set that are present, the volumes as condition 2 has them written, and
-- the weights that condition 3 has a query give, each file that it calls recoverable comes back, and checking accepts it by its entry. For each code,
-- after every list of calls.
--
--   SetRight fs               the files fs keep the rules of a list, and their contents are bytes
--   saved_entries fs           the saved entries of their list, as it is cut into entries
--   entry_of fs f              the entry of file f
--   listed_sizes fs            the sizes of files 1 to n, as their entries tell them
--   state_after code fs cs     the model's state after the calls cs on an inventory opened for the code with these sizes
--   Reached code fs cs s      the calls cs on an inventory so opened, refused ones too, lead to the inventory s
--   AsWritten code v fs file             the file is volume v of the files fs as it was written
--   FragmentsOf code fs t fragment       the fragments present in t are the contents of files, and the data that reading finds in volumes as they
--                                        were written
--   Recovered fs t f b        f is a file that is missing in t, b is that file, and checking accepts it
-- The claims:
--   SetOpened        an opening with the listed sizes is accepted
--   SetRecovered     fragments added with the weights of an accepted query give the file, by any of our calls that add
-- What excludes an empty reading: an opening is accepted (SetOpened), and every call has its reply (`inventory` specs/Claim, Answered); each buffer that
-- `AddsAll` speaks of is there (`mul_add_sums` proofs/Boxes, `all_given`); and a set with a file between that is not saved, calls on its inventory and a
-- query meet all that `SetRecovered` asks for (proofs/Examples.antt, `file_back`).
-- Sentences in quotation marks are document 01's, or the tender's condition 3.
-- Assumes nothing.
use Rattle.std.specs.Prelude.{◌≡◌, true, false, List, [], map, ℕ, ◌+◌, ◌-◌, ◌^◌, ◌<◌, ◌≤◌, length, get_or, take, drop, replicate, Ok}
use Rattle.codes.specs.declared.Code.{Code}
use Rattle.cut_lists.specs.All.{All}
use Rattle.entries.specs.Entry.{file_size_of}
use Rattle.entries.specs.Numbering.{saved_of}
use Rattle.entries.specs.Walk.{entries_of}
use Rattle.recovery.specs.Recoverable.{State, is_volume, place, present}
use Rattle.inventory.specs.Model.{Call, query, queried}
use Rattle.inventory.specs.Steps.{open_step}
use Rattle.inventory.specs.Claim as calls
use Rattle.inventory.specs.Claim.{Step, size_in}
use Rattle.inventory.specs.declared.Inventory.{Inventory}
use Rattle.little_endian.specs.Bytes.{Bytes}
use Rattle.mul_add.specs.Once.{Once}
use Rattle.mul_add_sums.specs.Adding.{AddsAll}
use Rattle.par1.specs.Checking.{check_of}
use Rattle.par1_read.specs.Reading.{read_of}
use Rattle.par1_read.specs.declared.reading.Parts.{Parts}
use Rattle.par1_rules.specs.Layout.{version_for}
use Rattle.par1_set.specs.Files.{File, file_count, contents_of, list_for, FileRight}
use Rattle.par1_set.specs.Volume.{volume_for, VolumeRight}
use Rattle.parity.specs.Coefficient.{rule_of}
use Rattle.parity.specs.Parity.{is_file}
use Rattle.refusals.specs.Limits.{max_volume_length, max_files}
use Rattle.refusals.specs.Tests.{bare}

-- ---- the set

-- the list is one that an index or a volume holds
pub record SetRight (fs : List File) : Type 0 where
  pub files_right : All FileRight fs
  pub list_right : length (list_for fs) ≤ max_volume_length
  pub bytes : All (λ x. Bytes x.contents) fs

-- "Files are numbered 1 to n over the saved entries only, in list order": of the list that each volume and the index hold (`par1_set` specs/Claim,
-- SetRead, IndexRead)
abbrev pub saved_entries : List File → List (List ℕ)
saved_entries fs = saved_of (entries_of (list_for fs)).pieces

abbrev pub entry_of : List File → ℕ → List ℕ
entry_of fs f = get_or (saved_entries fs) (f - 1) []

abbrev pub listed_sizes : List File → List ℕ
listed_sizes fs = map (λ e. file_size_of e) (saved_entries fs)

-- ---- the calls

-- "It is opened with n sizes", those listed
abbrev pub state_after : Code → List File → List Call → State
state_after code fs cs = calls.state_after code (file_count fs) (listed_sizes fs) cs

abbrev pub Reached : Code → List File → List Call → Inventory → Type 0
Reached code fs cs s = calls.Reached rule_of code (file_count fs) (listed_sizes fs) cs s

-- ---- the fragments

-- what condition 2 has written (`par1_set` specs/Claim, SetWritten, OnlyVolumes) and read (SetRead), by any program
pub record AsWritten (code : Code) (v : ℕ) (fs : List File) (file : List ℕ) : Type 0 where
  pub right : VolumeRight v fs
  pub program : ℕ
  pub program_right : program < 2 ^ 32
  pub file_is : file ≡ volume_for (version_for code) (rule_of code) program v fs

-- "Pieces come from one set": those that are present; "place f for file f, place n + v for volume v"
pub record FragmentsOf (code : Code) (fs : List File) (t : State) (fragment : ℕ → List ℕ) : Type 0 where
  -- "each file's piece is that file in the set"
  pub of_file : (f : ℕ) → is_file (file_count fs) f ≡ true → t.files f ≡ true → fragment f ≡ contents_of fs f
  -- a volume's piece is the data of the volume as it was written, where reading says that it lies
  pub of_volume : (v : ℕ) → is_volume (file_count fs) v ≡ true → t.volumes v ≡ true
      → (file : List ℕ) × (p : Parts) × AsWritten code v fs file × (read_of file ≡ Ok p)
      × (fragment (file_count fs + v) ≡ take p.data_size (drop p.data_start file))

-- ---- the claims

-- "A sheet needs n from 1 to 254 and one size each (10), each at most 16,777,216 (1)."; proved: proofs/Listed.antt, `set-opened`
abbrev pub SetOpened : Type 0
SetOpened =
    (code : Code) (fs : List File) → SetRight fs → 1 ≤ file_count fs → file_count fs ≤ max_files
    → (open_step code (file_count fs) (listed_sizes fs)).number ≡ 0

pub record Recovered (fs : List File) (t : State) (f : ℕ) (b : List ℕ) : Type 0 where
  pub is_file_lem : is_file (file_count fs) f ≡ true
  pub missing : t.files f ≡ false
  -- "that gives the file"
  pub file_is : b ≡ contents_of fs f
  -- `check` of its entry and the buffer
  pub check_is : check_of (entry_of fs f) b ≡ bare 0

-- "Following a recipe means folding each piece in hand at the ask with its weight, in any order, once each, into zeros of the asked file's listed
-- size": each fragment at once, in chunks, or from C; "if the pieces come from one set, that gives the file"; proved: proofs/Recovery.antt,
-- `set_recovered`
abbrev pub SetRecovered : Type 0
SetRecovered =
    (code : Code) (fs : List File) → SetRight fs
    → (cs : List Call) (s : Inventory) → Reached code fs cs s
    → (f : ℕ) (room room' : List ℕ) (e : Inventory) → Step rule_of s (query f room) (queried 0 room') e
    → (fragment : ℕ → List ℕ) → FragmentsOf code fs (state_after code fs cs) fragment
    → (ks : List ℕ) → Once (present (state_after code fs cs)) ks
    → (b : List ℕ) → AddsAll (place (take 255 room')) fragment ks (replicate (size_in (listed_sizes fs) f) 0) b
    → Recovered fs (state_after code fs cs) f b
