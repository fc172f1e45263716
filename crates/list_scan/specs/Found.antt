-- What a scan found, at the end of the list.
--
--   fault_at head at    the first rule that an entry with these first 56 bytes breaks, where it has not ended after at bytes
--   found_of sc         the totals, where no entry is at hand; or the refusal of the entry at hand, with its place
-- Assumes nothing.
use Rattle.std.specs.Prelude.{ℕ, ◌+◌, ◌%◌, ◌^◌, cond, List, Ok, Err}
use Rattle.cut_lists.specs.Pieces.{if_zero}
use Rattle.entries.specs.Entry.{entry_size, file_size_of, entry_size_allowed, file_size_allowed}
use Rattle.entries.specs.Walk.{refusal_at}
use Rattle.entries.specs.declared.Fault.{Fault}
use Rattle.entries.specs.declared.Fault.TheVariants.{Size, FileSize, Name}
use Rattle.entries.specs.Walk.{Walked}
use Rattle.list_scan.specs.declared.Scan.{Scan}

-- as `fault_of` of `entries` has it, where the list ends here; with fewer than 58 bytes it is the entry's size, whatever the first ones are
unfoldable pub fault_at : List ℕ → ℕ → Fault
fault_at head at = cond (entry_size_allowed (entry_size head) at) (cond (file_size_allowed (file_size_of head)) Name FileSize) Size

-- the place is a number of 64 bits; a list of fewer than 2^64 bytes has fewer entries
unfoldable pub found_of : Scan → Walked
found_of sc =
    if_zero sc.at (Ok sc.totals)
    (Err (refusal_at (fault_at sc.head sc.at) ((sc.totals.entries + 1) % 2 ^ 64)))
