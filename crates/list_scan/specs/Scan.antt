-- The list of a Par 1.0 file, walked as its bytes come in (document 02, 2026-03).
--
--   name_byte named at low b    what is known of a name with the byte b at place at, where named was known before it, and low came before it
--   is_whole head at named      whether the entry with these first 56 bytes ends after at bytes and keeps every rule
--   scan_with head at low named t h    the scan with these parts
--   entry_ended head t h        the scan after the entry with these first bytes, where t and h were the totals and the hash before it
--   settled head at low named t h     the scan with these parts; where its entry ends, the one after it
--   step_of sc b                the scan sc after the byte b
--   scanned sc l               the scan sc after the bytes l
--   scan_start                  the scan before any byte
-- Assumes nothing.
use Rattle.std.specs.Prelude.{ℕ, ◌+◌, ◌*◌, ◌%◌, Bool, cond, ◌&&◌, List, [], replicate, ◌==◌, nat_le, slice_set}
use mathlib.Core.List.{foldl}
use Rattle.md5_digest.specs.declared.Md5.{Md5}
use Rattle.md5_digest.specs.Running.{state_of}
use Rattle.entries.specs.declared.Totals.{Totals}
use Rattle.entries.specs.Entry.{entry_size, status_of, file_size_of, md5_of, file_size_allowed, entry_size_allowed}
use Rattle.entries.specs.Walk.{add_entry}
use Rattle.par1_rules.specs.Hashes.{hash_entry}
use Rattle.list_scan.specs.declared.NameSoFar.{NameSoFar}
use Rattle.list_scan.specs.declared.Scan.{Scan}
use Rattle.list_scan.specs.Name.{name_start, name_unit, name_ended}

-- the name begins at 56, and a unit ends at each odd place
unfoldable pub name_byte : NameSoFar → ℕ → ℕ → ℕ → NameSoFar
name_byte named at low b = cond (nat_le 56 at && at % 2 == 1) (name_unit named (low + 256 * b)) named

unfoldable pub is_whole : List ℕ → ℕ → NameSoFar → Bool
is_whole head at named = entry_size head == at && (entry_size_allowed at at && (file_size_allowed (file_size_of head) && name_ended named at))

abbrev pub scan_with : List ℕ → ℕ → ℕ → NameSoFar → Totals → Md5 → Scan
scan_with head at low named t h = record { head = head; at = at; low = low; named = named; totals = t; hash = h }

-- the next entry begins; its first bytes are written over those of the last as they come
unfoldable pub entry_ended : List ℕ → Totals → Md5 → Scan
entry_ended head t h =
    scan_with head 0 0 name_start (add_entry t (status_of head) (file_size_of head)) (hash_entry h (status_of head) (md5_of head))

-- an entry that breaks a rule never ends
abbrev pub settled : List ℕ → ℕ → ℕ → NameSoFar → Totals → Md5 → Scan
settled head at low named t h = cond (is_whole head at named) (entry_ended head t h) (scan_with head at low named t h)

unfoldable pub step_of : Scan → ℕ → Scan
step_of sc b =
    settled (slice_set sc.head sc.at b) (sc.at + 1) b (name_byte sc.named sc.at sc.low b) sc.totals sc.hash

unfoldable pub scanned : Scan → List ℕ → Scan
scanned sc l = foldl step_of sc l

unfoldable pub scan_start : Scan
scan_start = scan_with (replicate 56 0) 0 0 name_start (record { entries = 0; saved = 0; greatest = 0 }) (state_of [])
