-- What checking contents against an entry gives (document 01, "Checking tests 6 (the lent entry, which fills its slice), then 15"; document
-- 02, 2026-01, has 16 to 18 where 01 has 6).
--
--   item_number i     the number of the refusal of bytes that begin with the item i, 0 where i is an entry
--   lone_refusal e    that of an entry e that stands alone, 0 where it keeps the rules and fills e
--   is_described e m  whether the contents m have the length and the hashes that the entry e tells
--   check_of e m      the refusal of the contents m by the entry e, with the number 0 where they are those of its file
-- Assumes nothing.
use Rattle.std.specs.Prelude.{ℕ, Bool, ◌&&◌, List, eqb, length, Some, None, Ok, Err}
use Rattle.md5_digest.specs.Digest.{md5}
use Rattle.entries.specs.Entry.{entry_size, file_size_of, md5_of, md5_of_16k}
use Rattle.entries.specs.Walk.{Item, fault_number, first_of}
use Rattle.entries.specs.declared.Fault.TheVariants as fault
use Rattle.lent_bytes.specs.Equal.{equal}
use Rattle.par1_rules.specs.Hashes.{md5_first}
use Rattle.refusals.specs.Tests.{bare, test, or_else}
use Rattle.refusals.specs.declared.Refusal.{Refusal}

-- "16 .. fewer than 8 bytes left": so no entry at all is 16
abbrev pub item_number : Item → ℕ
item_number (Ok (Some e)) = 0
item_number (Ok None) = fault_number fault.Size
item_number (Err f) = fault_number f

-- "16 entry size .. (lone entry) short of its slice", before 17 and 18: "Within an entry in that order"
unfoldable pub lone_refusal : List ℕ → ℕ
lone_refusal e = test (fault_number fault.Size) (eqb (entry_size e) (length e)) (item_number (first_of e))

-- "15: rebuilt bytes differ in length, MD5 or 16k MD5 from the entry"
unfoldable pub is_described : List ℕ → List ℕ → Bool
is_described e m = eqb (file_size_of e) (length m) && equal (md5_of e) (md5 m) && equal (md5_of_16k e) (md5_first m)

-- "place 0, as for a lone entry"
unfoldable pub check_of : List ℕ → List ℕ → Refusal
check_of e m = or_else (lone_refusal e) (bare (test 15 (is_described e m) 0))
