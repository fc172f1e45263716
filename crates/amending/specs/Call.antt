-- What the call `amend` gives (document 02, 2026-05: "Amend a volume in its lent room from: its present length there, the file number, a
-- place, the old and the new bytes of that stretch, and the file's entry as it now is").
--
--   change_of f p old new       the change of file f at the place p from the old to the new bytes
--   stretch_allowed n p a b     whether a stretch of a old and b new bytes at the place p is of one of the two kinds, in a file of n bytes
--   change_allowed p a b e d    whether it is, in the file with the entry e, and d is an entry that the file may then have
--   entry_in f es               the entry of file f among the entries es
--   file_allowed f vol          whether vol is a volume, and f one of its files
--   change_refusal rules c d vol    the refusal by the tests after those of reading and before the last, with the number 0 where there is none
--   amend_refusal rules c d vol r   that by all tests between the two 14s, where r is what reading the volume gives
--   amend_of rules n c d out    what the call gives: the volume is the first n bytes of out
-- Assumes nothing.
use Rattle.std.specs.Prelude.{Bool, cond, ◌&&◌, ◌||◌, List, [], ℕ, ◌+◌, ◌-◌, leb, eqb, length, take, get_or, Ok, Err}
use Rattle.refusals.specs.Tests.{bare, test, or_else}
use Rattle.refusals.specs.declared.Refusal.{Refusal}
use Rattle.lent_bytes.specs.Equal.{equal}
use Rattle.lent_bytes.specs.Writing.{refused, written_unless}
use Rattle.lent_bytes.specs.Writing.{Writing}
use Rattle.codes.specs.declared.Code.{Code}
use Rattle.entries.specs.Entry.{status_of, file_size_of, name_of}
use Rattle.entries.specs.Numbering.{saved_of}
use Rattle.parity.specs.Parity.{is_file}
use Rattle.par1.specs.Checking.{lone_refusal}
use Rattle.par1_read.specs.Reading.{entries_in, read_of}
use Rattle.par1_read.specs.Reading.{Reading}
use Rattle.par1_rules.specs.Layout.{volume_number_of}
use Rattle.par1_rules.specs.Rules.{length_allowed}
use Rattle.amending.specs.Amending.{Change, place_in, amend_volume}

abbrev pub change_of : ℕ → ℕ → List ℕ → List ℕ → Change
change_of file place old new = record { file = file; place = place; old = old; new = new }

-- "Either both stretches are equally long and inside the file, or the old one is empty and the new one goes on the end."
abbrev pub stretch_allowed : ℕ → ℕ → ℕ → ℕ → Bool
stretch_allowed size place old new = (eqb old new && leb (place + old) size) || (eqb old 0 && eqb place size)

-- "21 stretch of neither kind, or an entry with another name or status, or with a size the stretch does not give"
unfoldable pub change_allowed : ℕ → ℕ → ℕ → List ℕ → List ℕ → Bool
change_allowed place old new e d =
    stretch_allowed (file_size_of e) place old new && equal (name_of d) (name_of e) && eqb (status_of d) (status_of e)
    && eqb (file_size_of d) (file_size_of e + (new - old))

abbrev pub entry_in : ℕ → List (List ℕ) → List ℕ
entry_in f es = get_or es (place_in es f) []

-- "10, for an index too"
abbrev pub file_allowed : ℕ → List ℕ → Bool
file_allowed f vol = leb 1 (volume_number_of vol) && is_file (length (saved_of (entries_in vol))) f

-- "10, for an index too; 16 to 18 for the new entry; 21 ..; 1"
unfoldable pub change_refusal : (Code → ℕ → ℕ → ℕ) → Change → List ℕ → List ℕ → Refusal
change_refusal rules c d vol =
    let stretch : Bool = change_allowed c.place (length c.old) (length c.new) (entry_in c.file (entries_in vol)) d in
    let short : Bool = length_allowed (length (amend_volume rules c d vol)) in
    or_else (test 10 (file_allowed c.file vol) 0) (or_else (lone_refusal d) (bare (test 21 stretch (test 1 short 0))))

-- "those of reading" come first
abbrev pub amend_refusal : (Code → ℕ → ℕ → ℕ) → Change → List ℕ → List ℕ → Reading → Refusal
amend_refusal rules c d vol (Ok p) = change_refusal rules c d vol
amend_refusal rules c d vol (Err r) = r

-- "14 if the length passes the room; .. ; 14"
unfoldable pub amend_of : (Code → ℕ → ℕ → ℕ) → ℕ → Change → List ℕ → List ℕ → Writing × List ℕ
amend_of rules n c d out =
    let vol : List ℕ = take n out in
    cond (leb n (length out)) (written_unless (amend_refusal rules c d vol (read_of vol)) (amend_volume rules c d vol) out) (refused (bare 14) out)
