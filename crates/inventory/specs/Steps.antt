-- What each call on an inventory does (document 01, "The sheet", "What comes back"; document 02, 2026-10, 2026-13), on its words.
--
--   is_inventory s        whether opening and accepted calls could have given s
--   if_inventory s k      the number k, or 10 where s is no inventory
--   or_refusal a k        what a call returns whose number is k: a, or the refusal k
--   zeros                the inventory of zeros
--   nonempty_of sizes k   the files among the first k that are not empty
--   fresh c n sizes      an inventory of n files of these sizes, nothing present, for volumes of the code c
--   outcome s k          the outcome of the inventory s and the number k
--   refusal o             the refusal of a call whose outcome is o: its number, and the inventory that is handed back
--   or_refused a o        what a call returns whose outcome is o: a, or the refusal of o
--   handed_back o         so of a call that opens or changes an inventory: the next one, or the refusal
--   refused_opening k     the outcome of an opening refused with k
--   open_step             opening
--   with_files s ws       the inventory s with the files of the set ws present
--   with_volumes s ws q   the inventory s with the volumes of the set ws present, and those of the set q quarantined
--   in_range c n k        whether k is a number that the change c of n files can be of
--   of_other_code c d      whether the change c adds a volume of another code than d
--   while_quarantined c q k     whether the change c adds a volume that is quarantined, those of the set q being so
--   already c files volumes q k     whether there is nothing for the change c of number k to do, these files and volumes being present and
--                        the volumes of the set q quarantined
--   change_number r o q a     the number of a change: r says whether it is in range, o, q and a as above
--   after_change c s k    the inventory s after the change c of number k
--   unless_refused k a b  a, or b where the number k is a refusal's
--   accepted k s₁ s      the outcome of a call with the number k: s₁, or s where it is refused
--   change_step c s k     the change c of number k: adding, removing, quarantine and release
--   Counted               what a count returns
--   count_reply           the document's number and values for each case of a count
--   count_step            counting
--   answer_number         the document's number for each case of an answer
-- Assumes nothing.
use Rattle.std.specs.Prelude.{Bool, false, not, cond, ◌&&◌, ◌||◌, List, ℕ, zero, suc, ◌-◌, leb, eqb, length, get_or, replicate, Result, Ok, Err}
use Rattle.computed_tests.specs.Numbers.{one_to, all_below}
use Rattle.refusals.specs.Limits.{max_file_size, max_files}
use Rattle.parity.specs.Parity.{is_file}
use Rattle.number_sets.specs.Sets.{member, inserted, removed, size_below, within, apart}
use Rattle.codes.specs.Codes.{same}
use Rattle.codes.specs.declared.Code.{Code}
use Rattle.codes.specs.declared.Code.TheVariants.{Powers}
use Rattle.recovery.specs.Recoverable.{is_volume}
use Rattle.inventory.specs.Model.{Change, add_file, remove_file, add_volume, remove_volume, quarantine, release}
use Rattle.inventory.specs.Model.{Reply, numbered, counts}
use Rattle.inventory.specs.declared.Inventory.{Inventory}
use Rattle.inventory.specs.Outcome.{Outcome}
use Rattle.inventory.specs.declared.Refused.{Refused}
use Rattle.inventory.specs.declared.Counts.{Counts}
use Rattle.recovery.specs.declared.Answer.{Answer}
use Rattle.recovery.specs.declared.Answer.TheVariants as answer

-- ---- an inventory that calls give

-- "A sheet needs n from 1 to 254"; bits of files, and of files that are not empty, in 1 to n, of volumes in 1 to 255 - n, and no volume
-- both present and quarantined; of either code. It is exact: specs/Claim.antt, ExactlyGiven
unfoldable pub is_inventory : Inventory → Bool
is_inventory s =
    one_to max_files s.n
    && (within s.n s.files
    && (within s.n s.nonempty
    && (within (255 - s.n) s.volumes
    && (within (255 - s.n) s.quarantined && apart s.volumes s.quarantined))))

-- "Every call refuses with 10, first of all, a sheet that opening and accepted calls could not have given."
unfoldable pub if_inventory : Inventory → ℕ → ℕ
if_inventory s k = cond (is_inventory s) k 10

-- what a call returns whose number is k: the value, or the refusal
abbrev pub or_refusal : {A : Type 0} → A → ℕ → Result A ℕ
or_refusal a k = cond (eqb k 0) (Ok a) (Err k)

-- ---- opening

-- "Where a refused opening must hand back a sheet, every part of it is 0"
abbrev pub zeros : Inventory
zeros = record {
  n = 0;
  files = replicate 4 0;
  volumes = replicate 4 0;
  nonempty = replicate 4 0;
  quarantined = replicate 4 0;
  code = Powers;
}

-- the files among the first k that are not empty
unfoldable pub nonempty_of : List ℕ → ℕ → List ℕ
nonempty_of sizes zero = replicate 4 0
nonempty_of sizes (suc k) = cond (leb 1 (get_or sizes k 0)) (inserted (suc k) (nonempty_of sizes k)) (nonempty_of sizes k)

abbrev pub fresh : Code → ℕ → List ℕ → Inventory
fresh c n sizes = record {
  n = n;
  files = replicate 4 0;
  volumes = replicate 4 0;
  nonempty = nonempty_of sizes n;
  quarantined = replicate 4 0;
  code = c;
}

abbrev pub outcome : Inventory → ℕ → Outcome
outcome s k = record { next = s; number = k }

abbrev pub refusal : Outcome → Refused
refusal o = record { number = o.number; inventory = o.next }

abbrev pub or_refused : {A : Type 0} → A → Outcome → Result A Refused
or_refused a o = cond (eqb o.number 0) (Ok a) (Err (refusal o))

-- "A refusal returns its number only ..; the sheet is handed back as it came. Where a refused opening must hand back a sheet, every part of it is 0"
abbrev pub handed_back : Outcome → Result Inventory Refused
handed_back o = or_refused o.next o

abbrev pub refused_opening : ℕ → Outcome
refused_opening number = outcome zeros number

-- "A sheet needs n from 1 to 254 and one size each (10), each at most 16,777,216 (1)."; "A sheet is opened for one code or the other" (2026-13)
unfoldable pub open_step : Code → ℕ → List ℕ → Outcome
open_step c n sizes =
    cond (one_to max_files n && eqb (length sizes) n)
    (cond (all_below n (λ i. leb (get_or sizes i 0) max_file_size)) (outcome (fresh c n sizes) 0) (refused_opening 1))
    (refused_opening 10)

-- ---- adding, removing, quarantine and release

abbrev pub with_files : Inventory → List ℕ → Inventory
with_files s ws = record { n = s.n; files = ws; volumes = s.volumes; nonempty = s.nonempty; quarantined = s.quarantined; code = s.code }

abbrev pub with_volumes : Inventory → List ℕ → List ℕ → Inventory
with_volumes s ws q = record { n = s.n; files = s.files; volumes = ws; nonempty = s.nonempty; quarantined = q; code = s.code }

-- "a file or volume number .. is outside its range"
unfoldable pub in_range : Change → ℕ → ℕ → Bool
in_range add_file n f = is_file n f
in_range remove_file n f = is_file n f
in_range (add_volume c) n v = is_volume n v
in_range remove_volume n v = is_volume n v
in_range quarantine n v = is_volume n v
in_range release n v = is_volume n v

-- "a volume of the other code noted" (2026-13)
unfoldable pub of_other_code : Change → Code → Bool
of_other_code add_file d = false
of_other_code remove_file d = false
of_other_code (add_volume c) d = not (same c d)
of_other_code remove_volume d = false
of_other_code quarantine d = false
of_other_code release d = false

-- "noted while set aside"
unfoldable pub while_quarantined : Change → (ℕ → Bool) → ℕ → Bool
while_quarantined add_file quarantined f = false
while_quarantined remove_file quarantined f = false
while_quarantined (add_volume c) quarantined v = quarantined v
while_quarantined remove_volume quarantined v = false
while_quarantined quarantine quarantined v = false
while_quarantined release quarantined v = false

-- "noted what is in hand, or withdrew what is not", "setting aside what is not in hand, or taking back what is not set aside";
-- "Withdrawing a set-aside volume is accepted"
unfoldable pub already : Change → (ℕ → Bool) → (ℕ → Bool) → (ℕ → Bool) → ℕ → Bool
already add_file files volumes quarantined f = files f
already remove_file files volumes quarantined f = not (files f)
already (add_volume c) files volumes quarantined v = volumes v
already remove_volume files volumes quarantined v = not (volumes v || quarantined v)
already quarantine files volumes quarantined v = not (volumes v)
already release files volumes quarantined v = not (quarantined v)

-- "Noting and withdrawing test 10, then 11."; "27 noted while set aside; 11 ..; number checks first"; "29 .., after 10, before 27 and 11" (2026-13)
unfoldable pub change_number : Bool → Bool → Bool → Bool → ℕ
change_number ranged other aside done = cond ranged (cond other 29 (cond aside 27 (cond done 11 0))) 10

-- "The sheet keeps one bit for each file number and one for each volume number"; another for each volume that is set aside
unfoldable pub after_change : Change → Inventory → ℕ → Inventory
after_change add_file s f = with_files s (inserted f s.files)
after_change remove_file s f = with_files s (removed f s.files)
after_change (add_volume c) s v = with_volumes s (inserted v s.volumes) s.quarantined
after_change remove_volume s v = with_volumes s (removed v s.volumes) (removed v s.quarantined)
after_change quarantine s v = with_volumes s (removed v s.volumes) (inserted v s.quarantined)
after_change release s v = with_volumes s (inserted v s.volumes) (removed v s.quarantined)

-- "A refusal returns its number only ..; the sheet is handed back as it came."
abbrev pub unless_refused : {A : Type 0} → ℕ → A → A → A
unless_refused number changed before = cond (eqb number 0) changed before

abbrev pub accepted : ℕ → Inventory → Inventory → Outcome
accepted number changed s = outcome (unless_refused number changed s) number

unfoldable pub change_step : Change → Inventory → ℕ → Outcome
change_step c s k =
    accepted
    (if_inventory s
    (change_number (in_range c s.n k) (of_other_code c s.code) (while_quarantined c (member s.quarantined) k)
    (already c (member s.files) (member s.volumes) (member s.quarantined) k)))
    (after_change c s k) s

-- ---- counting

abbrev pub Counted : Type 0
Counted = Result Counts ℕ

unfoldable pub count_reply : Counted → Reply
count_reply (Ok c) = counts c.files c.volumes c.quarantined
count_reply (Err number) = numbered number

unfoldable pub count_step : Inventory → Reply
count_step s =
    cond (is_inventory s)
    (counts (size_below 256 (member s.files)) (size_below 256 (member s.volumes)) (size_below 256 (member s.quarantined))) (numbered 10)

-- ---- the numbers of answers

-- "In hand is number 13 and not fixed is number 12"
unfoldable pub answer_number : Answer → ℕ
answer_number answer.Present = 13
answer_number answer.Recoverable = 0
answer_number answer.Undetermined = 12
answer_number (answer.Refused number) = number
