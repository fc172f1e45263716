-- How the call `amend` goes about it: what it finds before a byte is written, and what its writes make of the room, one after another. What
-- the call gives is said in Call; these are the steps to it.
--
--   span_in es j                where the saved entry number j, from 0, of the entries es lies in them joined
--   tests_refusal ok p a b e d  the refusal by the tests 10, 16 to 18 and 21
--   PartsFit p a f q n         what is known where these tests have passed: the volume has the parts p, the entry of file f starts a bytes into
--                              the list, q is the place, and the file has n bytes now
--   plan_from rules p a f q n   what an amendment then changes: the places and sizes of the volume after it
--   sized_plan rules p a f q n  that, or 1, where the volume gets too long
--   plan_for rules c d vol      what the amendment of the volume vol changes
--   plan_of rules c d vol       that, or the refusal by the tests between the two 14s
--   cleared n m t              the room t with zeros from n to m
--   summed w n m old new t     w times the old and the new bytes added from n on, in the data that ends at m
--   hashed_set l t              the set hash of a list of l bytes made new
--   controlled m t             the control hash of a volume of m bytes made new
--   patched p n old new d t    all writes: the volume had n bytes, and d is the new entry
-- Assumes nothing.
use Rattle.std.specs.Prelude.{Bool, cond, ℕ, ◌+◌, ◌-◌, ◌≤◌, ◌<◌, max, eqb, length, take, drop, get_or, replicate, Result, Ok, Err}
use mathlib.Core.List.{List, [], ◌++◌, flatten}
use Rattle.std.proofs.lemmas.List.Edits.{sets}
use Rattle.refusals.specs.Limits.{max_volume_length}
use Rattle.refusals.specs.Tests.{bare, test, or_else}
use Rattle.refusals.specs.declared.Refusal.{Refusal}
use Rattle.little_endian.specs.Bytes.{to_le}
use Rattle.md5_digest.specs.Digest.{md5}
use Rattle.mul_add.specs.MulAdd.{mul_add}
use Rattle.codes.specs.declared.Code.{Code}
use Rattle.entries.specs.Entry.{file_size_of}
use Rattle.entries.specs.Numbering.{saved_of}
use Rattle.entries.specs.Walk.{entries_of}
use Rattle.par1.specs.Checking.{lone_refusal}
use Rattle.par1_read.specs.Reading.{parts_from, entries_in, read_of}
use Rattle.par1_read.specs.declared.reading.Parts.{Parts}
use Rattle.par1_rules.specs.Hashes.{set_hash}
use Rattle.par1_rules.specs.Rules.{length_allowed}
use Rattle.amending.specs.Amending.{Change, saved_place, statuses_of}
use Rattle.amending.specs.Call.{change_allowed, amend_refusal}
use Rattle.amending.specs.declared.finding.Span.{Span}
use Rattle.amending.specs.declared.planning.Plan.{Plan}

-- ---- before a byte is written

abbrev pub span_in : List (List ℕ) → ℕ → Span
span_in es j =
    let k : ℕ = saved_place (statuses_of es) j in record { from = length (flatten (take k es)); length = length (get_or es k []) }

unfoldable pub tests_refusal : Bool → ℕ → ℕ → ℕ → List ℕ → List ℕ → Refusal
tests_refusal numbered place old new e d =
    or_else (test 10 numbered 0) (or_else (lone_refusal d) (bare (test 21 (change_allowed place old new e d) 0)))

pub record PartsFit (p : Parts) (from file place size : ℕ) : Type 0 where
  pub list_fits : 96 + p.list_size ≤ max_volume_length
  pub entry_inside : from ≤ p.list_size
  pub place_inside : place ≤ size
  pub file_small : file < 256
  pub number_small : p.number < 256

abbrev pub plan_from : (Code → ℕ → ℕ → ℕ) → Parts → ℕ → ℕ → ℕ → ℕ → Plan
plan_from rules p from file place size =
    record {
      entry_at = 96 + from;
      list_size = p.list_size;
      data_size = max p.data_size size;
      stretch_at = 96 + p.list_size + place;
      weight = rules p.code file p.number;
      total = 96 + p.list_size + max p.data_size size;
    }

unfoldable pub sized_plan : (Code → ℕ → ℕ → ℕ) → Parts → ℕ → ℕ → ℕ → ℕ → Result Plan Refusal
sized_plan rules p from file place size =
    cond (length_allowed (96 + p.list_size + max p.data_size size)) (Ok (plan_from rules p from file place size)) (Err (bare 1))

abbrev pub plan_for : (Code → ℕ → ℕ → ℕ) → Change → List ℕ → List ℕ → Plan
plan_for rules c d vol =
    plan_from rules (parts_from vol (length (saved_of (entries_in vol)))) (span_in (entries_in vol) (c.file - 1)).from c.file c.place (file_size_of d)

unfoldable pub plan_of : (Code → ℕ → ℕ → ℕ) → Change → List ℕ → List ℕ → Result Plan Refusal
plan_of rules c d vol =
    let r : Refusal = amend_refusal rules c d vol (read_of vol) in cond (eqb r.number 0) (Ok (plan_for rules c d vol)) (Err r)

-- ---- the writes

abbrev pub cleared : ℕ → ℕ → List ℕ → List ℕ
cleared n m t = sets t n (replicate (m - n) 0)

abbrev pub summed : ℕ → ℕ → ℕ → List ℕ → List ℕ → List ℕ → List ℕ
summed w n m old new t = take n t ++ (mul_add w new (mul_add w old (take (m - n) (drop n t))) ++ drop m t)

abbrev pub hashed_set : ℕ → List ℕ → List ℕ
hashed_set l t = sets t 32 (set_hash (entries_of (take l (drop 96 t))).pieces)

abbrev pub controlled : ℕ → List ℕ → List ℕ
controlled m t = sets t 16 (md5 (take (m - 32) (drop 32 t)))

abbrev pub patched : Plan → ℕ → List ℕ → List ℕ → List ℕ → List ℕ → List ℕ
patched p n old new d t =
    let area : List ℕ = summed p.weight p.stretch_at p.total old new (cleared n p.total t) in
    controlled p.total (hashed_set p.list_size (sets (sets area p.entry_at d) 88 (to_le 8 p.data_size)))
