-- What the tests of reading tell, and what reading gives from them.
--
--   HeaderPassed, header_passed      what tests 1 to 4, passed, tell
--   control_passed                   what test 5, passed, tells
--   TotalsPassed, totals_passed      what the tests after the walk, passed, tell
--   header_none, control_none, totals_none     and the tests pass where that holds
--   refusal_of f, parts_of f           the refusal of the file f, with the number 0 where there is none; what it gives where there is none
--   header_refused, read_as          a file that its header refuses; any other, from its list, its digests and the walk
--   from_refused, from_accepted      what reading gives, from the refusal
--   from_header, from_control, list_refused, list_accepted      the same, test after test
--   read_refused, read_accepted      the same of a file
--   Passed, passed_none, ReadAccepted, read_tells  the tests that an accepted file passed
--   list_joined, data_length         an accepted file's list is its entries, joined, and its data has the data size
--   read_list, read_count            the list, as the parts tell where it lies, and how many entries it has
--   refused_is, refused_some         which refusal a file is refused with, and that its number is not 0
-- A test of document 01 is passed where it does not hold.
-- Assumes nothing.
use Rattle.std.specs.Prelude.{Ok, Err}
use mathlib.Core.Path.{◌≡◌, refl, sym, ap, ap₂, ◌∙◌}
use mathlib.Core.Bool.{true}
use mathlib.Core.List.{List, [], ◌∷◌, ◌++◌, append-nil, flatten}
use Prim.Native.Nat.{ℕ, zero, suc, ◌+◌}
use native.Mathlib.Omega.{arith}
use lib.Dec.{eqb}
use lib.ListN.{length, take, drop, length-drop}
use borrow.Author.Tests.{eqb-true, eq-eqb}
use Rattle.lent_bytes.specs.Equal.{equal}
use Rattle.lent_bytes.proofs.EqualLaws.{equal_true, equal-same}
use Rattle.refusals.specs.Tests.{told, or_else}
use Rattle.refusals.specs.declared.Refusal.{Refusal}
use Rattle.refusals.proofs.TestLaws.{told_ok, told_err, test_passed, or_else_lem, or-none}
use Rattle.entries.specs.Numbering.{saved_of}
use Rattle.entries.specs.Entry.{length_of}
use Rattle.entries.specs.Walk.{entries_of, totals_of, walked_to, walk_of}
use Rattle.entries.specs.declared.Totals.{Totals}
use Rattle.entries.specs.Walk.{Walked}
use Rattle.entries.proofs.WalkLaws.{walk_count, walk_saved, walk_refused}
use Rattle.par1_rules.specs.Layout.{signature, version_for, signature_of, version_of, control_hash_of, set_hash_of}
use Rattle.par1_rules.specs.Layout.{volume_number_of, count_of, list_size_of, data_size_of, list_of, data_of}
use Rattle.par1_rules.specs.Hashes.{set_hash, control_hash}
use Rattle.par1_rules.specs.Rules.{length_allowed, version_allowed, code_in, layout_allowed, number_allowed, data_allowed}
use Rattle.par1_rules.proofs.RuleLaws.{version_passed, version_back, Between, between, long_enough, Laid, laid, laid_out}
use Rattle.par1_read.specs.Reading.{header_refusal, control_refusal, totals_refusal, list_refusal, refusal_from}
use Rattle.par1_read.specs.Reading.{saved_in, parts_from, read_from, entries_in, read_of}
use Rattle.cut_lists.specs.Pieces.{if_zero}
use Rattle.cut_lists.proofs.CutLaws.{cut_joins}
use Rattle.par1_read.specs.declared.reading.Parts.{Parts}

-- ---- the header

pub record HeaderPassed (head : List ℕ) (n : ℕ) : Type 0 where
  pub size : Between n
  pub begins : signature_of head ≡ signature
  pub version_is : version_of head ≡ version_for (code_in (version_of head))
  pub layout : Laid head n

module _ (head : List ℕ) (n : ℕ) where
  pub header_passed : header_refusal head n ≡ 0 → HeaderPassed head n
  unfolding header_refusal
  header_passed e = let one = test_passed 1 (length_allowed n) _ (omega arith) e in
      let two = test_passed 2 (eqb (signature_of head) signature) _ (omega arith) one.1 in
      let three = test_passed 3 (version_allowed (version_of head)) _ (omega arith) two.1 in
      let four = test_passed 4 (layout_allowed head n) _ (omega arith) three.1 in
      record {
        size = between n one.0;
        begins = eqb-true _ _ two.0;
        version_is = version_back _ three.0;
        layout = laid head n four.0;
      }

  header_none : HeaderPassed head n → header_refusal head n ≡ 0
  unfolding header_refusal
  header_none p = let size = long_enough n p.size.low p.size.high in
      let version : version_allowed (version_of head) ≡ true =
      ap version_allowed p.version_is ∙ version_passed (code_in (version_of head)) in
      simp (size, eq-eqb _ _ p.begins, version, laid_out head n p.layout)

-- ---- the control hash

module _ (head digest : List ℕ) where
  control_passed : control_refusal head digest ≡ 0 → control_hash_of head ≡ digest
  unfolding control_refusal
  control_passed e = equal_true _ _ (test_passed 5 (equal (control_hash_of head) digest) 0 (omega arith) e).0

  control_none : control_hash_of head ≡ digest → control_refusal head digest ≡ 0
  unfolding control_refusal
  control_none e = simp (equal-same e)

-- ---- the list

pub record TotalsPassed (head set : List ℕ) (t : Totals) : Type 0 where
  pub count_is : t.entries ≡ count_of head
  pub number_right : number_allowed (volume_number_of head) t.saved ≡ true
  pub set_is : set_hash_of head ≡ set
  pub data_right : data_allowed (volume_number_of head) t.greatest (data_size_of head) ≡ true

module _ (head set : List ℕ) (t : Totals) where
  totals_passed : totals_refusal head set t ≡ 0 → TotalsPassed head set t
  unfolding totals_refusal
  totals_passed e = let nineteen = test_passed 19 (eqb t.entries (count_of head)) _ (omega arith) e in
      let seven = test_passed 7 (number_allowed (volume_number_of head) t.saved) _ (omega arith) nineteen.1 in
      let eight = test_passed 8 (equal (set_hash_of head) set) _ (omega arith) seven.1 in
      let nine = test_passed 9 (data_allowed (volume_number_of head) t.greatest (data_size_of head)) _ (omega arith) eight.1 in
      record { count_is = eqb-true _ _ nineteen.0; number_right = seven.0; set_is = equal_true _ _ eight.0; data_right = nine.0 }

  totals_none : TotalsPassed head set t → totals_refusal head set t ≡ 0
  unfolding totals_refusal
  totals_none p = simp (eq-eqb _ _ p.count_is, p.number_right, equal-same p.set_is, p.data_right)

-- ---- reading

module _ (head : List ℕ) (n : ℕ) (digest set : List ℕ) (w : Walked) where
  pub from_refused : {r : Refusal} → r ≡ refusal_from head n digest set w → (r.number ≡ 0 → ⊥) → read_from head n digest set w ≡ Err r
  unfolding read_from
  from_refused {r} e h = simp (sym e) (by r.number refl)
    where
      by : (k : ℕ) → k ≡ r.number → if_zero k (Ok (parts_from head (saved_in w))) (Err r) ≡ Err r
      by zero z = absurd (h (sym z))
      by (suc k) z = refl

  pub from_accepted : {k : ℕ} {p : Parts} → (refusal_from head n digest set w).number ≡ 0 → k ≡ saved_in w → p ≡ parts_from head k
      → read_from head n digest set w ≡ Ok p
  unfolding read_from
  from_accepted e saved parts = simp (e, parts, saved)

  pub from_header : {r : Refusal} → Err r ≡ told (header_refusal head n) → read_from head n digest set w ≡ Err r
  unfolding refusal_from
  from_header e = let t = told_err (header_refusal head n) e in
      from_refused (t.0 ∙ sym (or_else_lem _ _ t.1)) (λ z. t.1 (sym (ap (λ (r : Refusal). r.number) t.0) ∙ z))

  module _ (header : Ok tt ≡ told (header_refusal head n)) where
    pub from_control : {r : Refusal} → Err r ≡ told (control_refusal head digest) → read_from head n digest set w ≡ Err r
    unfolding refusal_from
    from_control e = let t = told_err (control_refusal head digest) e in
        let rest : Refusal = or_else (control_refusal head digest) (list_refusal head set w) in
        from_refused (t.0 ∙ sym (ap (λ (k : ℕ). or_else k rest) (told_ok _ header) ∙ or_else_lem _ _ t.1)) (λ z. t.1 (sym (ap (λ (r : Refusal). r.number) t.0) ∙ z))

    module _ (control : Ok tt ≡ told (control_refusal head digest)) where
      from_list : refusal_from head n digest set w ≡ list_refusal head set w
      unfolding refusal_from
      from_list = ap₂ (λ (k j : ℕ). or_else k (or_else j (list_refusal head set w))) (told_ok _ header) (told_ok _ control)

      pub list_refused : {r : Refusal} → r ≡ list_refusal head set w → (r.number ≡ 0 → ⊥) → read_from head n digest set w ≡ Err r
      list_refused e h = from_refused (e ∙ sym from_list) h

      pub list_accepted : {p : Parts} → (list_refusal head set w).number ≡ 0 → p ≡ parts_from head (saved_in w) → read_from head n digest set w ≡ Ok p
      list_accepted e parts = from_accepted (ap (λ (r : Refusal). r.number) from_list ∙ e) refl parts

unfoldable pub refusal_of : List ℕ → Refusal
refusal_of f = refusal_from f (length f) (control_hash f) (set_hash (entries_in f)) (walk_of (list_of f))

abbrev pub parts_of : List ℕ → Parts
parts_of f = parts_from f (length (saved_of (entries_in f)))

pub read_refused : (f : List ℕ) {r : Refusal} → r ≡ refusal_of f → (r.number ≡ 0 → ⊥) → read_of f ≡ Err r
unfolding read_of refusal_of
read_refused f e h = from_refused f (length f) (control_hash f) (set_hash (entries_in f)) (walk_of (list_of f)) e h

pub header_refused : (f : List ℕ) {r : Refusal} → Err r ≡ told (header_refusal f (length f)) → read_of f ≡ Err r
unfolding read_of
header_refused f e = from_header f (length f) (control_hash f) (set_hash (entries_in f)) (walk_of (list_of f)) e

pub read_as : (f : List ℕ) {list digest set : List ℕ} {w : Walked} → list ≡ list_of f → digest ≡ control_hash f
    → set ≡ set_hash (entries_of list).pieces → w ≡ walk_of list → read_from f (length f) digest set w ≡ read_of f
unfolding read_of
read_as f l d s w = cc

-- ---- an accepted file

-- the file f passed all tests, and t are the totals of its list
pub record Passed (f : List ℕ) : Type 0 where
  pub header : HeaderPassed f (length f)
  pub control_is : control_hash_of f ≡ control_hash f
  pub totals_of_lem : Totals
  pub walk_is : walk_of (list_of f) ≡ Ok totals_of_lem
  pub totals : TotalsPassed f (set_hash (entries_in f)) totals_of_lem

pub list_joined : (f : List ℕ) → Passed f → flatten (entries_in f) ≡ list_of f
unfolding walk_of
list_joined f p = by (entries_of (list_of f)).rest refl p.walk_is
  where
    by : (r : List ℕ) → (entries_of (list_of f)).rest ≡ r → walked_to (totals_of (entries_in f)) r ≡ Ok p.totals_of_lem
        → flatten (entries_in f) ≡ list_of f
    by [] none e = sym (append-nil (flatten (entries_in f))) ∙ ap (λ (l : List ℕ). flatten (entries_in f) ++ l) (sym none) ∙ cut_joins length_of (list_of f)
    by (b ∷ r) some e = absurd (let z : ◌≡◌ {A = ℕ} 0 1 = cc in omega arith)

pub data_length : (f : List ℕ) → Passed f → length (data_of f) ≡ data_size_of f
data_length f p = omega (arith, length-drop (96 + list_size_of f) f, p.header.layout.data_start_lem, p.header.layout.data_end)

pub passed_none : (f : List ℕ) → Passed f → (refusal_of f).number ≡ 0
unfolding refusal_of refusal_from
passed_none f p = let set : List ℕ = set_hash (entries_in f) in
    let list = ap (λ (w : Walked). (list_refusal f set w).number) p.walk_is ∙ totals_none f set p.totals_of_lem p.totals in
    simp (header_none f (length f) p.header, control_none f (control_hash f) p.control_is) list

none_passed : (f : List ℕ) → (refusal_of f).number ≡ 0 → Passed f
unfolding refusal_of refusal_from
none_passed f e = let header = or-none (header_refusal f (length f)) _ e in
    let control = or-none (control_refusal f (control_hash f)) _ header.1 in
    list (walk_of (list_of f)) refl (header_passed f (length f) header.0) (control_passed f (control_hash f) control.0) control.1
  where
    set : List ℕ
    set = set_hash (entries_in f)

    list : (w : Walked) → w ≡ walk_of (list_of f) → HeaderPassed f (length f) → control_hash_of f ≡ control_hash f → (list_refusal f set w).number ≡ 0
        → Passed f
    list (Ok t) w h c e = record { header = h; control_is = c; totals_of_lem = t; walk_is = sym w; totals = totals_passed f set t e }
    list (Err r) w h c e = absurd (omega (arith, (walk_refused (list_of f) (sym w)).low))

pub read_accepted : (f : List ℕ) → (refusal_of f).number ≡ 0 → read_of f ≡ Ok (parts_of f)
unfolding read_of refusal_of
read_accepted f e = let p = none_passed f e in
    let saved = ap (λ (w : Walked). saved_in w) p.walk_is ∙ walk_saved (list_of f) p.walk_is in
    from_accepted f (length f) (control_hash f) (set_hash (entries_in f)) (walk_of (list_of f)) e (sym saved) refl

-- what an accepted file tells
pub record ReadAccepted (f : List ℕ) (p : Parts) : Type 0 where
  pub tests : Passed f
  pub parts_are : p ≡ parts_of f

pub read_tells : (f : List ℕ) (p : Parts) → read_of f ≡ Ok p → ReadAccepted f p
read_tells f p e = by (refusal_of f).number refl
  where
    by : (n : ℕ) → n ≡ (refusal_of f).number → ReadAccepted f p
    by zero n = let found = read_accepted f (sym n) in record { tests = none_passed f (sym n); parts_are = cc }
    by (suc m) n = let found = read_refused f refl (λ z. omega arith) in absurd (let z : ◌≡◌ {A = ℕ} 0 1 = cc in omega arith)

module _ (f : List ℕ) {p : Parts} (e : read_of f ≡ Ok p) where
  pub read_list : take p.list_size (drop 96 f) ≡ list_of f
  read_list = ap (λ (q : Parts). take q.list_size (drop 96 f)) (read_tells f p e).parts_are

  pub read_count : p.entries ≡ length (entries_in f)
  read_count = let t = read_tells f p e in
      ap (λ (q : Parts). q.entries) t.parts_are ∙ sym t.tests.totals.count_is ∙ walk_count (list_of f) t.tests.walk_is

pub refused_is : (f : List ℕ) {r : Refusal} → read_of f ≡ Err r → refusal_of f ≡ r
refused_is f {r} e = by (refusal_of f).number refl
  where
    by : (n : ℕ) → n ≡ (refusal_of f).number → refusal_of f ≡ r
    by zero n = let found = read_accepted f (sym n) in absurd (let z : ◌≡◌ {A = ℕ} 0 1 = cc in omega arith)
    by (suc m) n = let found = read_refused f refl (λ z. omega arith) in cc

pub refused_some : (f : List ℕ) {r : Refusal} → read_of f ≡ Err r → r.number ≡ 0 → ⊥
refused_some f {r} e z = let found = read_accepted f (ap (λ (r : Refusal). r.number) (refused_is f e) ∙ z) in
    let z : ◌≡◌ {A = ℕ} 0 1 = cc in omega arith
