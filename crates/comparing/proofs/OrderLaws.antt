-- The order of the lines.
--
--   ordered     the claim
-- Assumes nothing.
use Rattle.std.specs.Prelude.{Ok, Err}
use mathlib.Core.Path.{◌≡◌, refl, sym}
use mathlib.Core.Bool.{Bool, true, ◌&&◌}
use mathlib.Core.List.{List, [], ◌∷◌, ◌++◌, map}
use Prim.Native.Nat.{ℕ, suc, ◌+◌, ◌≤◌, ◌<◌, max}
use native.Mathlib.Omega.{arith}
use lib.Dec.{ltb}
use lib.ListN.{length}
use borrow.Author.Tests.{ltb-true}
use Rattle.computed_tests.proofs.Tests.{and_both}
use Rattle.cut_lists.specs.All.{All, all_none, all_more}
use Rattle.cut_lists.proofs.AllLaws.{all_map}
use Rattle.par1_rules.specs.Layout.{data_of}
use Rattle.par1_read.specs.Reading.{entries_in, read_of}
use Rattle.par1_read.specs.Reading.{Reading}
use Rattle.comparing.specs.Claim.{head_place, entry_place, Before, Pairwise, pairwise_none, pairwise_more, Ordered}
use Rattle.comparing.specs.Claim.{head_head, head_entry, head_all, head_run, same-entry, entry-entry, entry_all, entry_run}
use Rattle.comparing.specs.Claim.{all_all, all_run, run_run, refused-refused}
use Rattle.comparing.specs.Lines.{EntryField, Line, head, entry, all, run, refused}
use Rattle.comparing.specs.Differences.{head_table, entry_table, differing, head_lines, all_lines, entry_lines}
use Rattle.comparing.specs.Runs.{Run, run_line, differs, runs_of, run_lines}
use Rattle.comparing.specs.Comparing.{lines_by, lines_of}
use Rattle.comparing.proofs.FieldLaws.{differing_pairwise}
use Rattle.comparing.proofs.MemberLaws.{all_mem, mem_all, all_append, all_mapped, pairwise_append, pairwise_mapped}
use Rattle.comparing.proofs.RunLaws.{Apart, apart_none, apart_more, runs_apart}
use Rattle.comparing.proofs.SectionLaws.{kind_of, head_kind, list_kind, run_kind}

-- ---- a table in layout order, by one test

all_above : ℕ → List ℕ → Bool
all_above n [] = true
all_above n (m ∷ ms) = ltb n m && all_above n ms

ascending : List ℕ → Bool
ascending [] = true
ascending (n ∷ ns) = all_above n ns && ascending ns

module _ {A : Type 0} (place : A → ℕ) where
  above_all : (n : ℕ) (xs : List A) → all_above n (map place xs) ≡ true → All (λ x. n < place x) xs
  unfolding all_above
  above_all n [] e = all_none
  above_all n (x ∷ xs) e = let both = and_both (ltb n (place x)) (all_above n (map place xs)) e in
      all_more (ltb-true n (place x) both.0) (above_all n xs both.1)

  ascending_pairwise : (xs : List A) → ascending (map place xs) ≡ true → Pairwise (λ x y. place x < place y) xs
  unfolding ascending
  ascending_pairwise [] e = pairwise_none
  ascending_pairwise (x ∷ xs) e = let both = and_both (all_above (place x) (map place xs)) (ascending (map place xs)) e in
      pairwise_more (above_all (place x) xs both.0) (ascending_pairwise xs both.1)

pairwise_map : {A : Type 0} {R Q : A → A → Type 0} {xs : List A} → ((x y : A) → R x y → Q x y) → Pairwise R xs → Pairwise Q xs
pairwise_map h pairwise_none = pairwise_none
pairwise_map h (pairwise_more {x = x} r ps) = pairwise_more (all_map (h x) r) (pairwise_map h ps)

-- ---- the header

heads_ordered : (f g : List ℕ) → Pairwise Before (head_lines f g)
unfolding head_lines all_above ascending
heads_ordered f g =
    pairwise_mapped head
    (pairwise_map (λ h k below. head_head below)
    (differing_pairwise f g head_table (ascending_pairwise (λ r. head_place r.field) head_table refl)))

-- ---- the lists

-- a line on an entry at place k or later
abbrev OnEntry : ℕ → Line → Type 0
OnEntry k (head h) = ⊥
OnEntry k (entry p e) = k ≤ p
OnEntry k (all p) = k ≤ p
OnEntry k (run a b) = ⊥
OnEntry k (refused side number) = ⊥

on_less : (k : ℕ) (l : Line) → OnEntry (suc k) l → OnEntry k l
on_less k (head h) o = o
on_less k (entry p e) o = omega arith
on_less k (all p) o = omega arith
on_less k (run a b) o = o
on_less k (refused side number) o = o

all_on : (k : ℕ) (es : List (List ℕ)) → All (OnEntry k) (all_lines k es)
unfolding all_lines
all_on k [] = all_none
all_on k (e ∷ es) = all_more {x = all k} (omega arith) (all_map (on_less k) (all_on (suc k) es))

lines_on : (k : ℕ) (es ds : List (List ℕ)) → All (OnEntry k) (entry_lines k es ds)
unfolding entry_lines
lines_on k [] ds = all_on k ds
lines_on k (e ∷ es) [] = all_on k (e ∷ es)
lines_on k (e ∷ es) (d ∷ ds) =
    all_append (all_mapped (entry k) (mem_all (differing entry_table e d) (λ x m. here)))
    (all_map (on_less k) (lines_on (suc k) es ds))
  where
    here : k ≤ k
    here = omega arith

all_before : (k : ℕ) (l : Line) → OnEntry (suc k) l → (e : EntryField) → Before (entry k e) l
all_before k (head h) o e = absurd o
all_before k (entry p d) o e = entry-entry {p = k} {q = p} (omega arith)
all_before k (all p) o e = entry_all {p = k} {q = p} (omega arith)
all_before k (run a b) o e = absurd o
all_before k (refused side number) o e = absurd o

alls_ordered : (k : ℕ) (es : List (List ℕ)) → Pairwise Before (all_lines k es)
unfolding all_lines
alls_ordered k [] = pairwise_none
alls_ordered k (e ∷ es) = pairwise_more (later (suc k) es (omega arith)) (alls_ordered (suc k) es)
  where
    later : (j : ℕ) (es : List (List ℕ)) → k < j → All (Before (all k)) (all_lines j es)
    later j [] h = all_none
    later j (e ∷ es) h = all_more (all_all h) (later (suc j) es (omega arith))

lists_ordered : (k : ℕ) (es ds : List (List ℕ)) → Pairwise Before (entry_lines k es ds)
unfolding entry_lines all_above ascending
lists_ordered k [] ds = alls_ordered k ds
lists_ordered k (e ∷ es) [] = alls_ordered k (e ∷ es)
lists_ordered k (e ∷ es) (d ∷ ds) =
    pairwise_append
    (pairwise_mapped (entry k)
    (pairwise_map (λ x y below. same-entry below)
    (differing_pairwise e d entry_table (ascending_pairwise (λ r. entry_place r.field) entry_table refl))))
    (lists_ordered (suc k) es ds)
    (all_mapped (entry k) (mem_all (differing entry_table e d) (λ x m. all_map (λ l o. all_before k l o x) (lines_on (suc k) es ds))))

-- ---- the data

apart-after : {p : ℕ} {rs : List Run} → Apart p rs → All (λ r. p ≤ r.first) rs
apart-after apart_none = all_none
apart-after {p} (apart_more {r = r} low right later) = all_more low (all_map (λ s h. omega arith) (apart-after later))

apart_pairwise : {p : ℕ} {rs : List Run} → Apart p rs → Pairwise (λ r s. r.last + 1 < s.first) rs
apart_pairwise apart_none = pairwise_none
apart_pairwise (apart_more {r = r} low right later) = pairwise_more {x = r} (all_map (λ s h. omega arith) (apart-after later)) (apart_pairwise later)

apart_right : {p : ℕ} {rs : List Run} → Apart p rs → All (λ r. r.first ≤ r.last) rs
apart_right apart_none = all_none
apart_right (apart_more {r = r} low right later) = all_more right (apart_right later)

runs_ordered : (a b : List ℕ) → Pairwise Before (run_lines a b)
unfolding run_lines runs_of
runs_ordered a b =
    pairwise_mapped (λ r. run_line r) (pairwise_map (λ r s gap. run_run gap) (apart_pairwise (runs_apart (differs a b) (max (length a) (length b)) 0)))

-- a run among the lines ends where it begins or later
abbrev RunRight : Line → Type 0
RunRight (head h) = Unit {0}
RunRight (entry p e) = Unit {0}
RunRight (all p) = Unit {0}
RunRight (run a b) = a ≤ b
RunRight (refused side number) = Unit {0}

runs_right : (a b : List ℕ) → All RunRight (run_lines a b)
unfolding run_lines runs_of
runs_right a b = all_mapped (λ r. run_line r) (apart_right (runs_apart (differs a b) (max (length a) (length b)) 0))

other_right : (k : ℕ) (l : Line) → (k ≡ 2 → ⊥) → kind_of l ≡ k → RunRight l
other_right k (head h) other e = tt
other_right k (entry p e) other z = tt
other_right k (all p) other e = tt
other_right k (run a b) other e = absurd (other (sym e))
other_right k (refused side number) other e = tt

-- ---- between the parts

-- lines on the header before those on a list or on data, and those on a list before those on data
head_before : (l m : Line) → kind_of l ≡ 0 → (0 < kind_of m) → (kind_of m < 3) → Before l m
head_before (head h) (head k) e low high = absurd (omega arith)
head_before (head h) (entry p d) e low high = head_entry
head_before (head h) (all p) e low high = head_all
head_before (head h) (run a b) e low high = head_run
head_before (head h) (refused s n) e low high = absurd (omega arith)
head_before (entry p d) m e low high = absurd (omega arith)
head_before (all p) m e low high = absurd (omega arith)
head_before (run a b) m e low high = absurd (omega arith)
head_before (refused s n) m e low high = absurd (omega arith)

list_run : (l : Line) (a b : ℕ) → kind_of l ≡ 1 → Before l (run a b)
list_run (head h) a b e = absurd (omega arith)
list_run (entry p d) a b e = entry_run
list_run (all p) a b e = all_run
list_run (run c d) a b e = absurd (omega arith)
list_run (refused s n) a b e = absurd (omega arith)

list_before : (l m : Line) → kind_of l ≡ 1 → kind_of m ≡ 2 → Before l m
list_before l (head h) e d = absurd (omega arith)
list_before l (entry p f) e d = absurd (omega arith)
list_before l (all p) e d = absurd (omega arith)
list_before l (run a b) e d = list_run l a b e
list_before l (refused s n) e d = absurd (omega arith)

-- ---- the claim

abbrev Right : List Line → Type 0
Right ls = Pairwise Before ls × All RunRight ls

accepted_right : (f g : List ℕ) → Right (head_lines f g ++ (entry_lines 1 (entries_in f) (entries_in g) ++ run_lines (data_of f) (data_of g)))
accepted_right f g = let a = data_of f in
    let b = data_of g in
    let lists = list_kind 1 (entries_in f) (entries_in g) in
    let after =
    all_append {P = λ m. (0 < kind_of m) × (kind_of m < 3)} (all_map (λ m e. (omega arith, omega arith)) lists)
    (all_map (λ m e. (omega arith, omega arith)) (run_kind a b)) in (
      pairwise_append (heads_ordered f g)
          (pairwise_append (lists_ordered 1 (entries_in f) (entries_in g)) (runs_ordered a b)
          (all_map (λ l e. all_map (λ m d. list_before l m e d) (run_kind a b)) lists))
          (all_map (λ l e. all_map (λ m h. head_before l m e h.0 h.1) after) (head_kind f g)),
      all_append (all_map (λ l e. other_right 0 l (λ z. omega arith) e) (head_kind f g))
          (all_append (all_map (λ l e. other_right 1 l (λ z. omega arith) e) lists) (runs_right a b)),
    )

by_readings : (r q : Reading) (f g : List ℕ) → Right (lines_by r q f g)
by_readings (Ok p) (Ok q) f g = accepted_right f g
by_readings (Ok p) (Err r) f g = (pairwise_more all_none pairwise_none, all_more tt all_none)
by_readings (Err r) (Ok p) f g = (pairwise_more all_none pairwise_none, all_more tt all_none)
by_readings (Err r) (Err q) f g = (
  pairwise_more (all_more (refused-refused {s = 1} {t = 2} (omega arith)) all_none) (pairwise_more all_none pairwise_none),
  all_more tt (all_more tt all_none),
)

pub ordered : Ordered
unfolding lines_of
ordered f g = let right = by_readings (read_of f) (read_of g) f g in (right.0, λ a b m. all_mem right.1 m)
