-- How long a comparison can be.
--
--   line_most         a line has at most 64 bytes
--   lines_most        the lines of two accepted files are not many
--   comparison_most   a length of a comparison is below 2^59
-- Assumes nothing.
use Rattle.std.specs.Prelude.{Ok, Err}
use mathlib.Core.Path.{◌≡◌, refl, sym, ap, subst}
use mathlib.Core.Bool.{Bool, true, false, cond}
use mathlib.Core.List.Memᴰ
use mathlib.Core.List.{List, [], ◌∷◌, ◌++◌, map, flatten, Memᴰ}
use mathlib.Core.Logic.{◌⊎◌, inl, inr, ⊎_elim}
use Prim.Native.Nat.{ℕ, zero, suc, ◌+◌, ◌*◌, ◌^◌, ◌≤◌, ◌<◌, max}
use native.Mathlib.Omega.{arith}
use lib.Dec.{eqb}
use lib.ListN.{length, drop, length-append, length-take, length-drop, length-map}
use Rattle.cut_lists.specs.All.{All, all_none, all_more}
use Rattle.cut_lists.proofs.CutLaws.{cut-count}
use Rattle.refusals.specs.Limits.{max_volume_length}
use Rattle.refusals.specs.declared.Refusal.{Refusal}
use Rattle.entries.specs.Entry.{length_of}
use Rattle.par1_rules.specs.Layout.{list_size_of, list_of, data_of}
use Rattle.par1_read.specs.Reading.{entries_in, read_of}
use Rattle.par1_read.specs.Reading.{Reading}
use Rattle.par1_read.proofs.RangeLaws.{refusal_within}
use Rattle.par1_read.proofs.ReadingLaws.{read_tells, refused_is}
use Rattle.text.specs.Decimal.{decimal}
use Rattle.text.proofs.DecimalLaws.{decimal-length}
use Rattle.comparing.specs.Claim.{IsAccepted, RefusedWith}
use Rattle.comparing.specs.Lines.{HeadField, version_field, program_field, control_field, set-field, number_field}
use Rattle.comparing.specs.Lines.{files_field, list_field, start-field, data_field}
use Rattle.comparing.specs.Lines.{EntryField, length-field, status_field, size_field, md5-field, md5_16k_field, name_field}
use Rattle.comparing.specs.Lines.{Line, head, entry, all, run, refused, head_name, entry_name, head_text, entry_text, run_text, refused_text, line_text, text_of}
use Rattle.comparing.specs.Differences.{head_table, entry_table, differing, head_lines, all_lines, entry_lines}
use Rattle.comparing.specs.Runs.{Run, run_of, run_line, differs, with_place, runs_from, runs_of, run_lines}
use Rattle.comparing.specs.Comparing.{lines_by, lines_of, comparison_of}
use Rattle.comparing.proofs.CoverLaws.{runs_cover, line_covers}
use Rattle.comparing.proofs.EntryLineLaws.{all_iff, entry_iff}
use Rattle.comparing.proofs.FieldLaws.{differing_most}
use Rattle.comparing.proofs.MemberLaws.{mem_all}
use Rattle.comparing.proofs.OrderLaws.{ordered}
use Rattle.comparing.proofs.RefusedLaws.{never, refused_named, refused_only, read_either}
use Rattle.comparing.proofs.SectionLaws.{lines_are, in_list, in_data}

-- ---- a line

digits_most : (n : ℕ) → n < 2 ^ 64 → length (decimal n) ≤ 20
digits_most n h = decimal-length n 19 (omega arith)

head_most : (h : HeadField) → length (head_name h) ≤ 7
head_most version_field = omega arith
head_most program_field = omega arith
head_most control_field = omega arith
head_most set-field = omega arith
head_most number_field = omega arith
head_most files_field = omega arith
head_most list_field = omega arith
head_most start-field = omega arith
head_most data_field = omega arith

entry_most : (e : EntryField) → length (entry_name e) ≤ 6
entry_most length-field = omega arith
entry_most status_field = omega arith
entry_most size_field = omega arith
entry_most md5-field = omega arith
entry_most md5_16k_field = omega arith
entry_most name_field = omega arith

-- the numbers of a line are of 64 bits
abbrev Small : Line → Type 0
Small (head h) = Unit {0}
Small (entry p e) = p < 2 ^ 64
Small (all p) = p < 2 ^ 64
Small (run a b) = (a < 2 ^ 64) × (b < 2 ^ 64)
Small (refused side number) = (side < 2 ^ 64) × (number < 2 ^ 64)

line_most : (l : Line) → Small l → length (line_text l) ≤ 64
unfolding head_text entry_text run_text refused_text flatten
line_most (head h) s = simp length-append (omega (arith, head_most h))
line_most (entry p e) s = simp length-append (omega (arith, digits_most p s, entry_most e))
line_most (all p) s = simp length-append (omega (arith, digits_most p s))
line_most (run a b) s = simp length-append (omega (arith, digits_most a s.0, digits_most b s.1))
line_most (refused side number) s = simp length-append (omega (arith, digits_most side s.0, digits_most number s.1))

text_most : (ls : List Line) → All Small ls → length (text_of ls) ≤ 64 * length ls
unfolding flatten
text_most [] all_none = omega arith
text_most (l ∷ ls) (all_more s ss) = omega (arith, line_most l s, text_most ls ss, length-append (line_text l) (text_of ls))

-- ---- how many lines

all_count : (k : ℕ) (es : List (List ℕ)) → length (all_lines k es) ≡ length es
unfolding all_lines
all_count k [] = refl
all_count k (e ∷ es) = ap suc (all_count (suc k) es)

list_count : (k : ℕ) (es ds : List (List ℕ)) → length (entry_lines k es ds) ≤ 6 * (length es + length ds)
unfolding entry_lines
list_count k [] ds = omega (arith, all_count k ds)
list_count k (e ∷ es) [] = omega (arith, all_count k (e ∷ es))
list_count k (e ∷ es) (d ∷ ds) = let fields : List EntryField = differing entry_table e d in
    omega
    (arith, length-append (map (entry k) fields) (entry_lines (suc k) es ds), length-map fields (entry k), differing_most e d entry_table, list_count (suc k) es ds)

with_count : (p : ℕ) (rs : List Run) → length (with_place p rs) ≤ suc (length rs)
unfolding with_place
with_count p [] = omega arith
with_count p (r ∷ rs) = by (eqb r.first (suc p))
  where
    by : (b : Bool) → length (cond b (run_of p r.last ∷ rs) (run_of p p ∷ r ∷ rs)) ≤ suc (suc (length rs))
    by true = omega arith
    by false = omega arith

run_count : (d : ℕ → Bool) (k p : ℕ) → length (runs_from d k p) ≤ k
unfolding runs_from
run_count d zero p = omega arith
run_count d (suc k) p = by (d p) (run_count d k (suc p))
  where
    rest : List Run
    rest = runs_from d k (suc p)

    by : (b : Bool) → length rest ≤ k → length (cond b (with_place p rest) rest) ≤ suc k
    by true h = omega (arith, with_count p rest)
    by false h = omega arith

runs_count : (a b : List ℕ) → length (run_lines a b) ≤ max (length a) (length b)
unfolding run_lines runs_of
runs_count a b =
    omega
    (arith, length-map (runs_from (differs a b) (max (length a) (length b)) 0) (λ r. run_line r), run_count (differs a b) (max (length a) (length b)) 0)

heads_count : (f g : List ℕ) → length (head_lines f g) ≤ 9
unfolding head_lines
heads_count f g = omega (arith, length-map (differing head_table f g) head, differing_most f g head_table)

-- ---- an accepted file

record Sizes (f : List ℕ) : Type 0 where
  entries_most : length (entries_in f) ≤ max_volume_length
  data_most : length (data_of f) ≤ max_volume_length

sizes : (f : List ℕ) → IsAccepted f → Sizes f
sizes f a = let most : length f ≤ max_volume_length = (read_tells f a.0 a.1).tests.header.size.high in
    record {
      entries_most = omega (arith, cut-count length_of (list_of f), length-take (list_size_of f) (drop 96 f), length-drop 96 f);
      data_most = omega (arith, length-drop (96 + list_size_of f) f);
    }

module _ (f g : List ℕ) (a : IsAccepted f) (b : IsAccepted g) where
  lines_most : length (lines_of f g) ≤ 9 + 13 * max_volume_length
  lines_most = let s = sizes f a in
      let t = sizes g b in
      let lists : List Line = entry_lines 1 (entries_in f) (entries_in g) in
      let runs : List Line = run_lines (data_of f) (data_of g) in
      omega (
        arith,
        ap length (lines_are f g a b),
        length-append (head_lines f g) (lists ++ runs),
        length-append lists runs,
        heads_count f g,
        list_count 1 (entries_in f) (entries_in g),
        runs_count (data_of f) (data_of g),
        s.entries_most,
        s.data_most,
        t.entries_most,
        t.data_most,
      )

  place_most : (p : ℕ) → (p < 1 + length (entries_in f)) ⊎ (p < 1 + length (entries_in g)) → p < 2 ^ 64
  place_most p (inl h) = omega (arith, (sizes f a).entries_most)
  place_most p (inr h) = omega (arith, (sizes g b).entries_most)

  run_place : {p x y : ℕ} → x ≤ p → p ≤ y → Memᴰ (run x y) (run_lines (data_of f) (data_of g)) → p < 2 ^ 64
  unfolding run_lines runs_of
  run_place {p} low high m = let d = differs (data_of f) (data_of g) in
      let n = max (length (data_of f)) (length (data_of g)) in
      let h = (runs_cover d p n 0).0 (line_covers (runs_from d n 0) low high m) in
      omega (arith, h.high, (sizes f a).data_most, (sizes g b).data_most)

-- ---- every line

refused_small : (f : List ℕ) (n : ℕ) → RefusedWith f n → n < 2 ^ 64
refused_small f n w = let within = refusal_within f in
    omega (arith, within.number_most, w.2, ap (λ (r : Refusal). r.number) (refused_is f w.1))

refusal_small : (f g : List ℕ) (side number : ℕ) → Memᴰ (refused side number) (lines_of f g) → Small (refused side number)
refusal_small f g side number m =
    ⊎_elim (λ w. (omega (arith, w.0), refused_small f number w.1)) (λ w. (omega (arith, w.0), refused_small g number w.1))
    ((refused_named f g side number).0 m)

accepted_small : (f g : List ℕ) → IsAccepted f → IsAccepted g → (l : Line) → Memᴰ l (lines_of f g) → Small l
accepted_small f g a b (head h) m = tt
accepted_small f g a b (entry p e) m = place_most f g a b p (inl ((entry_iff p e 1 (entries_in f) (entries_in g)).0 ((in_list f g a b refl).0 m)).one_has)
accepted_small f g a b (all p) m =
    place_most f g a b p
    (⊎_elim (λ o. inl o.0) (λ o. inr o.1) ((all_iff p 1 (entries_in f) (entries_in g)).0 ((in_list f g a b refl).0 m)).1)
accepted_small f g a b (run x y) m = let right = (ordered f g).1 x y m in
    let listed = (in_data f g a b refl).0 m in
    (run_place f g a b (omega arith) right listed, run_place f g a b right (omega arith) listed)
accepted_small f g a b (refused side number) m = refusal_small f g side number m

refused_lines : (f g : List ℕ) (n : ℕ) → RefusedWith f n ⊎ RefusedWith g n → (l : Line) → Memᴰ l (lines_of f g) → Small l
refused_lines f g n w l m = let found = refused_only f g n w l m in
    subst Small (sym found.2) (refusal_small f g found.0 found.1 (Memᴰ.cast (sym found.2) m))

-- ---- the comparison

few_lines : (f g : List ℕ) (n : ℕ) (r q : Reading) → ((t : Refusal) × (r ≡ Err t)) ⊎ ((t : Refusal) × (q ≡ Err t))
    → length (lines_by r q f g) ≤ 2
few_lines f g n (Ok p) (Ok q) w = absurd (⊎_elim (λ w. never w.1) (λ w. never w.1) w)
few_lines f g n (Ok p) (Err r) w = omega arith
few_lines f g n (Err r) (Ok q) w = omega arith
few_lines f g n (Err r) (Err q) w = omega arith

pub comparison_most : (f g : List ℕ) → length (comparison_of f g) < 2 ^ 59
unfolding comparison_of lines_of
comparison_most f g = by (read_either f) (read_either g)
  where
    few : (n : ℕ) → RefusedWith f n ⊎ RefusedWith g n → length (lines_of f g) ≤ 2
    few n w = few_lines f g n (read_of f) (read_of g) (⊎_elim (λ w. inl (w.0, w.1)) (λ w. inr (w.0, w.1)) w)

    by : IsAccepted f ⊎ ((n : ℕ) × RefusedWith f n) → IsAccepted g ⊎ ((n : ℕ) × RefusedWith g n) → length (text_of (lines_of f g)) < 2 ^ 59
    by (inl a) (inl b) = omega (arith, text_most (lines_of f g) (mem_all (lines_of f g) (accepted_small f g a b)), lines_most f g a b)
    by (inl a) (inr r) = omega (arith, text_most (lines_of f g) (mem_all (lines_of f g) (refused_lines f g r.0 (inr r.1))), few r.0 (inr r.1))
    by (inr r) b = omega (arith, text_most (lines_of f g) (mem_all (lines_of f g) (refused_lines f g r.0 (inl r.1))), few r.0 (inl r.1))
