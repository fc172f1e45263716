-- The lines of two accepted files: those on the headers, on the lists, on the data.
--
--   kind_of l        which of the three a line is on, or a refusal
--   head_kind, list_kind, run_kind    the lines of each part are of its kind
--   lines_are       the lines of two accepted files
--   in_head, in_list, in_data         a line of a kind is a line of the part
-- Assumes nothing.
use mathlib.Core.Path.{◌≡◌, refl, sym, ap₂, ◌∙◌, subst}
use mathlib.Core.List.Memᴰ
use mathlib.Core.List.{List, [], ◌∷◌, ◌++◌, Memᴰ}
use mathlib.Core.Logic.{◌↔◌, ⊎_elim}
use Prim.Native.Nat.{ℕ, suc}
use native.Mathlib.Omega.{arith}
use Rattle.cut_lists.specs.All.{All, all_none, all_more}
use Rattle.par1_rules.specs.Layout.{data_of}
use Rattle.par1_read.specs.Reading.{entries_in}
use Rattle.par1_read.specs.Reading.{Reading}
use Rattle.comparing.specs.Claim.{IsAccepted}
use Rattle.comparing.specs.Lines.{Line, head, entry, all, run, refused}
use Rattle.comparing.specs.Differences.{entry_table, differing, head_table, head_lines, all_lines, entry_lines}
use Rattle.comparing.specs.Runs.{run_line, runs_of, run_lines}
use Rattle.comparing.specs.Comparing.{lines_by, lines_of}
use Rattle.comparing.proofs.MemberLaws.{all_mem, mem_all, all_append, all_mapped}

abbrev pub kind_of : Line → ℕ
kind_of (head h) = 0
kind_of (entry p e) = 1
kind_of (all p) = 1
kind_of (run a b) = 2
kind_of (refused side number) = 3

abbrev pub Kind : ℕ → List Line → Type 0
Kind k ls = All (λ l. kind_of l ≡ k) ls

pub head_kind : (f g : List ℕ) → Kind 0 (head_lines f g)
unfolding head_lines
head_kind f g = all_mapped head (mem_all (differing head_table f g) (λ h m. refl))

all_kind : (k : ℕ) (es : List (List ℕ)) → Kind 1 (all_lines k es)
unfolding all_lines
all_kind k [] = all_none
all_kind k (e ∷ es) = all_more refl (all_kind (suc k) es)

pub list_kind : (k : ℕ) (es ds : List (List ℕ)) → Kind 1 (entry_lines k es ds)
unfolding entry_lines
list_kind k [] ds = all_kind k ds
list_kind k (e ∷ es) [] = all_kind k (e ∷ es)
list_kind k (e ∷ es) (d ∷ ds) = all_append (all_mapped (entry k) (mem_all (differing entry_table e d) (λ x m. refl))) (list_kind (suc k) es ds)

pub run_kind : (a b : List ℕ) → Kind 2 (run_lines a b)
unfolding run_lines
run_kind a b = all_mapped (λ r. run_line r) (mem_all (runs_of a b) (λ r m. refl))

-- ---- two accepted files

module _ (f g : List ℕ) (accepted_one : IsAccepted f) (accepted_two : IsAccepted g) where
  pub lines_are : lines_of f g ≡ head_lines f g ++ (entry_lines 1 (entries_in f) (entries_in g) ++ run_lines (data_of f) (data_of g))
  unfolding lines_of
  lines_are = ap₂ (λ (r q : Reading). lines_by r q f g) accepted_one.1 accepted_two.1

  -- a line of the kind k is of one part
  part_of : {k n : ℕ} {l : Line} {ls : List Line} → (k ≡ n → ⊥) → Kind n ls → kind_of l ≡ k → Memᴰ l ls → ⊥
  part_of other kinds is m = other (sym is ∙ all_mem kinds m)

  module _ {l : Line} where
    pub in_head : kind_of l ≡ 0 → Memᴰ l (lines_of f g) ↔ Memᴰ l (head_lines f g)
    in_head is = (
      λ m. ⊎_elim (λ m. m)
          (λ m. absurd (⊎_elim (part_of (λ e. omega arith) (list_kind 1 (entries_in f) (entries_in g)) is)
          (part_of (λ e. omega arith) (run_kind (data_of f) (data_of g)) is)
          (Memᴰ.append_cases (entry_lines 1 (entries_in f) (entries_in g)) m)))
          (Memᴰ.append_cases (head_lines f g) (subst (Memᴰ l) lines_are m)),
      λ m. subst (Memᴰ l) (sym lines_are) (Memᴰ.append_left _ m),
    )

    pub in_list : kind_of l ≡ 1 → Memᴰ l (lines_of f g) ↔ Memᴰ l (entry_lines 1 (entries_in f) (entries_in g))
    in_list is = (
      λ m. ⊎_elim (λ m. absurd (part_of (λ e. omega arith) (head_kind f g) is m))
          (λ m. ⊎_elim (λ m. m) (λ m. absurd (part_of (λ e. omega arith) (run_kind (data_of f) (data_of g)) is m))
          (Memᴰ.append_cases (entry_lines 1 (entries_in f) (entries_in g)) m))
          (Memᴰ.append_cases (head_lines f g) (subst (Memᴰ l) lines_are m)),
      λ m. subst (Memᴰ l) (sym lines_are) (Memᴰ.append_right (head_lines f g) (Memᴰ.append_left _ m)),
    )

    pub in_data : kind_of l ≡ 2 → Memᴰ l (lines_of f g) ↔ Memᴰ l (run_lines (data_of f) (data_of g))
    in_data is = (
      λ m. ⊎_elim (λ m. absurd (part_of (λ e. omega arith) (head_kind f g) is m))
          (λ m. ⊎_elim (λ m. absurd (part_of (λ e. omega arith) (list_kind 1 (entries_in f) (entries_in g)) is m)) (λ m. m)
          (Memᴰ.append_cases (entry_lines 1 (entries_in f) (entries_in g)) m))
          (Memᴰ.append_cases (head_lines f g) (subst (Memᴰ l) lines_are m)),
      λ m. subst (Memᴰ l) (sym lines_are) (Memᴰ.append_right (head_lines f g) (Memᴰ.append_right (entry_lines 1 (entries_in f) (entries_in g)) m)),
    )
