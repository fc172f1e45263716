-- Refused files.
--
--   never                           an acceptance is no refusal
--   not_both, read_either           a file is accepted or refused, and not both
--   refused_named, refused_only     the claims
-- Assumes nothing.
use Rattle.std.specs.Prelude.{Ok, Err}
use mathlib.Core.Path.{◌≡◌, refl, sym, ◌∙◌}
use mathlib.Core.List.Memᴰ
use mathlib.Core.List.{List, ◌++◌, Memᴰ}
use mathlib.Core.Logic.{◌⊎◌, inl, inr, ⊎_elim}
use Prim.Native.Nat.{ℕ}
use native.Mathlib.Omega.{arith}
use Rattle.cut_lists.proofs.AllLaws.{all_map}
use Rattle.refusals.specs.declared.Refusal.{Refusal}
use Rattle.par1_rules.specs.Layout.{data_of}
use Rattle.par1_read.specs.Reading.{entries_in, read_of}
use Rattle.par1_read.specs.declared.reading.Parts.{Parts}
use Rattle.par1_read.specs.Reading.{Reading}
use Rattle.comparing.specs.Claim.{IsAccepted, RefusedWith, RefusedNamed, RefusedOnly}
use Rattle.comparing.specs.Lines.{Line, refused}
use Rattle.comparing.specs.Differences.{head_lines, entry_lines}
use Rattle.comparing.specs.Runs.{run_lines}
use Rattle.comparing.specs.Comparing.{lines_by, lines_of}
use Rattle.comparing.proofs.MemberLaws.{all_mem, all_append}
use Rattle.comparing.proofs.SectionLaws.{kind_of, head_kind, list_kind, run_kind}

-- r is a refusal with the number n
abbrev With : Reading → ℕ → Type 0
With r n = (q : Refusal) × (r ≡ Err q) × (q.number ≡ n)

pub never : {A : Type 0} {p : Parts} {r : Refusal} → Ok p ≡ Err r → A
never e = absurd (let z : ◌≡◌ {A = ℕ} 0 1 = cc in omega arith)

pub not_both : (f : List ℕ) {n : ℕ} → IsAccepted f → RefusedWith f n → ⊥
not_both f a r = never (sym a.1 ∙ r.1)

pub read_either : (f : List ℕ) → IsAccepted f ⊎ ((n : ℕ) × RefusedWith f n)
read_either f = by (read_of f) refl
  where
    by : (r : Reading) → read_of f ≡ r → IsAccepted f ⊎ ((n : ℕ) × RefusedWith f n)
    by (Ok p) e = inl (p, e)
    by (Err r) e = inr (r.number, (r, e, refl))

-- ---- the lines on refused files

module _ (f g : List ℕ) (side n : ℕ) where
  accepted-none : Memᴰ (refused side n) (head_lines f g ++ (entry_lines 1 (entries_in f) (entries_in g) ++ run_lines (data_of f) (data_of g))) → ⊥
  accepted-none m =
      let kinds =
      all_append {P = λ l. kind_of l ≡ 3 → ⊥} (all_map (λ l e d. omega arith) (head_kind f g))
      (all_append (all_map (λ l e d. omega arith) (list_kind 1 (entries_in f) (entries_in g)))
      (all_map (λ l e d. omega arith) (run_kind (data_of f) (data_of g)))) in
      all_mem kinds m refl

  named : (r q : Reading) → Memᴰ (refused side n) (lines_by r q f g) → ((side ≡ 1) × With r n) ⊎ ((side ≡ 2) × With q n)
  named (Ok p) (Ok q) m = absurd (accepted-none m)
  named (Ok p) (Err r) m = let is : refused side n ≡ refused 2 r.number = Memᴰ.eq_of_singleton m in inr (cc, (r, refl, cc))
  named (Err r) (Ok p) m = let is : refused side n ≡ refused 1 r.number = Memᴰ.eq_of_singleton m in inl (cc, (r, refl, cc))
  named (Err r) (Err q) m =
      ⊎_elim (λ (is : refused side n ≡ refused 1 r.number). inl (cc, (r, refl, cc)))
      (λ m. let is : refused side n ≡ refused 2 q.number = Memᴰ.eq_of_singleton m in inr (cc, (q, refl, cc))) (Memᴰ.cases_cons m)

  -- the line, by what the reading of its side is
  line_is : {s : ℕ} {r q : Refusal} → side ≡ s → ◌≡◌ {A = Reading} (Err r) (Err q) → q.number ≡ n → refused side n ≡ refused s r.number
  line_is {r = r} {q = q} e is number = let same : r ≡ q = cc in cc

  listed : (r q : Reading) → ((side ≡ 1) × With r n) ⊎ ((side ≡ 2) × With q n) → Memᴰ (refused side n) (lines_by r q f g)
  listed (Ok p) (Ok q) w = absurd (⊎_elim (λ w. never w.1.1) (λ w. never w.1.1) w)
  listed (Ok p) (Err r) w = ⊎_elim (λ w. never w.1.1) (λ w. Memᴰ.head (line_is w.0 w.1.1 w.1.2)) w
  listed (Err r) (Ok q) w = ⊎_elim (λ w. Memᴰ.head (line_is w.0 w.1.1 w.1.2)) (λ w. never w.1.1) w
  listed (Err r) (Err q) w =
      ⊎_elim (λ w. Memᴰ.head (line_is w.0 w.1.1 w.1.2))
      (λ w. Memᴰ.tail (Memᴰ.head (line_is w.0 w.1.1 w.1.2))) w

pub refused_named : RefusedNamed
unfolding lines_of
refused_named f g side n = (named f g side n (read_of f) (read_of g), listed f g side n (read_of f) (read_of g))

-- ---- nothing else

only : (f g : List ℕ) (n : ℕ) (r q : Reading) → With r n ⊎ With q n → (l : Line) → Memᴰ l (lines_by r q f g)
    → (side : ℕ) × (number : ℕ) × (l ≡ refused side number)
only f g n (Ok p) (Ok q) w l m = absurd (⊎_elim (λ w. never w.1) (λ w. never w.1) w)
only f g n (Ok p) (Err r) w l m = (2, r.number, Memᴰ.eq_of_singleton m)
only f g n (Err r) (Ok q) w l m = (1, r.number, Memᴰ.eq_of_singleton m)
only f g n (Err r) (Err q) w l m = ⊎_elim (λ e. (1, r.number, e)) (λ m. (2, q.number, Memᴰ.eq_of_singleton m)) (Memᴰ.cases_cons m)

pub refused_only : RefusedOnly
unfolding lines_of
refused_only f g n w l m = only f g n (read_of f) (read_of g) w l m
