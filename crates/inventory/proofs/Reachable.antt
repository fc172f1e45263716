-- An inventory is one that opening and accepted calls give exactly where `is_inventory` says so (document 01, number 10).
--
--   given_valid    what an accepted opening and calls give is an inventory
--   valid_given    each inventory, of words of 64 bits, is given by an accepted opening and calls
--   exactly_given_for, exactly_given     so is_inventory is exact: over any rules, and at those of the two codes
-- Assumes nothing.
use mathlib.Core.Path.{◌≡◌, refl, sym, ap, ◌∙◌, subst}
use mathlib.Core.Bool.{Bool, true, false, cond, ◌&&◌, false≢true}
use mathlib.Core.List.{List, [], ◌∷◌}
use Prim.Native.Nat.{ℕ, suc, ◌<◌, ◌≤◌, ◌-◌}
use native.Mathlib.Omega.{arith}
use native.Mathlib.Decide.{dec_lt}
use lib.Dec.{leb, eqb}
use Rattle.computed_tests.specs.Numbers.{one_to}
use Rattle.computed_tests.specs.Lists.{list_below}
use Rattle.computed_tests.proofs.Lists.{length-list_below, list_below_at}
use Rattle.computed_tests.proofs.Tests.{one_to_inside}
use Rattle.codes.specs.declared.Code.{Code}
use Rattle.parity.specs.Coefficient.{rule_of}
use Rattle.parity.specs.Parity.{is_file}
use Rattle.parity.proofs.Coefficients.{rule_byte}
use Rattle.number_sets.specs.Sets.{member, Words, within}
use Rattle.recovery.specs.Recoverable.{State}
use Rattle.inventory.specs.Model.{Change, add_file, remove_file, add_volume, remove_volume, quarantine, release}
use Rattle.inventory.specs.Model.{Call, change, count, query, Reply, opened}
use Rattle.inventory.specs.Steps.{is_inventory, nonempty_of, fresh, outcome, open_step, after_change, change_step}
use Rattle.inventory.specs.Query.{state_of}
use Rattle.inventory.specs.Claim.{TellsExactly, size_in, Step, Run, Given, ExactlyGivenFor, ExactlyGiven}
use Rattle.inventory.specs.declared.Inventory.{Inventory}
use Rattle.inventory.specs.Outcome.{Outcome}
use Rattle.number_sets.proofs.Words.{member_above, words_same, words_none, words_inserted, words_removed}
use Rattle.inventory.proofs.Outcomes.{open_accepted}
use Rattle.number_sets.proofs.Ranges.{within_bits}
use Rattle.inventory.proofs.ValidInventories.{n_valid, files_valid, nonempty_valid, volumes_valid, quarantined_valid, none_both}
use Rattle.inventory.proofs.Representation.{Represents}
use Rattle.inventory.proofs.Openings.{opened_represents, nonempty_words, nonempty_member}
use Rattle.inventory.proofs.Calls.{Ranged}
use Rattle.inventory.proofs.Told.{opened_told, calls_for_lem}
use Rattle.inventory.proofs.Condition.{sound, calls_sound}
use Rattle.inventory.proofs.Answered.{answered_for}

given_valid : (rules : Code → ℕ → ℕ → ℕ) (d : Code) (n : ℕ) (sizes : List ℕ) → (open_step d n sizes).number ≡ 0
    → (cs : List Call) (rs : List Reply) (s : Inventory) → Run rules (open_step d n sizes).next cs rs s → is_inventory s ≡ true
given_valid rules d n sizes well cs rs s run = (calls_sound rules d n sizes well cs rs s run).1.valid

-- ---- calls keep the number of files, those that are not empty, and the code

-- the sets of what is present or quarantined are words
record Sets (s : Inventory) : Type 0 where
  files : Words s.files
  volumes : Words s.volumes
  quarantined : Words s.quarantined

record Kept (s e : Inventory) : Type 0 where
  same_n : e.n ≡ s.n
  same_nonempty : e.nonempty ≡ s.nonempty
  same_code : e.code ≡ s.code
  sets : Sets e

changed_sets : (c : Change) (s : Inventory) (k : ℕ) → Sets s → Sets (after_change c s k)
unfolding after_change
changed_sets add_file s f w = record { files = words_inserted f s.files w.files; volumes = w.volumes; quarantined = w.quarantined }
changed_sets remove_file s f w = record { files = words_removed f s.files w.files; volumes = w.volumes; quarantined = w.quarantined }
changed_sets (add_volume c) s v w = record { files = w.files; volumes = words_inserted v s.volumes w.volumes; quarantined = w.quarantined }
changed_sets remove_volume s v w = record {
  files = w.files;
  volumes = words_removed v s.volumes w.volumes;
  quarantined = words_removed v s.quarantined w.quarantined;
}
changed_sets quarantine s v w = record {
  files = w.files;
  volumes = words_removed v s.volumes w.volumes;
  quarantined = words_inserted v s.quarantined w.quarantined;
}
changed_sets release s v w = record {
  files = w.files;
  volumes = words_inserted v s.volumes w.volumes;
  quarantined = words_removed v s.quarantined w.quarantined;
}

change_kept : (c : Change) (s : Inventory) (k : ℕ) → Sets s → Kept s (after_change c s k)
unfolding after_change
change_kept add_file s f w = record { same_n = refl; same_nonempty = refl; same_code = refl; sets = changed_sets add_file s f w }
change_kept remove_file s f w = record { same_n = refl; same_nonempty = refl; same_code = refl; sets = changed_sets remove_file s f w }
change_kept (add_volume c) s v w = record { same_n = refl; same_nonempty = refl; same_code = refl; sets = changed_sets (add_volume c) s v w }
change_kept remove_volume s v w = record { same_n = refl; same_nonempty = refl; same_code = refl; sets = changed_sets remove_volume s v w }
change_kept quarantine s v w = record { same_n = refl; same_nonempty = refl; same_code = refl; sets = changed_sets quarantine s v w }
change_kept release s v w = record { same_n = refl; same_nonempty = refl; same_code = refl; sets = changed_sets release s v w }

kept : {s e : Inventory} → e ≡ s → Sets s → Kept s e
kept {s} q w = subst (Kept s) (sym q) record { same_n = refl; same_nonempty = refl; same_code = refl; sets = w }

module _ (rules : Code → ℕ → ℕ → ℕ) where
  step_kept : (s : Inventory) (c : Call) (r : Reply) (s₁ : Inventory) → Step rules s c r s₁ → Sets s → Kept s s₁
  unfolding Step change_step
  step_kept s (change c k) r s₁ (p, q) w = subst (Kept s) (sym q) (go (eqb (change_step c s k).number 0))
    where
      go : (b : Bool) → Kept s (cond b (after_change c s k) s)
      go true = change_kept c s k w
      go false = kept refl w
  step_kept s count r s₁ (p, q) w = kept q w
  step_kept s (query f room) r s₁ (a, room', Q, p, q) w = kept q w

  run_kept : (s : Inventory) (cs : List Call) (rs : List Reply) (e : Inventory) → Run rules s cs rs e → Sets s → Kept s e
  unfolding Run
  run_kept s [] [] e q w = kept (sym q) w
  run_kept s [] (r ∷ rs) e q w = absurd q
  run_kept s (c ∷ cs) [] e q w = absurd q
  run_kept s (c ∷ cs) (r ∷ rs) e (s₁, d, q) w = let one = step_kept s c r s₁ d w in
      let more = run_kept s₁ cs rs e q one.sets in
      record {
        same_n = more.same_n ∙ one.same_n;
        same_nonempty = more.same_nonempty ∙ one.same_nonempty;
        same_code = more.same_code ∙ one.same_code;
        sets = more.sets;
      }

-- ---- sizes for a set of files

one_or-none : (b : Bool) → cond b 1 0 ≤ 1
one_or-none true = omega arith
one_or-none false = omega arith

one_is : (b : Bool) → leb 1 (cond b 1 0) ≡ b
one_is true = refl
one_is false = refl

-- ---- a set in range, of whatever numbers

module _ (m : ℕ) (ws : List ℕ) (w : Words ws) (h : within m ws ≡ true) where
  in_range_lem : (k : ℕ) → member ws k ≡ true → one_to m k ≡ true
  in_range_lem k e =
      elim (dec_lt k 256) [
        | yes l ↦ within_bits m ws h k l e
        | no q ↦ absurd (false≢true (sym (member_above ws k w.four (omega arith)) ∙ e))
      ]

-- ---- every inventory is given

module _ (s : Inventory) (valid : is_inventory s ≡ true) (w : Sets s) (ew : Words s.nonempty) where
  n_range : (1 ≤ s.n) × (s.n ≤ 254)
  n_range = one_to_inside 254 s.n (n_valid s valid)

  sizes : List ℕ
  sizes = list_below s.n (λ i. cond (member s.nonempty (suc i)) 1 0)

  start : Inventory
  start = fresh s.code s.n sizes

  opens : outcome start 0 ≡ open_step s.code s.n sizes
  unfolding sizes start
  opens =
      open_accepted s.code s.n sizes (n_valid s valid) (length-list_below s.n (λ i. cond (member s.nonempty (suc i)) 1 0))
      (λ k l.
      let e = list_below_at s.n (λ i. cond (member s.nonempty (suc i)) 1 0) k l in
      let b = one_or-none (member s.nonempty (suc k)) in
      omega arith)

  size_bit : (f : ℕ) → is_file s.n f ≡ true → leb 1 (size_in sizes f) ≡ member s.nonempty f
  unfolding sizes
  size_bit f h = let b = one_to_inside s.n f h in
      let e : suc (f - 1) ≡ f = omega arith in
      ap (leb 1) (list_below_at s.n (λ i. cond (member s.nonempty (suc i)) 1 0) (f - 1) (omega arith))
      ∙ one_is (member s.nonempty (suc (f - 1))) ∙ ap (member s.nonempty) e

  nonempty_same : nonempty_of sizes s.n ≡ s.nonempty
  nonempty_same =
      words_same (nonempty_of sizes s.n) s.nonempty (nonempty_words sizes s.n) ew
      (λ k l. let b = n_range in nonempty_member sizes s.n (omega arith) k ∙ go k (is_file s.n k) refl (member s.nonempty k) refl)
    where
      go : (k : ℕ) (a : Bool) → is_file s.n k ≡ a → (b : Bool) → member s.nonempty k ≡ b
          → (a && leb 1 (size_in sizes k)) ≡ member s.nonempty k
      go k true p b q = size_bit k p
      go k false p true q = absurd (false≢true (sym p ∙ in_range_lem s.n s.nonempty ew (nonempty_valid s valid) k q))
      go k false p false q = sym q

  present : State
  present = state_of s (size_in sizes)

  present_ranged : Ranged present
  unfolding present
  present_ranged = record {
    files = in_range_lem s.n s.files w.files (files_valid s valid);
    volumes = in_range_lem (255 - s.n) s.volumes w.volumes (volumes_valid s valid);
    quarantined = in_range_lem (255 - s.n) s.quarantined w.quarantined (quarantined_valid s valid);
    apart = none_both s valid w.quarantined.four;
  }

  calls : (cs : List Call) × TellsExactly present cs
  calls = calls_for_lem present present_ranged

  module _ (rules : Code → ℕ → ℕ → ℕ) where
    -- the calls that add what is present lead from the inventory newly opened to s
    given_by : (rs : List Reply) (e : Inventory) → Run rules start calls.0 rs e → Given rules s
    unfolding start present
    given_by rs e run = (
      s.code,
      s.n,
      sizes,
      calls.0,
      record {
        accepted = opened_well;
        replies = rs;
        run = subst (λ (o : Inventory). Run rules o calls.0 rs s) (ap (λ (o : Outcome). o.next) opens)
            (subst (λ (x : Inventory). Run rules start calls.0 rs x) same run);
      },
    )
      where
        opened_well : (open_step s.code s.n sizes).number ≡ 0
        opened_well = sym (ap (λ (o : Outcome). o.number) opens)

        R : Represents (size_in sizes) (opened s.code s.n (size_in sizes)) start
        R = subst (λ (o : Inventory). Represents (size_in sizes) (opened s.code s.n (size_in sizes)) o) (sym (ap (λ (o : Outcome). o.next) opens))
            (opened_represents s.code s.n sizes opened_well).1

        state : present ≡ state_of e (size_in sizes)
        state =
            sym (opened_told present present_ranged s.code s.n (size_in sizes) calls.0 refl refl refl calls.1)
            ∙ (sound rules (size_in sizes) (opened s.code s.n (size_in sizes)) start calls.0 rs e R run).1.state

        k : Kept start e
        k = run_kept rules start calls.0 rs e run record { files = words_none; volumes = words_none; quarantined = words_none }

        same : e ≡ s
        same = λ i. record {
          n = k.same_n i;
          files = words_same e.files s.files k.sets.files w.files (λ j l. sym (ap (λ (t : State). t.files j) state)) i;
          volumes = words_same e.volumes s.volumes k.sets.volumes w.volumes (λ j l. sym (ap (λ (t : State). t.volumes j) state)) i;
          nonempty = (k.same_nonempty ∙ nonempty_same) i;
          quarantined = words_same e.quarantined s.quarantined k.sets.quarantined w.quarantined
              (λ j l. sym (ap (λ (t : State). t.quarantined j) state)) i;
          code = k.same_code i;
        }

    valid_given : ((c : Code) (f v : ℕ) → f < 256 → rules c f v < 256) → Given rules s
    valid_given small = let (rs, e, run) = answered_for rules small start calls.0 in given_by rs e run

pub exactly_given_for : (rules : Code → ℕ → ℕ → ℕ) → ((c : Code) (f v : ℕ) → f < 256 → rules c f v < 256) → ExactlyGivenFor rules
exactly_given_for rules small s fw vw ew qw = (
  λ valid. valid_given s valid record { files = fw; volumes = vw; quarantined = qw } ew rules small,
  λ given. let (d, n, sizes, cs, reached) = given in
      given_valid rules d n sizes reached.accepted cs reached.replies s reached.run,
)

pub exactly_given : ExactlyGiven
exactly_given = exactly_given_for rule_of rule_byte
