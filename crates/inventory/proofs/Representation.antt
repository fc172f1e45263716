-- An inventory stands for a state of the model, and each call keeps that.
--
--   Represents size t s     the inventory s stands for the state t, of files of these sizes
--   IsSet m ws set          the words ws are the set, of some of the numbers 1 to m
--   represents              an inventory of such sets stands for the state of these sets
--   meets                   a call's reply is the model's, and what it hands back stands for the next state
-- Assumes nothing.
use mathlib.Core.Path.{◌≡◌, refl, sym, ap, ap₂, ◌∙◌, subst, fun_ext}
use mathlib.Core.Bool.{Bool, true, false, not, cond, ◌&&◌, ◌||◌, false≢true}
use mathlib.Core.List.{List}
use Prim.Native.Nat.{ℕ, ◌<◌, ◌≤◌, ◌-◌}
use native.Mathlib.Omega.{arith}
use lib.Dec.{leb, eqb}
use lib.ListN.{length}
use borrow.Author.Tests.{eqb-true}
use Rattle.computed_tests.specs.Numbers.{one_to}
use Rattle.computed_tests.proofs.Tests.{and_both, one_to_inside}
use Rattle.codes.specs.declared.Code.{Code}
use Rattle.parity.specs.Parity.{is_file}
use Rattle.number_sets.specs.Sets.{member, inserted, removed, within, apart}
use Rattle.recovery.specs.Recoverable.{State}
use Rattle.inventory.specs.Model as M
use Rattle.inventory.specs.Model.{Change, add_file, remove_file, add_volume, remove_volume, quarantine, release}
use Rattle.inventory.specs.Model.{insert, remove, changed}
use Rattle.inventory.specs.Model.{Call, change, count, query, Reply, numbered, queried, next, Gives}
use Rattle.inventory.specs.Steps.{is_inventory, if_inventory, in_range, of_other_code, while_quarantined, already, change_number, unless_refused}
use Rattle.inventory.specs.Steps.{accepted, with_files, with_volumes, after_change, change_step, count_step, answer_number}
use Rattle.inventory.proofs.ChangeNumbers.{model_number}
use Rattle.inventory.specs.Query.{state_of, Matches, Queried}
use Rattle.inventory.specs.Claim.{Step}
use Rattle.inventory.specs.declared.Inventory.{Inventory}
use Rattle.recovery.specs.declared.Answer.{Answer}
use Rattle.number_sets.proofs.Words.{member-inserted, member-removed, length_inserted, length_removed}
use Rattle.inventory.proofs.ModelSets.{Apart, apart-insert, apart-remove, apart_moved, apart_back}
use Rattle.number_sets.proofs.Ranges.{within_bits, within_by, apart_by}
use Rattle.inventory.proofs.ValidInventories.{n_valid, few_files}
use Rattle.inventory.proofs.ValidInventories.{files_valid, nonempty_valid, volumes_valid, quarantined_valid, none_both}

pub record Represents (size : ℕ → ℕ) (t : State) (s : Inventory) : Type 0 where
  pub valid : is_inventory s ≡ true
  pub state : t ≡ state_of s size
  pub matches : Matches s size
  pub file_words : length s.files ≡ 4
  pub volume_words : length s.volumes ≡ 4
  pub quarantine_words : length s.quarantined ≡ 4

-- ---- sets in range

-- the words ws are a set of some of the numbers 1 to m, at most 255
pub record IsSet (m : ℕ) (ws : List ℕ) (set : ℕ → Bool) : Type 0 where
  pub small : m ≤ 255
  pub words : length ws ≡ 4
  pub in_range_lem : within m ws ≡ true
  pub members : (k : ℕ) → member ws k ≡ set k

with_number : {m : ℕ} {ws : List ℕ} (f : ℕ) → IsSet m ws (member ws) → one_to m f ≡ true → IsSet m (inserted f ws) (insert f (member ws))
with_number {m} {ws} f h r = record {
  small = h.small;
  words = length_inserted f ws ∙ h.words;
  in_range_lem = within_by m (inserted f ws) (λ k l e. go k l (eqb k f) refl (sym (at k) ∙ e));
  members = at;
}
  where
    at : (k : ℕ) → member (inserted f ws) k ≡ insert f (member ws) k
    at = let b = one_to_inside m f r in member-inserted ws f h.words (omega arith)

    go : (k : ℕ) → k < 256 → (b : Bool) → eqb k f ≡ b → (b || member ws k) ≡ true → one_to m k ≡ true
    go k l true e q = ap (one_to m) (eqb-true k f e) ∙ r
    go k l false e q = within_bits m ws h.in_range_lem k l q

without_number : {m : ℕ} {ws : List ℕ} (f : ℕ) → IsSet m ws (member ws) → one_to m f ≡ true → IsSet m (removed f ws) (remove f (member ws))
without_number {m} {ws} f h r = record {
  small = h.small;
  words = length_removed f ws ∙ h.words;
  in_range_lem = within_by m (removed f ws)
      (λ k l e. within_bits m ws h.in_range_lem k l (and_both (not (eqb k f)) (member ws k) (sym (at k) ∙ e)).1);
  members = at;
}
  where
    at : (k : ℕ) → member (removed f ws) k ≡ remove f (member ws) k
    at = let b = one_to_inside m f r in member-removed ws f h.words (omega arith)

-- an inventory of three sets stands for the state of these sets, if no volume is both present and quarantined
pub represents : {size : ℕ → ℕ} {d : Code} {n : ℕ} {fs vs es qs : List ℕ} {files volumes quarantined : ℕ → Bool}
    → one_to 254 n ≡ true → IsSet n fs files → IsSet (255 - n) vs volumes → IsSet (255 - n) qs quarantined → Apart volumes quarantined
    → within n es ≡ true → ((f : ℕ) → is_file n f ≡ true → member es f ≡ leb 1 (size f))
    → Represents size record { n = n; size = size; files = files; volumes = volumes; quarantined = quarantined; code = d }
    record { n = n; files = fs; volumes = vs; nonempty = es; quarantined = qs; code = d }
unfolding is_inventory
represents {size} {d} {n} {vs = vs} {qs = qs} r F W Q a e m = record {
  valid = ap₂ ◌&&◌ r (ap₂ ◌&&◌ F.in_range_lem (ap₂ ◌&&◌ e (ap₂ ◌&&◌ W.in_range_lem (ap₂ ◌&&◌ Q.in_range_lem none_both))));
  state = λ i. record {
    n = n;
    size = size;
    files = fun_ext (λ k. sym (F.members k)) i;
    volumes = fun_ext (λ k. sym (W.members k)) i;
    quarantined = fun_ext (λ k. sym (Q.members k)) i;
    code = d;
  };
  matches = m;
  file_words = F.words;
  volume_words = W.words;
  quarantine_words = Q.words;
}
  where
    none_both : apart vs qs ≡ true
    none_both = apart_by vs qs (λ k l h. Q.members k ∙ a k (sym (W.members k) ∙ h))

-- ---- one call

module _ (size : ℕ → ℕ) (s : Inventory) (R : Represents size (state_of s size) s) where
  files_set : IsSet s.n s.files (member s.files)
  files_set = record {
    small = let l = few_files s R.valid in omega arith;
    words = R.file_words;
    in_range_lem = files_valid s R.valid;
    members = λ k. refl;
  }

  volumes_set : IsSet (255 - s.n) s.volumes (member s.volumes)
  volumes_set = record { small = omega arith; words = R.volume_words; in_range_lem = volumes_valid s R.valid; members = λ k. refl }

  quarantined_set : IsSet (255 - s.n) s.quarantined (member s.quarantined)
  quarantined_set = record {
    small = omega arith;
    words = R.quarantine_words;
    in_range_lem = quarantined_valid s R.valid;
    members = λ k. refl;
  }

  none_shared : Apart (member s.volumes) (member s.quarantined)
  none_shared = none_both s R.valid R.quarantine_words

  with_files_lem : {ws : List ℕ} {set : ℕ → Bool} → IsSet s.n ws set → Represents size (M.with_files (state_of s size) set) (with_files s ws)
  with_files_lem F = represents (n_valid s R.valid) F volumes_set quarantined_set none_shared (nonempty_valid s R.valid) R.matches

  with_volumes_lem : {ws qs : List ℕ} {set aside : ℕ → Bool} → IsSet (255 - s.n) ws set → IsSet (255 - s.n) qs aside → Apart set aside
      → Represents size (M.with_volumes (state_of s size) set aside) (with_volumes s ws qs)
  with_volumes_lem W Q a = represents (n_valid s R.valid) files_set W Q a (nonempty_valid s R.valid) R.matches

  changed_represents : (c : Change) (k : ℕ) → in_range c s.n k ≡ true → while_quarantined c (member s.quarantined) k ≡ false
      → Represents size (changed c (state_of s size) k) (after_change c s k)
  unfolding in_range while_quarantined changed after_change
  changed_represents add_file f e a = with_files_lem (with_number f files_set e)
  changed_represents remove_file f e a = with_files_lem (without_number f files_set e)
  changed_represents (add_volume c) v e a = with_volumes_lem (with_number v volumes_set e) quarantined_set (apart-insert _ _ v none_shared a)
  changed_represents remove_volume v e a =
      with_volumes_lem (without_number v volumes_set e) (without_number v quarantined_set e) (apart-remove _ _ v none_shared)
  changed_represents quarantine v e a = with_volumes_lem (without_number v volumes_set e) (with_number v quarantined_set e) (apart_moved _ _ v none_shared)
  changed_represents release v e a = with_volumes_lem (with_number v volumes_set e) (without_number v quarantined_set e) (apart_back _ _ v none_shared)

  abbrev Met : (Code → ℕ → ℕ → ℕ) → Call → Reply → Inventory → Type 0
  Met rules c r s₁ = Gives rules (state_of s size) c r × Represents size (next (state_of s size) c) s₁

  module _ (rules : Code → ℕ → ℕ → ℕ) where
    -- a refused change leaves all as it was
    meets_change : (c : Change) (k : ℕ) → Met rules (change c k) (numbered (change_step c s k).number) (change_step c s k).next
    unfolding Gives next change_step if_inventory change_number
    meets_change c k = let same = model_number (state_of s size) c k in
        let met =
        by (is_inventory s) (in_range c s.n k) (of_other_code c s.code) (while_quarantined c (member s.quarantined) k)
        (already c (member s.files) (member s.volumes) (member s.quarantined) k) R.valid (changed_represents c k) in (
          met.0 ∙ ap numbered (sym same),
          subst (λ (n : ℕ). Represents size (cond (eqb n 0) (changed c (state_of s size) k) (state_of s size)) (change_step c s k).next) (sym same) met.1,
        )
      where
        by : {t₁ : State} {s₁ : Inventory} (valid ranged other aside done : Bool) → valid ≡ true → (ranged ≡ true → aside ≡ false → Represents size t₁ s₁)
            → (numbered (cond valid (change_number ranged other aside done) 10) ≡ numbered (change_number ranged other aside done))
            × Represents size (unless_refused (change_number ranged other aside done) t₁ (state_of s size))
            (accepted (cond valid (change_number ranged other aside done) 10) s₁ s).next
        by true true true aside done e h = (refl, R)
        by true true false true done e h = (refl, R)
        by true true false false true e h = (refl, R)
        by true true false false false e h = (refl, h refl refl)
        by true false other aside done e h = (refl, R)
        by false ranged other aside done e h = absurd (false≢true e)

    meets_count : Met rules count (count_step s) s
    unfolding Gives next count_step
    meets_count = (simp R.valid, R)

    meets_query : (f : ℕ) (room : List ℕ) (a : Answer) (room' : List ℕ) → Queried rules s f room a room'
        → Met rules (query f room) (queried (answer_number a) room') s
    unfolding next
    meets_query f room a room' Q = (Q.as_model R.valid size R.matches, R)

-- ---- every call

pub meets : (rules : Code → ℕ → ℕ → ℕ) (size : ℕ → ℕ) (t : State) (s : Inventory) (c : Call) (r : Reply) (s₁ : Inventory)
    → Represents size t s → Step rules s c r s₁ → Gives rules t c r × Represents size (next t c) s₁
unfolding Step
meets rules size t s c r s₁ R step = subst (λ (t : State). Gives rules t c r × Represents size (next t c) s₁) (sym R.state) (by c step)
  where
    own : Represents size (state_of s size) s
    own = record {
      valid = R.valid;
      state = refl;
      matches = R.matches;
      file_words = R.file_words;
      volume_words = R.volume_words;
      quarantine_words = R.quarantine_words;
    }

    to : (c : Call) (r' : Reply) (s' : Inventory) → r ≡ r' → s₁ ≡ s' → Met size s own rules c r' s' → Met size s own rules c r s₁
    to c r' s' p q m = (
      subst (λ (x : Reply). Gives rules (state_of s size) c x) (sym p) m.0,
      subst (λ (x : Inventory). Represents size (next (state_of s size) c) x) (sym q) m.1,
    )

    by : (c : Call) → Step rules s c r s₁ → Met size s own rules c r s₁
    by (change c k) (p, q) = to (change c k) _ _ p q (meets_change size s own rules c k)
    by count (p, q) = to count _ _ p q (meets_count size s own rules)
    by (query f room) (a, room', Q, p, q) = to (query f room) _ _ p q (meets_query size s own rules f room a room' Q)
