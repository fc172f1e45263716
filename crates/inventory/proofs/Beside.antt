-- States that differ only in what is quarantined, at one volume: replies to calls elsewhere agree.
--
--   beside t q         the state t with the volumes of the set q quarantined
--   Off v q t          elsewhere than at v the set q is what is quarantined in t
--   recoverable_beside, weights_beside     what is recoverable, and by which weights, is the same
--   all_agree          the replies to calls elsewhere agree
-- Assumes nothing.
use mathlib.Core.Path.{◌≡◌, refl, sym, ap, ◌∙◌, subst}
use mathlib.Core.Logic.{◌≢◌}
use mathlib.Core.Bool.{Bool, true, false, not, cond, ◌&&◌, ◌||◌}
use mathlib.Core.List.{List, [], ◌∷◌, Memᴰ}
use Prim.Native.Nat.{ℕ, ◌<◌, ◌≤◌}
use lib.Dec.{eqb}
use Rattle.codes.specs.Codes.{same}
use Rattle.codes.specs.declared.Code.{Code}
use Rattle.number_sets.specs.Sets.{size_below}
use Rattle.parity.specs.Parity.{is_file}
use Rattle.recovery.specs.Recoverable.{State, is_volume, Recoverable, SumOfLower, weighted, IsWeights}
use Rattle.inventory.specs.Model.{Change, add_file, remove_file, add_volume, remove_volume, quarantine, release, with_volumes, changed, number_of}
use Rattle.inventory.specs.Model.{Call, change, count, query, Reply, numbered, counts, next}
use Rattle.inventory.specs.Model.{Gives, GivesQuery, GivesMissing, undetermined, no_room, recoverable, GivesAll}
use Rattle.inventory.specs.Claim.{Elsewhere, Agrees, AllAgree}
use Rattle.inventory.proofs.Calls.{next-same, gives_one}

abbrev pub beside : State → (ℕ → Bool) → State
beside t q = with_volumes t t.volumes q

abbrev pub Off : ℕ → (ℕ → Bool) → State → Type 0
Off v q t = (u : ℕ) → u ≢ v → q u ≡ t.quarantined u

-- ---- what is recoverable, and by which weights

module _ (rule : ℕ → ℕ → ℕ) (t : State) (q : ℕ → Bool) where
  recoverable_beside : (f : ℕ) → Recoverable rule t f → Recoverable rule (beside t q) f
  recoverable_beside f h X Y x y a = h X Y x y record { same_files = a.same_files; same-parity = a.same-parity }

  weights_beside : (f : ℕ) (w : List ℕ) → IsWeights rule t f w → IsWeights rule (beside t q) f w
  unfolding SumOfLower weighted
  weights_beside f w W = record {
    places = W.places;
    bytes = W.bytes;
    columns = W.columns;
    of_files = W.of_files;
    of_unused = W.of_unused;
    of_missing = W.of_missing;
  }

module _ (rule : ℕ → ℕ → ℕ) (t : State) (q : ℕ → Bool) (f : ℕ) (room : List ℕ) where
  missing_beside : (r : Reply) → GivesMissing rule (beside t q) f room r → GivesMissing rule t f room r
  missing_beside r (undetermined n) = undetermined (λ y. n (recoverable_beside rule t q f y))
  missing_beside r (no_room y l) = no_room (recoverable_beside rule (beside t q) t.quarantined f y) l
  missing_beside r (recoverable y l w W) =
      recoverable (recoverable_beside rule (beside t q) t.quarantined f y) l w (weights_beside rule (beside t q) t.quarantined f w W)

  query_beside : (in_range has : Bool) (r : Reply) → GivesQuery rule (beside t q) f room in_range has r → GivesQuery rule t f room in_range has r
  query_beside false has r g = g
  query_beside true true r g = g
  query_beside true false r g = missing_beside r g

-- ---- one call elsewhere

module _ (v : ℕ) (t : State) (q : ℕ → Bool) (off : Off v q t) where
  number_beside : (c : Change) (k : ℕ) → Elsewhere v (change c k) → number_of (beside t q) c k ≡ number_of t c k
  unfolding Elsewhere number_of
  number_beside add_file f e = refl
  number_beside remove_file f e = refl
  number_beside (add_volume c) u e =
      ap (λ (b : Bool). cond (is_volume t.n u) (cond (same c t.code) (cond b 27 (cond (t.volumes u) 11 0)) 29) 10) (off u e)
  number_beside remove_volume u e = ap (λ (b : Bool). cond (is_volume t.n u) (cond (t.volumes u || b) 0 11) 10) (off u e)
  number_beside quarantine u e = refl
  number_beside release u e = ap (λ (b : Bool). cond (is_volume t.n u) (cond b 0 11) 10) (off u e)

  -- the states after a call are beside each other too
  record Beside (t₁ u₁ : State) : Type 0 where
    is_beside : u₁ ≡ beside t₁ u₁.quarantined
    off₁ : Off v u₁.quarantined t₁

  changed_beside : (c : Change) (k : ℕ) → Beside (changed c t k) (changed c (beside t q) k)
  unfolding changed
  changed_beside add_file f = record { is_beside = refl; off₁ = off }
  changed_beside remove_file f = record { is_beside = refl; off₁ = off }
  changed_beside (add_volume c) u = record { is_beside = refl; off₁ = off }
  changed_beside remove_volume u = record { is_beside = refl; off₁ = λ w n. ap (λ (b : Bool). not (eqb w u) && b) (off w n) }
  changed_beside quarantine u = record { is_beside = refl; off₁ = λ w n. ap (λ (b : Bool). eqb w u || b) (off w n) }
  changed_beside release u = record { is_beside = refl; off₁ = λ w n. ap (λ (b : Bool). not (eqb w u) && b) (off w n) }

  next_beside : (c : Call) → Elsewhere v c → Beside (next t c) (next (beside t q) c)
  unfolding next
  next_beside (change c k) e =
      subst (λ (n : ℕ). Beside (next t (change c k)) (cond (eqb n 0) (changed c (beside t q) k) (beside t q))) (sym (number_beside c k e))
      (go (eqb (number_of t c k) 0))
    where
      go : (b : Bool) → Beside (cond b (changed c t k) t) (cond b (changed c (beside t q) k) (beside t q))
      go true = changed_beside c k
      go false = record { is_beside = refl; off₁ = off }
  next_beside count e = record { is_beside = refl; off₁ = off }
  next_beside (query f room) e = record { is_beside = refl; off₁ = off }

  module _ (rules : Code → ℕ → ℕ → ℕ) (small : (c : Code) (f v : ℕ) → f < 256 → rules c f v < 256) (fits : t.n ≤ 254) where
    agrees : (c : Call) → Elsewhere v c → (r r' : Reply) → Gives rules (beside t q) c r → Gives rules t c r' → Agrees c r r'
    unfolding Gives Agrees
    agrees (change c k) e r r' g g' = g ∙ ap numbered (number_beside c k e) ∙ sym g'
    agrees count e r r' g g' =
        subst (λ (x : Reply). Agrees count x r') (sym g) (subst (Agrees count (counts files volumes (size_below 256 q))) (sym g') (refl, refl))
      where
        files : ℕ
        files = size_below 256 t.files

        volumes : ℕ
        volumes = size_below 256 t.volumes
    agrees (query f room) e r r' g g' =
        gives_one rules small t fits (query f room) r r' (query_beside (rules t.code) t q f room (is_file t.n f) (t.files f) r g) g'

-- ---- calls elsewhere

module _ (rules : Code → ℕ → ℕ → ℕ) (small : (c : Code) (f v : ℕ) → f < 256 → rules c f v < 256) (v : ℕ) where
  pub all_agree : (cs : List Call) → ((c : Call) → Memᴰ c cs → Elsewhere v c)
      → (t : State) (q : ℕ → Bool) → Off v q t → t.n ≤ 254
      → (r r' : List Reply) → GivesAll rules (beside t q) cs r → GivesAll rules t cs r' → AllAgree cs r r'
  unfolding GivesAll AllAgree
  all_agree [] away t q off fits [] [] g g' = tt
  all_agree [] away t q off fits [] (x' ∷ r') g g' = absurd g'
  all_agree [] away t q off fits (x ∷ r) r' g g' = absurd g
  all_agree (c ∷ cs) away t q off fits [] r' g g' = absurd g
  all_agree (c ∷ cs) away t q off fits (x ∷ r) [] g g' = absurd g'
  all_agree (c ∷ cs) away t q off fits (x ∷ r) (x' ∷ r') (g, h) (g', h') = let here = away c (Memᴰ.head refl) in
      let b = next_beside v t q off c here in (
        agrees v t q off rules small fits c here x x' g g',
        all_agree cs (λ d m. away d (Memᴰ.tail m)) (next t c) (next (beside t q) c).quarantined b.off₁
            (subst (λ (k : ℕ). k ≤ 254) (sym (next-same t c).same_n) fits) r r' (subst (λ (u : State). GivesAll rules u cs r) b.is_beside h) h',
      )
