-- Laws of the model.
--
--   Same t u                  u is of the same files and the same code as t
--   next-same, after_same     calls keep the number of files, their sizes, and the code
--   Ranged t                  what is present or quarantined in t is in range, and no volume is both
--   next_ranged, after_ranged     calls keep that
--   missing_not               a reply to a query of a missing file has no other number than 0, 12 or 14
--   gives_one, gives_all_one   the model gives one reply at most to each call
--   one_reply                 so at the rules of the two codes
-- Assumes nothing.
use mathlib.Core.Path.{◌≡◌, refl, sym, ap, ap₂, ◌∙◌, subst}
use mathlib.Core.Logic.{◌≢◌}
use mathlib.Core.Bool.{Bool, true, false, cond, false≢true}
use mathlib.Core.List.{List, [], ◌∷◌, ◌++◌}
use Prim.Native.Nat.{ℕ, ◌<◌, ◌≤◌}
use native.Mathlib.Omega.{arith}
use lib.Dec.{eqb}
use lib.ListN.{drop}
use borrow.Author.Tests.{eqb-true}
use Rattle.codes.specs.declared.Code.{Code}
use Rattle.parity.proofs.Coefficients.{rule_byte}
use Rattle.parity.specs.Coefficient.{rule_of}
use Rattle.parity.specs.Parity.{is_file}
use Rattle.recovery.specs.Recoverable.{State, is_volume}
use Rattle.inventory.specs.Model.{Change, add_file, remove_file, add_volume, remove_volume, quarantine, release, changed, number_of}
use Rattle.inventory.specs.Steps.{in_range, while_quarantined}
use Rattle.inventory.proofs.ChangeNumbers.{accepted_tests}
use Rattle.inventory.proofs.ModelSets.{insert_inside, remove_inside, Apart, apart-insert, apart-remove, apart_moved, apart_back}
use Rattle.inventory.specs.Model.{Call, change, count, query, Reply, reply, queried, opened, with_files, with_volumes, next, after}
use Rattle.inventory.specs.Model.{Gives, GivesQuery, GivesMissing, undetermined, no_room, recoverable, GivesAll}
use Rattle.inventory.specs.Claim.{OneReply}
use Rattle.recovery.proofs.Weights.{one_weights}

-- ---- calls keep the files, their sizes, and the code

pub record Same (t u : State) : Type 0 where
  pub same_n : u.n ≡ t.n
  pub same_size : u.size ≡ t.size
  pub same_code : u.code ≡ t.code

changed-same : (c : Change) (t : State) (k : ℕ) → Same t (changed c t k)
unfolding changed
changed-same add_file t f = record { same_n = refl; same_size = refl; same_code = refl }
changed-same remove_file t f = record { same_n = refl; same_size = refl; same_code = refl }
changed-same (add_volume c) t v = record { same_n = refl; same_size = refl; same_code = refl }
changed-same remove_volume t v = record { same_n = refl; same_size = refl; same_code = refl }
changed-same quarantine t v = record { same_n = refl; same_size = refl; same_code = refl }
changed-same release t v = record { same_n = refl; same_size = refl; same_code = refl }

pub next-same : (t : State) (c : Call) → Same t (next t c)
unfolding next
next-same t (change c k) = go (eqb (number_of t c k) 0)
  where
    go : (b : Bool) → Same t (cond b (changed c t k) t)
    go true = changed-same c t k
    go false = record { same_n = refl; same_size = refl; same_code = refl }
next-same t count = record { same_n = refl; same_size = refl; same_code = refl }
next-same t (query f room) = record { same_n = refl; same_size = refl; same_code = refl }

pub after_same : (t : State) (cs : List Call) → Same t (after t cs)
unfolding after
after_same t [] = record { same_n = refl; same_size = refl; same_code = refl }
after_same t (c ∷ cs) = let one = next-same t c in
    let more = after_same (next t c) cs in
    record { same_n = more.same_n ∙ one.same_n; same_size = more.same_size ∙ one.same_size; same_code = more.same_code ∙ one.same_code }

-- ---- what is present is in range

pub record Ranged (t : State) : Type 0 where
  pub files : (f : ℕ) → t.files f ≡ true → is_file t.n f ≡ true
  pub volumes : (v : ℕ) → t.volumes v ≡ true → is_volume t.n v ≡ true
  pub quarantined : (v : ℕ) → t.quarantined v ≡ true → is_volume t.n v ≡ true
  pub apart : Apart t.volumes t.quarantined

pub opened_ranged : (d : Code) (n : ℕ) (size : ℕ → ℕ) → Ranged (opened d n size)
opened_ranged d n size = record {
  files = λ f e. absurd (false≢true e);
  volumes = λ v e. absurd (false≢true e);
  quarantined = λ v e. absurd (false≢true e);
  apart = λ v e. refl;
}

-- other files; other volumes
with_files_lem : (t : State) → Ranged t → (s : ℕ → Bool) → ((f : ℕ) → s f ≡ true → is_file t.n f ≡ true) → Ranged (with_files t s)
with_files_lem t h s r = record { files = r; volumes = h.volumes; quarantined = h.quarantined; apart = h.apart }

with_volumes_lem : (t : State) → Ranged t → (s q : ℕ → Bool) → ((v : ℕ) → s v ≡ true → is_volume t.n v ≡ true)
    → ((v : ℕ) → q v ≡ true → is_volume t.n v ≡ true) → Apart s q → Ranged (with_volumes t s q)
with_volumes_lem t h s q r r' a = record { files = h.files; volumes = r; quarantined = r'; apart = a }

changed_ranged : (c : Change) (t : State) (k : ℕ) → Ranged t → in_range c t.n k ≡ true → while_quarantined c t.quarantined k ≡ false
    → Ranged (changed c t k)
unfolding in_range while_quarantined changed
changed_ranged add_file t f h r e = with_files_lem t h _ (insert_inside t.files (is_file t.n) f r h.files)
changed_ranged remove_file t f h r e = with_files_lem t h _ (λ g m. h.files g (remove_inside t.files f g m))
changed_ranged (add_volume c) t v h r e =
    with_volumes_lem t h _ _ (insert_inside t.volumes (is_volume t.n) v r h.volumes) h.quarantined
    (apart-insert t.volumes t.quarantined v h.apart e)
changed_ranged remove_volume t v h r e =
    with_volumes_lem t h _ _ (λ u m. h.volumes u (remove_inside t.volumes v u m)) (λ u m. h.quarantined u (remove_inside t.quarantined v u m))
    (apart-remove t.volumes t.quarantined v h.apart)
changed_ranged quarantine t v h r e =
    with_volumes_lem t h _ _ (λ u m. h.volumes u (remove_inside t.volumes v u m))
    (insert_inside t.quarantined (is_volume t.n) v r h.quarantined) (apart_moved t.volumes t.quarantined v h.apart)
changed_ranged release t v h r e =
    with_volumes_lem t h _ _ (insert_inside t.volumes (is_volume t.n) v r h.volumes)
    (λ u m. h.quarantined u (remove_inside t.quarantined v u m)) (apart_back t.volumes t.quarantined v h.apart)

next_ranged : (t : State) (c : Call) → Ranged t → Ranged (next t c)
unfolding next
next_ranged t (change c k) h = go (eqb (number_of t c k) 0) refl
  where
    go : (b : Bool) → eqb (number_of t c k) 0 ≡ b → Ranged (cond b (changed c t k) t)
    go true e = let (r, o, a) = accepted_tests t c k (eqb-true (number_of t c k) 0 e) in changed_ranged c t k h r a
    go false e = h
next_ranged t count h = h
next_ranged t (query f room) h = h

pub after_ranged : (t : State) (cs : List Call) → Ranged t → Ranged (after t cs)
unfolding after
after_ranged t [] h = h
after_ranged t (c ∷ cs) h = after_ranged (next t c) cs (next_ranged t c h)

-- ---- the numbers of queries

module _ (rule : ℕ → ℕ → ℕ) (t : State) (f : ℕ) (room : List ℕ) (j : ℕ) (values : List ℕ) where
  pub missing_not : j ≢ 0 → j ≢ 12 → j ≢ 14 → (r : Reply) → r ≡ reply j values → GivesMissing rule t f room r → ⊥
  missing_not a b c r e (undetermined n) = b (cc)
  missing_not a b c r e (no_room y l) = c (cc)
  missing_not a b c r e (recoverable y l w W) = a (cc)

-- ---- the model determines each reply

module _ (rule : ℕ → ℕ → ℕ) (small : (f v : ℕ) → f < 256 → rule f v < 256) where
  missing_one : (t : State) → t.n ≤ 254 → (f : ℕ) (room : List ℕ) (r r' : Reply)
      → GivesMissing rule t f room r → GivesMissing rule t f room r' → r ≡ r'
  missing_one t l f room r r' (undetermined q) (undetermined q') = refl
  missing_one t l f room r r' (undetermined q) (no_room y b) = absurd (q y)
  missing_one t l f room r r' (undetermined q) (recoverable y b w W) = absurd (q y)
  missing_one t l f room r r' (no_room y b) (undetermined q) = absurd (q y)
  missing_one t l f room r r' (no_room y b) (no_room y' b') = refl
  missing_one t l f room r r' (no_room y b) (recoverable y' b' w W) = absurd (omega arith)
  missing_one t l f room r r' (recoverable y b w W) (undetermined q) = absurd (q y)
  missing_one t l f room r r' (recoverable y b w W) (no_room y' b') = absurd (omega arith)
  missing_one t l f room r r' (recoverable y b w W) (recoverable y' b' w' W') =
      ap (λ (v : List ℕ). queried 0 (v ++ drop 255 room)) (one_weights rule small t l f w w' W W')

  query_one : (t : State) → t.n ≤ 254 → (f : ℕ) (room : List ℕ) (in_range has : Bool) (r r' : Reply)
      → GivesQuery rule t f room in_range has r → GivesQuery rule t f room in_range has r' → r ≡ r'
  query_one t l f room false has r r' p q = p ∙ sym q
  query_one t l f room true true r r' p q = p ∙ sym q
  query_one t l f room true false r r' p q = missing_one t l f room r r' p q

module _ (rules : Code → ℕ → ℕ → ℕ) (small : (c : Code) (f v : ℕ) → f < 256 → rules c f v < 256) where
  pub gives_one : (t : State) → t.n ≤ 254 → (c : Call) (r r' : Reply) → Gives rules t c r → Gives rules t c r' → r ≡ r'
  unfolding Gives
  gives_one t l (change c k) r r' p q = p ∙ sym q
  gives_one t l count r r' p q = p ∙ sym q
  gives_one t l (query f room) r r' p q = query_one (rules t.code) (small t.code) t l f room (is_file t.n f) (t.files f) r r' p q

  pub gives_all_one : (t : State) → t.n ≤ 254 → (cs : List Call) (r r' : List Reply) → GivesAll rules t cs r → GivesAll rules t cs r' → r ≡ r'
  unfolding GivesAll
  gives_all_one t l [] [] [] p q = refl
  gives_all_one t l [] [] (x ∷ r') p q = absurd q
  gives_all_one t l [] (x ∷ r) r' p q = absurd p
  gives_all_one t l (c ∷ cs) [] r' p q = absurd p
  gives_all_one t l (c ∷ cs) (x ∷ r) [] p q = absurd q
  gives_all_one t l (c ∷ cs) (x ∷ r) (x' ∷ r') p q =
      ap₂ (λ (y : Reply) (ys : List Reply). y ∷ ys) (gives_one t l c x x' p.0 q.0)
      (gives_all_one (next t c) (subst (λ (k : ℕ). k ≤ 254) (sym (next-same t c).same_n) l) cs r r' p.1 q.1)

pub one_reply : OneReply
one_reply = gives_all_one rule_of rule_byte
