-- Condition 3 from C: lists of calls on the bytes of an inventory.
--
--   Follows size t s cs Given b     calls that lead from the inventory s to one whose bytes are b: a run of the model's calls cs beside them, and Given
--   step_follows, run_follows       a call from C, and a list of them: the model gives what they give
--   opened_bytes         an accepted opening, and the bytes that it wrote
--   given_one, all_one   the model has one reply to a call from C, and to each of a list
--   run_on_bytes         the claim
--   answered_on_bytes    every list of calls from C has its replies
--   retold_on_bytes      what is present and what is quarantined can be told from C
-- Assumes nothing.
use mathlib.Core.Path.{◌≡◌, refl, sym, ap, ap₂, ◌∙◌, subst}
use mathlib.Core.Bool.{Bool, true, false, cond, ◌&&◌}
use mathlib.Core.List.{List, [], ◌∷◌, ◌++◌, map}
use Prim.Native.Nat.{ℕ, ◌*◌, ◌≤◌}
use native.Mathlib.Omega.{arith}
use borrow.Author.Tests.{eqb-true, eqb-false}
use lib.Dec.{eqb, leb}
use lib.ListN.{length, take, drop}
use lib.Seq.{take_at}
use Rattle.codes.specs.Codes.{is_code, code_of, code_number}
use Rattle.codes.specs.declared.Code.{Code}
use Rattle.codes.proofs.CodeLaws.{back, number_code}
use Rattle.parity.specs.Coefficient.{rule_of}
use Rattle.parity.proofs.Coefficients.{rule_byte}
use Rattle.recovery.specs.Recoverable.{State}
use Rattle.inventory.specs.Model as model
use Rattle.inventory.specs.Model.{Change, Call, change, Reply, reply, numbered, number_of, opened, next, after, Gives}
use Rattle.inventory.specs.Steps.{open_step, refused_opening, change_step, count_step}
use Rattle.inventory.specs.Claim.{Step, Run, Condition, TellsExactly, size_in}
use Rattle.inventory.specs.declared.Inventory.{Inventory}
use Rattle.inventory.specs.Outcome.{Outcome}
use Rattle.inventory.proofs.Representation.{Represents, meets}
use Rattle.inventory.proofs.Openings.{opened_represents}
use Rattle.inventory.proofs.Told.{after_told, retold}
use Rattle.inventory.proofs.Calls.{after_same, gives_one}
use Rattle.inventory.proofs.Condition.{condition, calls_fit}
use Rattle.inventory.proofs.Answered.{answered}
use Rattle.inventory_bytes.specs.Claim.{Held}
use Rattle.inventory_bytes.specs.Inventories.{inventory_of, inventory_bytes, opened_by, stored_by, counted_into}
use Rattle.inventory_bytes.proofs.BackLaws.{length_inventory}
use Rattle.lent_bytes.specs.Writing.{refused, accepted, written, written_unless, with_number}
use Rattle.refusals.specs.Tests.{bare}
use Rattle.refusals.specs.Limits.{max_files}
use Rattle.little_endian.specs.Bytes.{numbers_at}
use Rattle.par1_c.specs.Claim.{RunOnBytes, AnsweredOnBytes, RetoldOnBytes}
use Rattle.par1_c.specs.Codes.{by_code}
use Rattle.par1_c.specs.Inventories.{open_into, changed_by, added_by, count_into, QueryInto}
use Rattle.par1_c.specs.Runs.{CallOnBytes, add_file, remove_file, add_volume, remove_volume, quarantine, release, count, query}
use Rattle.par1_c.specs.Runs.{StepInto, RunInto, call_of, calls_of, state_after, GivesInto, GivesAllInto}
use Rattle.par1_c.proofs.OnBytes.{held_opened, changed_on_bytes, counted_on_bytes, queried_on_bytes}

-- ---- one list of calls after another

after-append : (t : State) (cs ds : List Call) → after t (cs ++ ds) ≡ after (after t cs) ds
unfolding after
after-append t [] ds = refl
after-append t (c ∷ cs) ds = after-append (next t c) cs ds

run_append : (s s₁ e : Inventory) (cs ds : List Call) (rs ps : List Reply) → Run rule_of s cs rs s₁ → Run rule_of s₁ ds ps e
    → Run rule_of s (cs ++ ds) (rs ++ ps) e
unfolding Run
run_append s s₁ e [] ds [] ps p q = subst (λ (i : Inventory). Run rule_of i ds ps e) (sym p) q
run_append s s₁ e [] ds (r ∷ rs) ps p q = absurd p
run_append s s₁ e (c ∷ cs) ds [] ps p q = absurd p
run_append s s₁ e (c ∷ cs) ds (r ∷ rs) ps (i, d, p) q = (i, d, run_append i s₁ e cs ds rs ps p q)

-- ---- calls from C beside those on the inventory

record Follows (size : ℕ → ℕ) (t : State) (s : Inventory) (cs : List Call) (Given : Type 0) (b : List ℕ) : Type 0 where
  replies : List Reply
  end : Inventory
  run : Run rule_of s cs replies end
  held : Held end
  bytes : b ≡ inventory_bytes end
  given : Given
  represents : Represents size (after t cs) end

module _ (size : ℕ → ℕ) (t : State) (s : Inventory) (R : Represents size t s) (h : Held s) where
  one_call : (c : Call) (r : Reply) (s₁ : Inventory) {Given : Type 0} {b₁ : List ℕ} → Step rule_of s c r s₁ → Held s₁ → b₁ ≡ inventory_bytes s₁
      → (Gives rule_of t c r → Given) → Follows size t s (c ∷ []) Given b₁
  unfolding Run after
  one_call c r s₁ did held bytes told = let m = meets rule_of size t s c r s₁ R did in
      record { replies = r ∷ []; end = s₁; run = (s₁, did, refl); held = held; bytes = bytes; given = told m.0; represents = m.1 }

  one_change : (c : Change) (n : ℕ) {k : ℕ} {room b₁ : List ℕ}
      → ((k, b₁) ≡ changed_by (change_step c) n (inventory_bytes s)) × (room ≡ [])
      → Follows size t s (change c n ∷ []) (Gives rule_of t (change c n) (reply k room)) b₁
  unfolding Step
  one_change c n {k} {room} (e, none) = let on = changed_on_bytes s h c n in
      let same = e ∙ on.gives in
      let number : reply k room ≡ numbered (change_step c s n).number =
      ap₂ (λ (j : ℕ) (l : List ℕ). reply j l) (ap (λ (p : ℕ × List ℕ). p.0) same) none in
      one_call (change c n) (numbered (change_step c s n).number) (change_step c s n).next (refl, refl) on.held
      (ap (λ (p : ℕ × List ℕ). p.1) same) (subst (λ (r : Reply). Gives rule_of t (change c n) r) (sym number))

  one_addition : (c v : ℕ) {k : ℕ} {room b₁ : List ℕ} (z : Bool) → room ≡ []
      → (k, b₁) ≡ cond z (changed_by (change_step (model.add_volume (code_of c))) v (inventory_bytes s)) (10, inventory_bytes s)
      → Follows size t s (cond z (change (model.add_volume (code_of c)) v ∷ []) [])
      ((k ≡ cond z (number_of t (model.add_volume (code_of c)) v) 10) × (room ≡ [])) b₁
  unfolding Gives Run after
  one_addition c v {k} true none e = let f = one_change (model.add_volume (code_of c)) v (e, none) in
      let told = f.given in
      let number : k ≡ number_of t (model.add_volume (code_of c)) v = cc in
      record {
        replies = f.replies;
        end = f.end;
        run = f.run;
        held = f.held;
        bytes = f.bytes;
        given = (number, none);
        represents = f.represents;
      }
  one_addition c v {k} false none e = record {
    replies = [];
    end = s;
    run = refl;
    held = h;
    bytes = ap (λ (p : ℕ × List ℕ). p.1) e;
    given = (ap (λ (p : ℕ × List ℕ). p.0) e, none);
    represents = R;
  }

  step_follows : (c : CallOnBytes) (r : ℕ × List ℕ) (b₁ : List ℕ) → StepInto (inventory_bytes s) c r b₁
      → Follows size t s (call_of c) (GivesInto t c r) b₁
  unfolding StepInto call_of GivesInto by_code Step
  step_follows (add_file f) (k, room) b₁ d = one_change model.add_file f d
  step_follows (remove_file f) (k, room) b₁ d = one_change model.remove_file f d
  step_follows (add_volume c v) (k, room) b₁ d = one_addition c v (is_code c) d.1 d.0
  step_follows (remove_volume v) (k, room) b₁ d = one_change model.remove_volume v d
  step_follows (quarantine v) (k, room) b₁ d = one_change model.quarantine v d
  step_follows (release v) (k, room) b₁ d = one_change model.release v d
  step_follows (count out) (k, room) b₁ d =
      one_call model.count (count_step s) s (refl, refl) h d.1 (λ g. (count_step s, g, d.0 ∙ counted_on_bytes s h out))
  step_follows (query f out) (k, room) b₁ d = let (a, q, e) = queried_on_bytes s h f out k room d.0 in
      one_call (model.query f out) (reply k room) s (a, room, q, ap (λ (j : ℕ). reply j room) e, refl) h d.1 (λ g. g)

run_follows : (size : ℕ → ℕ) (t : State) (s : Inventory) → Represents size t s → Held s
    → (cs : List CallOnBytes) (rs : List (ℕ × List ℕ)) (e : List ℕ) → RunInto (inventory_bytes s) cs rs e
    → Follows size t s (calls_of cs) (GivesAllInto t cs rs) e
unfolding RunInto calls_of GivesAllInto Run after
run_follows size t s R h [] [] e q = record { replies = []; end = s; run = refl; held = h; bytes = sym q; given = tt; represents = R }
run_follows size t s R h [] (r ∷ rs) e q = absurd q
run_follows size t s R h (c ∷ cs) [] e q = absurd q
run_follows size t s R h (c ∷ cs) (r ∷ rs) e (b₁, d, q) = let f = step_follows size t s R h c r b₁ d in
    let m = run_follows size (after t (call_of c)) f.end f.represents f.held cs rs e
    (subst (λ (b : List ℕ). RunInto b cs rs e) f.bytes q) in
    record {
      replies = f.replies ++ m.replies;
      end = m.end;
      run = run_append s f.end m.end (call_of c) (calls_of cs) f.replies m.replies f.run m.run;
      held = m.held;
      bytes = m.bytes;
      given = (f.given, m.given);
      represents = subst (λ (u : State). Represents size u m.end) (sym (after-append t (call_of c) (calls_of cs))) m.represents;
    }

-- ---- an accepted opening

stored_none : (o : Outcome) (out out' : List ℕ) → stored_by o out ≡ (0, out')
    → (o.number ≡ 0) × (out' ≡ inventory_bytes o.next ++ drop (length (inventory_bytes o.next)) out)
unfolding stored_by written_unless written
stored_none o out out' e = by (eqb o.number 0) (leb (length b) (length out)) refl e
  where
    b : List ℕ
    b = inventory_bytes o.next

    by : (z f : Bool) → eqb o.number 0 ≡ z
        → with_number (cond z (cond f (accepted b out) (refused (bare 14) out)) (refused (bare o.number) out)) ≡ (0, out')
        → (o.number ≡ 0) × (out' ≡ b ++ drop (length b) out)
    by true true z e = (eqb-true o.number 0 z, sym (ap (λ (p : ℕ × List ℕ). p.1) e))
    by true false z e = let never : ◌≡◌ {A = ℕ} 14 0 = ap (λ (p : ℕ × List ℕ). p.0) e in absurd (omega arith)
    by false f z e = absurd (eqb-false o.number 0 z (ap (λ (p : ℕ × List ℕ). p.0) e))

opened_bytes : (k n : ℕ) (s out out' : List ℕ) → open_into k n s out ≡ (0, out')
    → let o = open_step (code_of k) n (numbers_at n s 0) in (o.number ≡ 0) × (take 144 out' ≡ inventory_bytes o.next)
unfolding by_code opened_by
opened_bytes k n s out out' e = by (is_code k) (leb n max_files && eqb (length s) (8 * n)) e
  where
    o : Outcome
    o = open_step (code_of k) n (numbers_at n s 0)

    by : (z f : Bool) → cond z (stored_by (cond f o (refused_opening 10)) out) (10, out) ≡ (0, out')
        → (o.number ≡ 0) × (take 144 out' ≡ inventory_bytes o.next)
    by true true e = let (none, is) = stored_none o out out' e in
        let size = length_inventory o.next (held_opened (code_of k) n (numbers_at n s 0)) in
        (none, ap (take 144) is ∙ take_at (inventory_bytes o.next) _ 144 size)
    by true false e = let never = (stored_none (refused_opening 10) out out' e).0 in absurd (omega arith)
    by false f e = let never : ◌≡◌ {A = ℕ} 10 0 = ap (λ (p : ℕ × List ℕ). p.0) e in absurd (omega arith)

-- ---- one reply

given_one : (t : State) → t.n ≤ 254 → (c : CallOnBytes) (r r' : ℕ × List ℕ) → GivesInto t c r → GivesInto t c r' → r ≡ r'
unfolding GivesInto
given_one t l c (k, room) (k', room') = by c
  where
    same : (c : Call) → Gives rule_of t c (reply k room) → Gives rule_of t c (reply k' room') → ◌≡◌ {A = ℕ × List ℕ} (k, room) (k', room')
    same c p q = let e : reply k room ≡ reply k' room' = gives_one rule_of rule_byte t l c _ _ p q in
        let number : k ≡ k' = cc in
        let left : room ≡ room' = cc in
        ap₂ (λ (j : ℕ) (o : List ℕ). (j, o)) number left

    by : (c : CallOnBytes) → GivesInto t c (k, room) → GivesInto t c (k', room') → ◌≡◌ {A = ℕ × List ℕ} (k, room) (k', room')
    by (add_file f) p q = same (change model.add_file f) p q
    by (remove_file f) p q = same (change model.remove_file f) p q
    by (add_volume c v) p q = ap₂ (λ (j : ℕ) (o : List ℕ). (j, o)) (p.0 ∙ sym q.0) (p.1 ∙ sym q.1)
    by (remove_volume v) p q = same (change model.remove_volume v) p q
    by (quarantine v) p q = same (change model.quarantine v) p q
    by (release v) p q = same (change model.release v) p q
    by (count out) (r, p, e) (r', p', e') = e ∙ ap (λ (x : Reply). counted_into x out) (gives_one rule_of rule_byte t l model.count r r' p p') ∙ sym e'
    by (query f out) p q = same (model.query f out) p q

all_one : (t : State) → t.n ≤ 254 → (cs : List CallOnBytes) (rs rs' : List (ℕ × List ℕ)) → GivesAllInto t cs rs → GivesAllInto t cs rs' → rs ≡ rs'
unfolding GivesAllInto
all_one t l [] [] [] p q = refl
all_one t l [] [] (r' ∷ rs') p q = absurd q
all_one t l [] (r ∷ rs) rs' p q = absurd p
all_one t l (c ∷ cs) [] rs' p q = absurd p
all_one t l (c ∷ cs) (r ∷ rs) [] p q = absurd q
all_one t l (c ∷ cs) (r ∷ rs) (r' ∷ rs') p q =
    ap₂ (λ (x : ℕ × List ℕ) (xs : List (ℕ × List ℕ)). x ∷ xs) (given_one t l c r r' p.0 q.0)
    (all_one (after t (call_of c)) (subst (λ (k : ℕ). k ≤ 254) (sym (after_same t (call_of c)).same_n) l) cs rs rs' p.1 q.1)

-- ---- the claim

pub run_on_bytes : RunOnBytes
unfolding Step
run_on_bytes k n s out out' e cs rs b run = record {
  replies = f.given;
  on_inventory = (f.replies, f.end, f.run, f.bytes);
  afterwards = λ tells told rt b' run' more r r' e e' ran ran'.
      let g = from tells rt b' run' in
      let same = subst (λ (t : State). Represents size t g.end) (after_told d n size (calls_of cs) (calls_of tells) told) g.represents in
      all_one now (calls_fit d n sizes (calls_of cs) wrote.0) more r r'
      (run_follows size now f.end f.represents f.held more r e (on_same f.bytes more r e ran)).given
      (run_follows size now g.end same g.held more r' e' (on_same g.bytes more r' e' ran')).given;
  exactly = λ g i m out l j room q. holds.exactly g i m out l j room f.end (asked g out j room q);
  follows = λ g i m out room q. holds.follows g i m out room f.end (asked g out 0 room q);
}
  where
    d : Code
    d = code_of k

    sizes : List ℕ
    sizes = numbers_at n s 0

    size : ℕ → ℕ
    size = size_in sizes

    now : State
    now = state_after d n sizes cs

    wrote : ((open_step d n sizes).number ≡ 0) × (take 144 out' ≡ inventory_bytes (open_step d n sizes).next)
    wrote = opened_bytes k n s out out' e

    on_same : {b b' : List ℕ} → b ≡ b' → (cs : List CallOnBytes) (rs : List (ℕ × List ℕ)) (e : List ℕ) → RunInto b cs rs e → RunInto b' cs rs e
    on_same same cs rs e = subst (λ (b : List ℕ). RunInto b cs rs e) same

    from : (cs : List CallOnBytes) (rs : List (ℕ × List ℕ)) (b : List ℕ) → RunInto (take 144 out') cs rs b
        → Follows size (opened d n size) (open_step d n sizes).next (calls_of cs) (GivesAllInto (opened d n size) cs rs) b
    from cs rs b run =
        run_follows size (opened d n size) (open_step d n sizes).next (opened_represents d n sizes wrote.0).1 (held_opened d n sizes) cs rs b
        (on_same wrote.1 cs rs b run)

    f : Follows size (opened d n size) (open_step d n sizes).next (calls_of cs) (GivesAllInto (opened d n size) cs rs) b
    f = from cs rs b run

    holds : Condition rule_of d n size (open_step d n sizes).next (calls_of cs) f.replies f.end
    holds = condition d n sizes wrote.0 (calls_of cs) f.replies f.end f.run

    asked : (g : ℕ) (out : List ℕ) (j : ℕ) (room : List ℕ) → QueryInto b g out j room → Step rule_of f.end (model.query g out) (reply j room) f.end
    asked g out j room q =
        let (a, told, number) = queried_on_bytes f.end f.held g out j room (subst (λ (b : List ℕ). QueryInto b g out j room) f.bytes q) in
        (a, room, told, ap (λ (i : ℕ). reply i room) number, refl)

-- ---- what it speaks of

step-answered : (b : List ℕ) (c : CallOnBytes) → (r : ℕ × List ℕ) × (b₁ : List ℕ) × StepInto b c r b₁
unfolding StepInto Run Step
step-answered b (add_file f) = let x = changed_by (change_step model.add_file) f b in ((x.0, []), x.1, (refl, refl))
step-answered b (remove_file f) = let x = changed_by (change_step model.remove_file) f b in ((x.0, []), x.1, (refl, refl))
step-answered b (add_volume c v) = let x = added_by c v b in ((x.0, []), x.1, (refl, refl))
step-answered b (remove_volume v) = let x = changed_by (change_step model.remove_volume) v b in ((x.0, []), x.1, (refl, refl))
step-answered b (quarantine v) = let x = changed_by (change_step model.quarantine) v b in ((x.0, []), x.1, (refl, refl))
step-answered b (release v) = let x = changed_by (change_step model.release) v b in ((x.0, []), x.1, (refl, refl))
step-answered b (count out) = let x = count_into b out in ((x.0, x.1), b, (refl, refl))
step-answered b (query f out) = by (answered (inventory_of b) (model.query f out ∷ []))
  where
    by : ((rs : List Reply) × (e : Inventory) × Run rule_of (inventory_of b) (model.query f out ∷ []) rs e)
        → (r : ℕ × List ℕ) × (b₁ : List ℕ) × StepInto b (query f out) r b₁
    by ([], e, run) = absurd run
    by (r ∷ rs, e, (s₁, (a, room, q, number, same), run)) = ((_, room), b, (record { answer = a; queried = q; number_is = refl }, refl))

pub answered_on_bytes : AnsweredOnBytes
unfolding RunInto
answered_on_bytes b [] = ([], b, refl)
answered_on_bytes b (c ∷ cs) = let (r, b₁, d) = step-answered b c in
    let (rs, e, run) = answered_on_bytes b₁ cs in
    (r ∷ rs, e, (b₁, d, run))

-- a call of the model, as C makes it
from_c : Call → CallOnBytes
from_c (change model.add_file f) = add_file f
from_c (change model.remove_file f) = remove_file f
from_c (change (model.add_volume c) v) = add_volume (code_number c) v
from_c (change model.remove_volume v) = remove_volume v
from_c (change model.quarantine v) = quarantine v
from_c (change model.release v) = release v
from_c model.count = count []
from_c (model.query f room) = query f room

call_back : (c : Call) → call_of (from_c c) ≡ c ∷ []
unfolding from_c call_of
call_back (change model.add_file f) = refl
call_back (change model.remove_file f) = refl
call_back (change (model.add_volume c) v) = rw (number_code c, back c)
call_back (change model.remove_volume v) = refl
call_back (change model.quarantine v) = refl
call_back (change model.release v) = refl
call_back model.count = refl
call_back (model.query f room) = refl

calls_back : (cs : List Call) → calls_of (map from_c cs) ≡ cs
unfolding calls_of
calls_back [] = refl
calls_back (c ∷ cs) = ap₂ (λ (xs ys : List Call). xs ++ ys) (call_back c) (calls_back cs)

pub retold_on_bytes : RetoldOnBytes
retold_on_bytes d n sizes cs = let (tells, told) = retold d n (size_in sizes) (calls_of cs) in
    (map from_c tells, subst (TellsExactly (state_after d n sizes cs)) (sym (calls_back tells)) told)
