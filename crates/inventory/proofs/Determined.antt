-- What a count and a query promise determines their answers, and the room afterwards.
--
--   some_size, some_matches     sizes that an inventory can stand for
--   one_count      two answers to one count are the same
--   queried_one    two replies to one query are the same, over any rules
--   one_answer     so at the rules of the two codes
-- Assumes nothing.
use mathlib.Core.Path.{◌≡◌, refl, sym, ap, ap₂, ◌∙◌}
use mathlib.Core.Logic.{◌⊎◌, inl, inr}
use mathlib.Core.Bool.{Bool, true, false, cond}
use mathlib.Core.List.{List}
use Prim.Native.Nat.{ℕ, ◌<◌}
use lib.Dec.{leb, eqb}
use Rattle.codes.specs.declared.Code.{Code}
use Rattle.parity.specs.Coefficient.{rule_of}
use Rattle.parity.proofs.Coefficients.{rule_byte}
use Rattle.number_sets.specs.Sets.{member}
use Rattle.inventory.specs.Model.{query, queried}
use Rattle.inventory.specs.Steps.{is_inventory, Counted, count_reply, answer_number}
use Rattle.inventory.specs.Query.{state_of, Matches, Queried}
use Rattle.inventory.specs.Claim.{OneAnswer, OneCount}
use Rattle.inventory.specs.declared.Inventory.{Inventory}
use Rattle.std.specs.Prelude.{Ok, Err}
use Rattle.recovery.specs.declared.Answer.{Answer}
use Rattle.recovery.specs.declared.Answer.TheVariants as answer
use Rattle.inventory.proofs.ValidInventories.{few_files}
use Rattle.inventory.proofs.Calls.{gives_one}

-- ---- counts

count_one : (r r' : Counted) → count_reply r ≡ count_reply r' → r ≡ r'
unfolding count_reply
count_one (Ok c) (Ok d) e = let a : c.files ≡ d.files = cc in let b : c.volumes ≡ d.volumes = cc in let q : c.quarantined ≡ d.quarantined = cc in
    ap Ok (ap₂ (λ (f v : ℕ). record { files = f; volumes = v; quarantined = c.quarantined }) a b
    ∙ ap (λ (q : ℕ). record { files = d.files; volumes = d.volumes; quarantined = q }) q)
count_one (Ok c) (Err k) e = cc
count_one (Err k) (Ok c) e = cc
count_one (Err j) (Err k) e = cc

pub one_count : OneCount
one_count s r r' p q = count_one r r' (p ∙ sym q)

-- ---- answers by their numbers

answer_of : ℕ → Answer
answer_of k =
    cond (eqb k 0) answer.Recoverable
    (cond (eqb k 12) answer.Undetermined (cond (eqb k 13) answer.Present (answer.Refused k)))

abbrev Refusal : Answer → Type 0
Refusal r = (k : ℕ) → r ≡ answer.Refused k → (k ≡ 10) ⊎ (k ≡ 14)

answer_of_lem : (r : Answer) → Refusal r → answer_of (answer_number r) ≡ r
unfolding answer_of answer_number
answer_of_lem answer.Present h = refl
answer_of_lem answer.Recoverable h = refl
answer_of_lem answer.Undetermined h = refl
answer_of_lem (answer.Refused k) h = go (h k refl)
  where
    go : (k ≡ 10) ⊎ (k ≡ 14) → answer_of k ≡ answer.Refused k
    go (inl e) = ap answer_of e ∙ ap answer.Refused (sym e)
    go (inr e) = ap answer_of e ∙ ap answer.Refused (sym e)

number_one : (r r' : Answer) → Refusal r → Refusal r' → answer_number r ≡ answer_number r' → r ≡ r'
number_one r r' h h' e = sym (answer_of_lem r h) ∙ ap answer_of e ∙ answer_of_lem r' h'

-- ---- queries

-- sizes that an inventory can stand for
pub some_size : Inventory → ℕ → ℕ
some_size s f = cond (member s.nonempty f) 1 0

pub some_matches : (s : Inventory) → Matches s (some_size s)
unfolding some_size
some_matches s f h = go (member s.nonempty f)
  where
    go : (b : Bool) → b ≡ leb 1 (cond b 1 0)
    go true = refl
    go false = refl

same_reply : (k k' : ℕ) (a b : List ℕ) → queried k a ≡ queried k' b → (k ≡ k') × (a ≡ b)
same_reply k k' a b e = let n : k ≡ k' = cc in
    let r : a ≡ b = cc in
    (n, r)

pub queried_one : (rules : Code → ℕ → ℕ → ℕ) → ((c : Code) (f v : ℕ) → f < 256 → rules c f v < 256)
    → (s : Inventory) (f : ℕ) (room : List ℕ) (r r' : Answer) (a b : List ℕ)
    → Queried rules s f room r a → Queried rules s f room r' b → (r ≡ r') × (a ≡ b)
queried_one rules small s f room r r' a b Q Q' = (number_one r r' Q.refusal Q'.refusal same.0, same.1)
  where
    go : (v : Bool) → is_inventory s ≡ v → queried (answer_number r) a ≡ queried (answer_number r') b
    go true e =
        gives_one rules small (state_of s (some_size s)) (few_files s e) (query f room) _ _ (Q.as_model e (some_size s) (some_matches s))
        (Q'.as_model e (some_size s) (some_matches s))
    go false e = Q.first e ∙ sym (Q'.first e)

    same : (answer_number r ≡ answer_number r') × (a ≡ b)
    same = same_reply (answer_number r) (answer_number r') a b (go (is_inventory s) refl)

pub one_answer : OneAnswer
one_answer = queried_one rule_of rule_byte
