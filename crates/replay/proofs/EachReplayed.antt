-- Each log has one text, and that is what is replayed.
--
--   ascending_one    two ascending lists of the same numbers are the same
--   line_after, line_is      the line after an event, and that it is the only one
--   lines_after, lines_are   those after events, one after another
--   text_is, text_for        the text of a log, and that each has one
--   each_replayed    the claim
-- Assumes nothing.
use mathlib.Core.Path.{◌≡◌, refl, sym, ap, ap₂, ◌∙◌, subst}
use mathlib.Core.Logic.{◌↔◌, ◌⊎◌, inl, inr}
use mathlib.Core.Bool.{Bool}
use mathlib.Core.List.Memᴰ
use mathlib.Core.List.{List, [], ◌∷◌, ◌++◌, map, flatten, append_assoc, Memᴰ}
use Prim.Native.Nat.{ℕ, suc, ◌<◌, ◌≤◌}
use native.Mathlib.Decide.{ℕ_discrete, dec_le}
use native.Mathlib.Omega.{arith}
use lib.ListN.{length, get_or}
use Rattle.codes.specs.declared.Code.TheVariants.{Powers}
use Rattle.lent_bytes.specs.Writing.{written}
use Rattle.parity.specs.Coefficient.{coefficient}
use Rattle.recovery.specs.Recoverable.{State}
use Rattle.inventory.specs.Model.{change, opened, number_of, next}
use Rattle.inventory.specs.Steps.{open_step}
use Rattle.inventory.specs.Claim.{size_in}
use Rattle.inventory.proofs.Calls.{next-same}
use Rattle.inventory.proofs.Openings.{opened_represents}
use Rattle.replay.specs.Replay.{Decides, event_line, replay_of}
use Rattle.replay.specs.Claim.{Arrival, change_by, first_text, event_text, log_text, files_text, lines_of, NoFirst, end_line, Ascending}
use Rattle.replay.specs.Claim.{LineAfter, files, refused, LinesAfter, no_more, one_more}
use Rattle.replay.specs.Claim.{TextFor, of_events, of_opening, of_no_first, of_too_long, EachReplayed}
use Rattle.replay.proofs.Beginnings.{HasFirst, first_decided, Events, events_there}
use Rattle.replay.proofs.Determined.{decided}
use Rattle.replay.proofs.Files.{recoverable_listed, event_refused}
use Rattle.replay.proofs.Joined.{lines_joined}
use Rattle.replay.proofs.Logs.{log_replayed, opening-refused, first_line_refused, long_refused}

-- ---- ascending lists

-- a number of a list stands somewhere in it
stands : {f : ℕ} {ks : List ℕ} → Memᴰ f ks → (i : ℕ) × (i < length ks) × (get_or ks i 0 ≡ f)
stands (Memᴰ.head e) = (0, omega arith, sym e)
stands (Memᴰ.tail m) = let (i, l, e) = stands m in (suc i, omega arith, e)

above : (k : ℕ) (ks : List ℕ) → Ascending (k ∷ ks) → {f : ℕ} → Memᴰ f ks → k < f
above k ks up m = let (i, l, e) = stands m in
    let less : k < get_or ks i 0 = up 0 (suc i) (omega arith) (omega arith) in omega arith

rest_up : (k : ℕ) (ks : List ℕ) → Ascending (k ∷ ks) → Ascending ks
rest_up k ks up i j l h = up (suc i) (suc j) (omega arith) (omega arith)

least : (k : ℕ) (ks : List ℕ) → Ascending (k ∷ ks) → {f : ℕ} → Memᴰ f (k ∷ ks) → k ≤ f
least k ks up (Memᴰ.head e) = omega arith
least k ks up (Memᴰ.tail m) = let less = above k ks up m in omega arith

-- what is in the rest of one is in the rest of the other, which begins with the same number
later : (k j : ℕ) (ks js : List ℕ) → Ascending (k ∷ ks) → k ≡ j → {f : ℕ} → Memᴰ f ks → Memᴰ f (j ∷ js) → Memᴰ f js
later k j ks js up same m (Memᴰ.head e) = let less = above k ks up m in absurd (omega arith)
later k j ks js up same m (Memᴰ.tail n) = n

ascending_one : (ks js : List ℕ) → Ascending ks → Ascending js → ((f : ℕ) → Memᴰ f ks ↔ Memᴰ f js) → ks ≡ js
ascending_one [] [] up vp same = refl
ascending_one [] (j ∷ js) up vp same = absurd (Memᴰ.not-nil ((same j).1 (Memᴰ.head refl)))
ascending_one (k ∷ ks) [] up vp same = absurd (Memᴰ.not-nil ((same k).0 (Memᴰ.head refl)))
ascending_one (k ∷ ks) (j ∷ js) up vp same = let low : j ≤ k = least j js vp ((same k).0 (Memᴰ.head refl)) in
    let high : k ≤ j = least k ks up ((same j).1 (Memᴰ.head refl)) in
    let first : k ≡ j = omega arith in
    ap₂ (λ (i : ℕ) (is : List ℕ). i ∷ is) first
    (ascending_one ks js (rest_up k ks up) (rest_up j js vp)
    (λ f. (
      λ m. later k j ks js up first m ((same f).0 (Memᴰ.tail m)),
      λ m. later j k js ks vp (sym first) m ((same f).1 (Memᴰ.tail m)),
    )))

-- ---- the lines after events, and the text

module _ (d : State → ℕ → Bool) (D : Decides coefficient d) where
  line_after : (t : State) → t.n ≤ 254 → (a : Arrival) (k : ℕ) → LineAfter t a k (event_line d t (change_by a) k)
  line_after t few a k = elim (ℕ_discrete (number_of t (change_by a) k) 0) [
    | yes z ↦
        let (ks, up, members, line) = recoverable_listed d D t few (change_by a) k z in
        subst (LineAfter t a k) (sym line) (files z ks up members)
    | no q ↦ subst (LineAfter t a k) (sym (event_refused d t (change_by a) k q)) (refused q)
  ]

  line_is : (t : State) → t.n ≤ 254 → (a : Arrival) (k : ℕ) {l : List ℕ} → LineAfter t a k l → l ≡ event_line d t (change_by a) k
  line_is t few a k (files z ks up members) = let (js, vp, members', line) = recoverable_listed d D t few (change_by a) k z in
      ap files_text
      (ascending_one ks js up vp (λ f. (λ m. (members' f).1 ((members f).0 m), λ m. (members f).1 ((members' f).0 m))))
      ∙ sym line
  line_is t few a k (refused q) = sym (event_refused d t (change_by a) k q)

  few_next : (t : State) → t.n ≤ 254 → (a : Arrival) (k : ℕ) → (next t (change (change_by a) k)).n ≤ 254
  few_next t few a k = subst (λ (n : ℕ). n ≤ 254) (sym (next-same t (change (change_by a) k)).same_n) few

  lines_after : (t : State) → t.n ≤ 254 → (es : List (Arrival × ℕ)) → (ls : List (List ℕ)) × LinesAfter t es ls
  lines_after t few [] = ([], no_more)
  lines_after t few ((a, k) ∷ es) = let (ls, after) = lines_after (next t (change (change_by a) k)) (few_next t few a k) es in
      (event_line d t (change_by a) k ∷ ls, one_more (line_after t few a k) after)

  lines_are : (t : State) → t.n ≤ 254 → {es : List (Arrival × ℕ)} {ls : List (List ℕ)} → LinesAfter t es ls → flatten ls ≡ lines_of d t es
  unfolding lines_of flatten
  lines_are t few no_more = refl
  lines_are t few (one_more {a = a} {k = k} line after) =
      ap₂ (λ (x y : List ℕ). x ++ y) (line_is t few a k line) (lines_are (next t (change (change_by a) k)) (few_next t few a k) after)

  text_is : {log text : List ℕ} → TextFor log text → text ≡ replay_of d log
  text_is (of_events n sizes es s ls opens none short after) =
      ap (λ (x : List ℕ). x ++ end_line s) (lines_are (opened Powers n (size_in sizes)) (opened_represents Powers n sizes opens).0 after)
      ∙ sym (log_replayed d n sizes es s opens none short)
  text_is (of_opening n sizes s closed short) = sym (opening-refused d n sizes s closed short)
  text_is (of_no_first log none short) = sym (first_line_refused d log none short)
  text_is (of_too_long log long) = sym (long_refused d log long)

  abbrev HasText : List ℕ → Type 0
  HasText log = (text : List ℕ) × TextFor log text

  -- of a log that is opened, by the events after its first line
  text_opened : (n : ℕ) (sizes s : List ℕ) → (open_step Powers n sizes).number ≡ 0 → length (first_text n sizes ++ s) ≤ 65536 → Events s
      → HasText (first_text n sizes ++ s)
  text_opened n sizes s opens short (es, r, z, none) =
      let (ls, after) = lines_after (opened Powers n (size_in sizes)) (opened_represents Powers n sizes opens).0 es in
      let e : first_text n sizes ++ s ≡ log_text n sizes es ++ r =
      ap (λ (x : List ℕ). first_text n sizes ++ x) z ∙ sym (append_assoc (first_text n sizes) (flatten (map event_text es)) r) in
      subst HasText (sym e) (_, of_events n sizes es r ls opens none (subst (λ (x : List ℕ). length x ≤ 65536) e short) after)

  -- of one with a first line
  text_first : (n : ℕ) (sizes s : List ℕ) → length (first_text n sizes ++ s) ≤ 65536 → HasText (first_text n sizes ++ s)
  text_first n sizes s short = elim (ℕ_discrete (open_step Powers n sizes).number 0) [
    | yes opens ↦ text_opened n sizes s opens short (events_there (suc (length s)) s (omega arith))
    | no closed ↦ (_, of_opening n sizes s closed short)
  ]

  text_for : (log : List ℕ) → HasText log
  text_for log = elim (dec_le (length log) 65536) [
    | yes short ↦ by short (first_decided log)
    | no q ↦ (_, of_too_long log (omega arith))
  ]
    where
      by : length log ≤ 65536 → HasFirst log ⊎ NoFirst log → HasText log
      by short (inr none) = (_, of_no_first log none short)
      by short (inl (n, sizes, s, z)) = subst HasText (sym z) (text_first n sizes s (subst (λ (x : List ℕ). length x ≤ 65536) z short))

pub each_replayed : EachReplayed
each_replayed = let (d, D) = decided in record {
  there = text_for d D;
  one = λ log text text' T T'. text_is d D T ∙ sym (text_is d D T');
  called = λ log text T out r R. R d D ∙ ap (λ (x : List ℕ). written x out) (sym (text_is d D T));
  printed = λ log text T lines P. lines_joined log lines P d D ∙ sym (text_is d D T);
}
