-- Condition 3 of the tender, as document 02 (2026-10, 2026-13) has it: one claim about a whole list of calls on an inventory newly opened,
-- shown once over any rule of bytes for the coefficients of each code, and then at the rules of the two codes; what quarantine and release count as;
-- the number of each opening, which numbers are out of range, which volumes are of the other code, every refusal of a change; and the
-- recoverable files at once.
--
--   Step rules s c r s₁       the reply to the call c on the inventory s is r, and s₁ is what it hands back: by the very definitions that
--                             the contracts of the calls cite
--   Run rules s cs rs e       the calls cs, each on the inventory last handed back, give the replies rs and leave e
--   Tells t c                 the call c adds a file or a volume that is present in t, or adds or sets aside a volume that is quarantined in t;
--                             a volume by the code of t
--   Before c d cs             the call c stands in cs, and the call d after it
--   TellsExactly t cs         the calls cs tell what is present and what is quarantined in t and nothing else, in whatever order
--   size_in sizes f            the size of file f in the sizes of an opening
--   state_after d n sizes cs   the model's state after the calls cs on an inventory opened for the code d and n files of these sizes
--   Reached rules d n sizes cs s     such an opening is accepted, and the calls cs on it, refused ones too, lead to the inventory s
--   Given rules s             an accepted opening and calls give the inventory s
--   room_of c                  the room lent to the call c
--   Elsewhere v c             the call c changes nothing of volume v
--   OneAside r r'             the replies r and r' to counts: in the second a volume less is present, and one more quarantined
--   OneGone r r'              in the second one less is quarantined
--   Outside m k               the number k is not 1 to m
--   OutOfRange n c            the number of the file or the volume of the call c is out of its range, of n files
--   AddsOther d n c           the call c adds a volume in range, of n files, of another code than d
--   ChangeFails t c j k       test k, one of 10, 29, 27 and 11, holds of the change c of number j in the state t
--   Agrees c r r'             the replies r and r' to the call c are the same, but for how many volumes are quarantined
--   AllAgree cs rs rs'        so are those to the calls cs
--   Condition rules d n size o cs rs s     what holds after the calls cs on the inventory o opened for the code d and n files of these sizes
--   ConditionFor rules        it holds for every accepted opening and every list of calls
--   AnsweredFor rules, ExactlyGivenFor rules, QuarantineAsRemovalFor rules, ReleaseAsAddingFor rules, QuarantineCountedFor rules,
--   QuarantineRefusalsFor rules, RangeRefusedFor rules, OtherCodeRefusedFor rules, ChangeRefusedFor rules     claims, over any rules
-- The claims:
--   ConditionOverRules        the condition, over any rule of bytes for each code
-- and at the rules of the two codes:
--   Condition3                the condition
--   Answered                  every list of calls has its replies, on whatever inventory
--   Retold                    what is present and what is quarantined can be told to a new inventory
--   QuarantineAsRemoval       after quarantine of a volume every reply to calls elsewhere is that after its removal
--   ReleaseAsAdding           after release of a volume every reply is that after its removal, which is accepted, and its addition
--   QuarantineCounted         quarantine takes one off the volumes counted as present and puts one on those counted as quarantined, release the
--                             reverse; removal of a volume in quarantine takes one off these
--   QuarantineRefusals        what is refused of a volume in quarantine, and of one that is neither present nor in quarantine; and that one in
--                             quarantine is released once, and removed once
--   OpeningNumbers            the number of each opening, for either code: 10, 1 or 0
--   RangeRefused              after any list of calls a call is refused with 10 exactly where the number of its file or volume is out of range
--   OtherCodeRefused          after any list of calls a call is refused with 29 exactly where it adds a volume in range of the other code
--   ChangeRefused             after any list of calls a change is refused by the first test that holds, in the document's order, and for nothing else
--   OneReply                  the model has one reply at most to each call
--   OneAnswer, OneCount       what a query and a count promise determines the answer and the room
--   ExactlyGiven              calls give what is_inventory says, and nothing else
--   OthersRefused             every call of a list refuses any other inventory with 10, and changes nothing; that recoverable_files does so
--                             stands in RecoverableSet
--   ZerosRefused              so it does that of zeros
--   OneSet                    what is promised of the set of the recoverable files determines it
--   RecoverableAfter          after any list of calls it has exactly the missing files that are recoverable by the model
--   RecoverableAsQueried      and exactly those that a query calls recoverable
-- Runs of these calls are there (Answered), and so are accepted ones (proofs/Examples.antt), so no claim is empty.
-- Sentences in quotation marks are document 01's, document 02's (2026-10, 2026-11, 2026-13), or the tender's condition 3.
-- Assumes nothing.
use Rattle.std.specs.Prelude.{◌≡◌, ◌↔◌, ◌⊎◌, ◌≢◌, true, false, ◌||◌, ℕ, suc, ◌<◌, ◌≤◌, ◌-◌, length, get_or, replicate, take}
use mathlib.Core.List.{List, [], ◌∷◌, Memᴰ}
use Rattle.codes.specs.declared.Code.{Code}
use Rattle.parity.specs.Coefficient.{rule_of}
use Rattle.mul_add.specs.MulAdd.{mul_add_all}
use Rattle.mul_add.specs.Once.{Once}
use Rattle.parity.specs.Parity.{Contents, is_file}
use Rattle.number_sets.specs.Sets.{member, Words}
use Rattle.refusals.specs.Order.{First}
use Rattle.recovery.specs.Recoverable.{State, is_volume, IsContents, Recoverable, RecoverableNow, place, present, ComeFrom}
use Rattle.inventory.specs.Model.{Call, change, count, query, Reply, reply, numbered, counts, queried, opened, after, GivesAll}
use Rattle.inventory.specs.Model.{Change, add_file, remove_file, add_volume, remove_volume, quarantine, release}
use Rattle.inventory.specs.Steps.{is_inventory, zeros, open_step, change_step, Counted, count_reply, count_step, answer_number}
use Rattle.inventory.specs.Query.{Queried}
use Rattle.inventory.specs.RecoverableFiles.{RecoverableFiles, RecoverableSet}
use Rattle.inventory.specs.declared.Inventory.{Inventory}
use Rattle.recovery.specs.declared.Answer.{Answer}

-- ---- "a new sheet told what is in hand and what is set aside": "told only what is in hand now, in whatever order"; "Its tally and its new sheet
-- have the code of the opening"

unfoldable pub Tells : State → Call → Type 0
Tells t (change add_file f) = t.files f ≡ true
Tells t (change remove_file f) = ⊥
Tells t (change (add_volume c) v) = (c ≡ t.code) × ((t.volumes v || t.quarantined v) ≡ true)
Tells t (change remove_volume v) = ⊥
Tells t (change quarantine v) = t.quarantined v ≡ true
Tells t (change release v) = ⊥
Tells t count = ⊥
Tells t (query f room) = ⊥

unfoldable pub Before : Call → Call → List Call → Type 0
Before c d [] = ⊥
Before c d (b ∷ cs) = ((c ≡ b) × Memᴰ d cs) ⊎ Before c d cs

pub record TellsExactly (t : State) (cs : List Call) : Type 0 where
  pub only : (c : Call) → Memᴰ c cs → Tells t c
  pub files : (f : ℕ) → t.files f ≡ true → Memᴰ (change add_file f) cs
  pub volumes : (v : ℕ) → t.volumes v ≡ true → Memᴰ (change (add_volume t.code) v) cs
  -- what is set aside is noted, and later set aside
  pub quarantined : (v : ℕ) → t.quarantined v ≡ true → Before (change (add_volume t.code) v) (change quarantine v) cs

-- the sizes of an opening, by file number
abbrev pub size_in : List ℕ → ℕ → ℕ
size_in sizes f = get_or sizes (f - 1) 0

-- "Its tally and its new sheet have the code of the opening"
abbrev pub state_after : Code → ℕ → List ℕ → List Call → State
state_after d n sizes cs = after (opened d n (size_in sizes)) cs

abbrev pub room_of : Call → List ℕ
room_of (change c k) = []
room_of count = []
room_of (query f room) = room

-- ---- "setting aside counts as withdrawal for every answer of condition 3 and for the count"

-- "Save for withdrawing it and the refusals below": calls about another volume, or about none
unfoldable pub Elsewhere : ℕ → Call → Type 0
Elsewhere v (change add_file f) = Unit {0}
Elsewhere v (change remove_file f) = Unit {0}
Elsewhere v (change (add_volume c) u) = u ≢ v
Elsewhere v (change remove_volume u) = u ≢ v
Elsewhere v (change quarantine u) = u ≢ v
Elsewhere v (change release u) = u ≢ v
Elsewhere v count = Unit {0}
Elsewhere v (query f room) = Unit {0}

-- a count's files and volumes in hand; any other reply whole
unfoldable pub Agrees : Call → Reply → Reply → Type 0
Agrees (change c k) r r' = r ≡ r'
Agrees count (reply k values) (reply k' values') = (k ≡ k') × (take 2 values ≡ take 2 values')
Agrees (query f room) r r' = r ≡ r'

unfoldable pub AllAgree : List Call → List Reply → List Reply → Type 0
AllAgree [] [] [] = Unit {0}
AllAgree [] [] (r' ∷ rs') = ⊥
AllAgree [] (r ∷ rs) rs' = ⊥
AllAgree (c ∷ cs) [] rs' = ⊥
AllAgree (c ∷ cs) (r ∷ rs) [] = ⊥
AllAgree (c ∷ cs) (r ∷ rs) (r' ∷ rs') = Agrees c r r' × AllAgree cs rs rs'

-- ---- "The sheet also counts those set aside."

-- as many files in hand in both
abbrev pub OneAside : Reply → Reply → Type 0
OneAside r r' = (files : ℕ) × (volumes : ℕ) × (aside : ℕ) × (r ≡ counts files (suc volumes) aside) × (r' ≡ counts files volumes (suc aside))

-- as many files and volumes in hand in both
abbrev pub OneGone : Reply → Reply → Type 0
OneGone r r' = (files : ℕ) × (volumes : ℕ) × (aside : ℕ) × (r ≡ counts files volumes (suc aside)) × (r' ≡ counts files volumes aside)

-- ---- "10 if f is not 1 to n", "Volume v: the same, with 1 to 255 - n for its range", "Ask about f: 10 if f is not 1 to n"; "number checks first":
-- whatever is in hand or set aside, and of either code

abbrev pub Outside : ℕ → ℕ → Type 0
Outside m k = (k < 1) ⊎ (m < k)

unfoldable pub OutOfRange : ℕ → Call → Type 0
OutOfRange n (change add_file f) = Outside n f
OutOfRange n (change remove_file f) = Outside n f
OutOfRange n (change (add_volume c) v) = Outside (255 - n) v
OutOfRange n (change remove_volume v) = Outside (255 - n) v
OutOfRange n (change quarantine v) = Outside (255 - n) v
OutOfRange n (change release v) = Outside (255 - n) v
OutOfRange n count = ⊥
OutOfRange n (query f room) = Outside n f

-- ---- "29 a volume of the other code noted, after 10": in range; "before 27 and 11": whether it is in hand, set aside, or neither

unfoldable pub AddsOther : Code → ℕ → Call → Type 0
AddsOther d n (change add_file f) = ⊥
AddsOther d n (change remove_file f) = ⊥
AddsOther d n (change (add_volume c) v) = (is_volume n v ≡ true) × (c ≢ d)
AddsOther d n (change remove_volume v) = ⊥
AddsOther d n (change quarantine v) = ⊥
AddsOther d n (change release v) = ⊥
AddsOther d n count = ⊥
AddsOther d n (query f room) = ⊥

-- ---- "Note file f: 10 if f is not 1 to n, 11 if f is in hand; else accepted", "Withdraw file f: 10 the same, 11 if f is not in hand", "Volume v: the
-- same"; "27 noted while set aside; 11 for setting aside what is not in hand, or taking back what is not set aside; number checks first",
-- "Withdrawing a set-aside volume is accepted"; "29 a volume of the other code noted, after 10, before 27 and 11"

pub data ChangeFails (t : State) : Change → ℕ → ℕ → Type 0 where
  out_of_range : {c : Change} {j : ℕ} → OutOfRange t.n (change c j) → ChangeFails t c j 10
  other_code : {c : Code} {v : ℕ} → c ≢ t.code → ChangeFails t (add_volume c) v 29
  in_quarantine : {c : Code} {v : ℕ} → t.quarantined v ≡ true → ChangeFails t (add_volume c) v 27
  file_present : {f : ℕ} → t.files f ≡ true → ChangeFails t add_file f 11
  file_missing : {f : ℕ} → t.files f ≡ false → ChangeFails t remove_file f 11
  volume_present : {c : Code} {v : ℕ} → t.volumes v ≡ true → ChangeFails t (add_volume c) v 11
  volume_missing : {v : ℕ} → t.volumes v ≡ false → t.quarantined v ≡ false → ChangeFails t remove_volume v 11
  not-present : {v : ℕ} → t.volumes v ≡ false → ChangeFails t quarantine v 11
  not_in_quarantine : {v : ℕ} → t.quarantined v ≡ false → ChangeFails t release v 11

module _ (rules : Code → ℕ → ℕ → ℕ) where
  -- ---- what the calls do

  unfoldable pub Step : Inventory → Call → Reply → Inventory → Type 0
  Step s (change c k) r s₁ = (r ≡ numbered (change_step c s k).number) × (s₁ ≡ (change_step c s k).next)
  Step s count r s₁ = (r ≡ count_step s) × (s₁ ≡ s)
  Step s (query f room) r s₁ =
      (a : Answer) × (room' : List ℕ) × Queried rules s f room a room' × (r ≡ queried (answer_number a) room') × (s₁ ≡ s)

  -- "Each later call gets the sheet last handed back"
  unfoldable pub Run : Inventory → List Call → List Reply → Inventory → Type 0
  Run s [] [] e = s ≡ e
  Run s [] (r ∷ rs) e = ⊥
  Run s (c ∷ cs) [] e = ⊥
  Run s (c ∷ cs) (r ∷ rs) e = (s₁ : Inventory) × Step s c r s₁ × Run s₁ cs rs e

  -- "The list starts from the sheet of an accepted opening."
  pub record Reached (d : Code) (n : ℕ) (sizes : List ℕ) (cs : List Call) (s : Inventory) : Type 0 where
    pub accepted : (open_step d n sizes).number ≡ 0
    pub replies : List Reply
    pub run : Run (open_step d n sizes).next cs replies s

  -- what "opening and accepted calls" could have given
  abbrev pub Given : Inventory → Type 0
  Given s = (d : Code) × (n : ℕ) × (sizes : List ℕ) × (cs : List Call) × Reached d n sizes cs s

  abbrev pub AnsweredFor : Type 0
  AnsweredFor = (s : Inventory) (cs : List Call) → (rs : List Reply) × (e : Inventory) × Run s cs rs e

  abbrev pub ExactlyGivenFor : Type 0
  ExactlyGivenFor =
      (s : Inventory) → Words s.files → Words s.volumes → Words s.nonempty → Words s.quarantined → (is_inventory s ≡ true) ↔ Given s

  -- ---- the condition

  pub record Condition (d : Code) (n : ℕ) (size : ℕ → ℕ) (o : Inventory) (cs : List Call) (rs : List Reply) (s : Inventory) : Type 0 where
    -- "each answer, and each byte of the room lent to an ask, is the one that the outline's tally gives"
    pub replies : GivesAll rules (opened d n size) cs rs
    -- "After the list, the sheet answers every further call as a new sheet of the same sizes told only what is in hand now,
    -- in whatever order": "a new sheet told what is in hand and what is set aside, and that is condition 3's new sheet"
    pub afterwards : (tells : List Call) → TellsExactly (after (opened d n size) cs) tells
        → (rt : List Reply) (s' : Inventory) → Run o tells rt s'
        → (more : List Call) (r r' : List Reply) (e e' : Inventory) → Run s more r e → Run s' more r' e' → r ≡ r'
    -- "A file not in hand, asked about with room for the recipe, is called rebuildable exactly when every two sets of contents
    -- with the listed sizes, alike in the files in hand and in the parity of the volumes in hand, are alike in that file": the parity by the
    -- rule of the opening's code
    pub exactly : (f : ℕ) → is_file n f ≡ true → (after (opened d n size) cs).files f ≡ false
        → (room : List ℕ) → 255 ≤ length room → (number : ℕ) (room' : List ℕ) (e : Inventory) → Step s (query f room) (queried number room') e
        → (number ≡ 0) ↔ Recoverable (rules d) (after (opened d n size) cs) f
    -- "If the pieces come from one set, following the sheet's recipe gives that file's bytes in it."
    pub follows : (f : ℕ) → is_file n f ≡ true → (after (opened d n size) cs).files f ≡ false
        → (room room' : List ℕ) (e : Inventory) → Step s (query f room) (queried 0 room') e
        → (X : Contents) → IsContents (after (opened d n size) cs) X
        → (fragment : ℕ → List ℕ) → ComeFrom (rules d) (after (opened d n size) cs) X fragment
        → (ks : List ℕ) → Once (present (after (opened d n size) cs)) ks
        → mul_add_all (place (take 255 room')) fragment ks (replicate (size f) 0) ≡ X f

  -- "For every list of calls on it from there (noting or withdrawing a file, noting or withdrawing a volume, counting, asking;
  -- refused ones too)"; "Condition 3's list of calls holds setting aside and taking back too"
  abbrev pub ConditionFor : Type 0
  ConditionFor =
      (d : Code) (n : ℕ) (sizes : List ℕ) → (open_step d n sizes).number ≡ 0
      → (cs : List Call) (rs : List Reply) (s : Inventory) → Run (open_step d n sizes).next cs rs s
      → Condition d n (size_in sizes) (open_step d n sizes).next cs rs s

  -- ---- quarantine and release

  -- where quarantine is accepted, so is removal in its stead
  abbrev pub QuarantineAsRemovalFor : Type 0
  QuarantineAsRemovalFor =
      (s : Inventory) → Given s
      → (v : ℕ) (more : List Call) → ((c : Call) → Memᴰ c more → Elsewhere v c)
      → (k : ℕ) (r r' : List Reply) (e e' : Inventory)
      → Run s (change quarantine v ∷ more) (numbered 0 ∷ r) e → Run s (change remove_volume v ∷ more) (numbered k ∷ r') e'
      → (k ≡ 0) × AllAgree more r r'

  -- where release is accepted, so are removal and then addition in its stead: after removal it was "neither in hand nor set aside"
  abbrev pub ReleaseAsAddingFor : Type 0
  ReleaseAsAddingFor =
      (s : Inventory) → Given s
      → (v : ℕ) (more : List Call) (j k : ℕ) (r r' : List Reply) (e e' : Inventory)
      → Run s (change release v ∷ more) (numbered 0 ∷ r) e
      → Run s (change remove_volume v ∷ change (add_volume s.code) v ∷ more) (numbered j ∷ numbered k ∷ r') e'
      → (j ≡ 0) × (k ≡ 0) × (r ≡ r')

  -- counts before and after an accepted quarantine, an accepted release, and removal of what is quarantined by the model
  abbrev pub QuarantineCountedFor : Type 0
  QuarantineCountedFor =
      (d : Code) (n : ℕ) (sizes : List ℕ) (cs : List Call) (s : Inventory) → Reached d n sizes cs s
      → (v : ℕ) (r r' : Reply) (e : Inventory)
      → (Run s (count ∷ change quarantine v ∷ count ∷ []) (r ∷ numbered 0 ∷ r' ∷ []) e → OneAside r r')
      × (Run s (count ∷ change release v ∷ count ∷ []) (r ∷ numbered 0 ∷ r' ∷ []) e → OneAside r' r)
      × ((state_after d n sizes cs).quarantined v ≡ true
      → (a : Reply) → Run s (count ∷ change remove_volume v ∷ count ∷ []) (r ∷ a ∷ r' ∷ []) e → (a ≡ numbered 0) × OneGone r r')

  -- a volume that is set aside is noted, and set aside again; one that is withdrawn is set aside, and taken back; one that is set aside is
  -- taken back, and again; or withdrawn, and again
  abbrev pub QuarantineRefusalsFor : Type 0
  QuarantineRefusalsFor =
      (s : Inventory) → Given s
      → (v : ℕ) (r r' : Reply) (e : Inventory)
      → (Run s (change quarantine v ∷ change (add_volume s.code) v ∷ change quarantine v ∷ []) (numbered 0 ∷ r ∷ r' ∷ []) e
      → (r ≡ numbered 27) × (r' ≡ numbered 11))
      × (Run s (change remove_volume v ∷ change quarantine v ∷ change release v ∷ []) (numbered 0 ∷ r ∷ r' ∷ []) e
      → (r ≡ numbered 11) × (r' ≡ numbered 11))
      × (Run s (change quarantine v ∷ change release v ∷ change release v ∷ []) (numbered 0 ∷ r ∷ r' ∷ []) e
      → (r ≡ numbered 0) × (r' ≡ numbered 11))
      × (Run s (change quarantine v ∷ change remove_volume v ∷ change remove_volume v ∷ []) (numbered 0 ∷ r ∷ r' ∷ []) e
      → (r ≡ numbered 0) × (r' ≡ numbered 11))

  -- ---- numbers out of range

  -- by the number of files of the opening; whatever is in hand or set aside
  abbrev pub RangeRefusedFor : Type 0
  RangeRefusedFor =
      (d : Code) (n : ℕ) (sizes : List ℕ) (cs : List Call) (s : Inventory) → Reached d n sizes cs s
      → (c : Call) (k : ℕ) (values : List ℕ) (e : Inventory) → Step s c (reply k values) e → (k ≡ 10) ↔ OutOfRange n c

  -- ---- the other code

  -- by the code and the number of files of the opening; whatever is in hand or set aside
  abbrev pub OtherCodeRefusedFor : Type 0
  OtherCodeRefusedFor =
      (d : Code) (n : ℕ) (sizes : List ℕ) (cs : List Call) (s : Inventory) → Reached d n sizes cs s
      → (c : Call) (k : ℕ) (values : List ℕ) (e : Inventory) → Step s c (reply k values) e → (k ≡ 29) ↔ AddsOther d n c

  -- ---- every refusal of a change

  -- by the model's state after the list; and a change of which none of the tests holds is accepted
  abbrev pub ChangeRefusedFor : Type 0
  ChangeRefusedFor =
      (d : Code) (n : ℕ) (sizes : List ℕ) (cs : List Call) (s : Inventory) → Reached d n sizes cs s
      → (c : Change) (j k : ℕ) (e : Inventory) → Step s (change c j) (numbered k) e
      → (k ≢ 0 → First (ChangeFails (state_after d n sizes cs) c j) (10 ∷ 29 ∷ 27 ∷ 11 ∷ []) k)
      × ((m : ℕ) → First (ChangeFails (state_after d n sizes cs) c j) (10 ∷ 29 ∷ 27 ∷ 11 ∷ []) m → k ≡ m)

-- ---- the claims

-- "condition 3 is shown once over the factor rule": whatever coefficients the codes have, so long as those of files are bytes
-- proved: proofs/Condition.antt, `condition_for`
abbrev pub ConditionOverRules : Type 0
ConditionOverRules =
    (rules : Code → ℕ → ℕ → ℕ) → ((c : Code) (f v : ℕ) → f < 256 → rules c f v < 256) → ConditionFor rules

-- proved: proofs/Condition.antt, `condition`
abbrev pub Condition3 : Type 0
Condition3 = ConditionFor rule_of

-- what Condition3 speaks of is there: the runs
-- proved: proofs/Answered.antt, `answered`
abbrev pub Answered : Type 0
Answered = AnsweredFor rule_of

-- and the calls that tell what is present and what is quarantined
-- proved: proofs/Told.antt, `retold`
abbrev pub Retold : Type 0
Retold = (d : Code) (n : ℕ) (size : ℕ → ℕ) (cs : List Call) → (tells : List Call) × TellsExactly (after (opened d n size) cs) tells

-- "setting aside counts as withdrawal for every answer of condition 3 and for the count"
-- proved: proofs/Quarantine.antt, `quarantine_as_removal`
abbrev pub QuarantineAsRemoval : Type 0
QuarantineAsRemoval = QuarantineAsRemovalFor rule_of

-- "taking it back counts as noting"; "Withdrawing a set-aside volume is accepted and removes it: it is then neither in hand nor set aside."
-- proved: proofs/Quarantine.antt, `release_as_adding`
abbrev pub ReleaseAsAdding : Type 0
ReleaseAsAdding = ReleaseAsAddingFor rule_of

-- "The sheet also counts those set aside."; "setting aside counts as withdrawal .. for the count", "taking it back counts as noting"; "Withdrawing a
-- set-aside volume is accepted and removes it"
-- proved: proofs/QuarantineCounts.antt, `quarantine_counted`
abbrev pub QuarantineCounted : Type 0
QuarantineCounted = QuarantineCountedFor rule_of

-- "27 noted while set aside; 11 for setting aside what is not in hand, or taking back what is not set aside"; "Withdrawing a set-aside volume is
-- accepted and removes it"
-- proved: proofs/Quarantine.antt, `quarantine_refusals`
abbrev pub QuarantineRefusals : Type 0
QuarantineRefusals = QuarantineRefusalsFor rule_of

-- "A sheet needs n from 1 to 254 and one size each (10), each at most 16,777,216 (1)."; one of the four holds of any numbers
-- proved: proofs/Openings.antt, `opening-numbers`
pub record OpeningNumbers : Type 0 where
  pub out_of_range : (d : Code) (n : ℕ) (sizes : List ℕ) → Outside 254 n → (open_step d n sizes).number ≡ 10
  pub miscounted : (d : Code) (n : ℕ) (sizes : List ℕ) → length sizes ≢ n → (open_step d n sizes).number ≡ 10
  pub too_large : (d : Code) (n : ℕ) (sizes : List ℕ) → 1 ≤ n → n ≤ 254 → length sizes ≡ n
      → (i : ℕ) → i < n → 16777216 < get_or sizes i 0 → (open_step d n sizes).number ≡ 1
  pub accepted : (d : Code) (n : ℕ) (sizes : List ℕ) → 1 ≤ n → n ≤ 254 → length sizes ≡ n
      → ((i : ℕ) → i < n → get_or sizes i 0 ≤ 16777216) → (open_step d n sizes).number ≡ 0

-- "10 if f is not 1 to n", "Volume v: the same, with 1 to 255 - n for its range"; "number checks first"; an inventory that takes numbers out of
-- range, or that tests another thing first, is excluded
-- proved: proofs/RangeRefusals.antt, `range_refused`
abbrev pub RangeRefused : Type 0
RangeRefused = RangeRefusedFor rule_of

-- "29 a volume of the other code noted, after 10, before 27 and 11"; an inventory that takes volumes of both codes, or that forgets its code, is
-- excluded
-- proved: proofs/OtherCode.antt, `other_code_refused`
abbrev pub OtherCodeRefused : Type 0
OtherCodeRefused = OtherCodeRefusedFor rule_of

-- proved: proofs/ChangeRefusals.antt, `change_refused`
abbrev pub ChangeRefused : Type 0
ChangeRefused = ChangeRefusedFor rule_of

-- proved: proofs/Calls.antt, `one_reply`
abbrev pub OneReply : Type 0
OneReply =
    (t : State) → t.n ≤ 254
    → (cs : List Call) (r r' : List Reply) → GivesAll rule_of t cs r → GivesAll rule_of t cs r' → r ≡ r'

-- proved: proofs/Determined.antt, `one_answer`
abbrev pub OneAnswer : Type 0
OneAnswer =
    (s : Inventory) (f : ℕ) (room : List ℕ) (r r' : Answer) (a b : List ℕ)
    → Queried rule_of s f room r a → Queried rule_of s f room r' b → (r ≡ r') × (a ≡ b)

-- proved: proofs/Determined.antt, `one_count`
abbrev pub OneCount : Type 0
OneCount = (s : Inventory) (r r' : Counted) → count_reply r ≡ count_step s → count_reply r' ≡ count_step s → r ≡ r'

-- of an inventory whose sets are words, as those of each call are; so an opening that refuses all is excluded
-- proved: proofs/Reachable.antt, `exactly_given`
abbrev pub ExactlyGiven : Type 0
ExactlyGiven = ExactlyGivenFor rule_of

-- "Every call refuses with 10, first of all, a sheet that opening and accepted calls could not have given."
-- proved: proofs/RefusedCalls.antt, `others_refused`
abbrev pub OthersRefused : Type 0
OthersRefused =
    (s : Inventory) → is_inventory s ≡ false
    → (c : Call) (r : Reply) (s₁ : Inventory) → Step rule_of s c r s₁ → (r ≡ reply 10 (room_of c)) × (s₁ ≡ s)

-- "every part of it is 0, and every call refuses that sheet with 10"
-- proved: proofs/RefusedCalls.antt, `zeros-refused`
abbrev pub ZerosRefused : Type 0
ZerosRefused = (c : Call) (r : Reply) (s₁ : Inventory) → Step rule_of zeros c r s₁ → (r ≡ reply 10 (room_of c)) × (s₁ ≡ zeros)

-- ---- the recoverable files at once (document 02, 2026-11)

-- proved: proofs/RecoverableAnswers.antt, `one_set`
abbrev pub OneSet : Type 0
OneSet = (s : Inventory) (r r' : RecoverableFiles) → RecoverableSet rule_of s r → RecoverableSet rule_of s r' → r ≡ r'

-- "the file numbers that are rebuildable now"; a set that is always empty, or that has a file in hand, is excluded
-- proved: proofs/RecoverableAnswers.antt, `recoverable_after`
abbrev pub RecoverableAfter : Type 0
RecoverableAfter =
    (d : Code) (n : ℕ) (sizes : List ℕ) (cs : List Call) (s : Inventory) → Reached rule_of d n sizes cs s
    → (r : RecoverableFiles) → RecoverableSet rule_of s r
    → (f : ℕ) → (member r.files f ≡ true) ↔ RecoverableNow (rule_of d) (state_after d n sizes cs) f

-- of any inventory, with room for the weights
-- proved: proofs/RecoverableAnswers.antt, `as_queried`
abbrev pub RecoverableAsQueried : Type 0
RecoverableAsQueried =
    (s : Inventory) (r : RecoverableFiles) → RecoverableSet rule_of s r
    → (f : ℕ) (room : List ℕ) → 255 ≤ length room → (a : Answer) (room' : List ℕ) → Queried rule_of s f room a room'
    → (member r.files f ≡ true) ↔ (answer_number a ≡ 0)
