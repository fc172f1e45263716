-- Written volumes.
--
--   length_body, length_head, length_volume     the lengths of the parts of a volume
--   VolumePassed, volume_passed     what the tests of writing a volume before 14, passed, tell
--   volume_none     and the tests pass where that holds
--   volume_within   which refusals writing gives
--   volume_refused, volume_short, volume_over     what writing gives: refused by them, refused with 14, and body and head stored
-- A test of document 01 is passed where it does not hold.
-- Assumes nothing.
use Rattle.std.specs.Prelude.{Ok, Err}
use mathlib.Core.Path.{◌≡◌, refl, sym, ap, ap₂, ◌∙◌}
use mathlib.Core.Bool.{Bool, true}
use mathlib.Core.List.{List, ◌++◌, append_assoc, flatten}
use Prim.Native.Nat.{ℕ, ◌+◌, ◌-◌, ◌/◌, ◌≤◌, ◌<◌}
use native.Mathlib.Omega.{arith}
use lib.ListN.{length, take, drop, length-append}
use lib.Seq.{sets, sets-eq, length-sets, drop_at, length-take-le}
use Rattle.lent_bytes.specs.Writing.{with_refusal}
use Rattle.lent_bytes.proofs.StoreLaws.{sets_over}
use Rattle.lent_bytes.proofs.WritingLaws.{written_fits, written_short, unless_none, unless_refused, unless_within}
use Rattle.little_endian.proofs.Numbers.{length-to_le}
use Rattle.little_endian.proofs.NumberLists.{length-numbers}
use Rattle.little_endian.proofs.Stores.{part_sets}
use Rattle.codes.specs.declared.Code.{Code}
use Rattle.entries.specs.Walk.{entries_of, walk_of}
use Rattle.entries.specs.declared.Totals.{Totals}
use Rattle.entries.specs.Walk.{Walked}
use Rattle.entries.proofs.WalkLaws.{walk_refused}
use Rattle.par1_rules.specs.Rules.{length_allowed, number_allowed, data_allowed}
use Rattle.par1_write.specs.VolumeWriting.{body_bytes, head_bytes, volume_bytes, volume_refusal, walk_refusal, write_volume_of}
use Rattle.par1_rules.proofs.HashLaws.{length-md5, length-set_hash}
use Rattle.refusals.specs.Tests.{bare, test}
use Rattle.refusals.specs.declared.Refusal.{Refusal}
use Rattle.refusals.proofs.RangeLaws.{Within, test_most, bare-within}
use Rattle.refusals.proofs.TestLaws.{test_passed}
use Rattle.par1_rules.proofs.RuleLaws.{Between, between, long_enough}

-- ---- lengths

length_body : (n number : ℕ) (list «data» : List ℕ) → length (body_bytes n number list «data») ≡ 64 + length list + length «data»
unfolding body_bytes flatten
length_body n number list «data» = simp (length-append, length-set_hash, length-numbers) (omega arith)

pub length_head : (c : Code) (program : ℕ) (body : List ℕ) → length (head_bytes c program body) ≡ 32
unfolding head_bytes flatten
length_head c program body = simp (length-append, length-to_le, length-md5)

pub length_volume : (c : Code) (program number : ℕ) (list «data» : List ℕ) → length (volume_bytes c program number list «data») ≡ 96 + length list + length «data»
unfolding volume_bytes
length_volume c program number list «data» = simp (length-append, length_head, length_body) (omega arith)

-- ---- the tests

pub record VolumePassed (number : ℕ) (t : Totals) (list-len data-len : ℕ) : Type 0 where
  pub number_right : number_allowed number t.saved ≡ true
  pub data_right : data_allowed number t.greatest data-len ≡ true
  pub size : Between (96 + list-len + data-len)

pub volume_passed : (number : ℕ) (t : Totals) (list-len data-len : ℕ) → volume_refusal number t list-len data-len ≡ 0 → VolumePassed number t list-len data-len
unfolding volume_refusal
volume_passed number t list-len data-len e = let seven = test_passed 7 (number_allowed number t.saved) _ (omega arith) e in
    let nine = test_passed 9 (data_allowed number t.greatest data-len) _ (omega arith) seven.1 in
    let one = test_passed 1 (length_allowed (96 + list-len + data-len)) _ (omega arith) nine.1 in
    record { number_right = seven.0; data_right = nine.0; size = between _ one.0 }

pub volume_none : (number : ℕ) (t : Totals) (list-len data-len : ℕ) → VolumePassed number t list-len data-len → volume_refusal number t list-len data-len ≡ 0
unfolding volume_refusal
volume_none number t list-len data-len p = simp (p.number_right, p.data_right, long_enough (96 + list-len + data-len) p.size.low p.size.high)

volume_most : (number : ℕ) (t : Totals) (list-len data-len : ℕ) → volume_refusal number t list-len data-len ≤ 19
unfolding volume_refusal
volume_most number t list-len data-len =
    by (number_allowed number t.saved) (data_allowed number t.greatest data-len) (length_allowed (96 + list-len + data-len))
  where
    by : (a b c : Bool) → test 7 a (test 9 b (test 1 c 0)) ≤ 19
    by a b c =
        test_most 7 a (test 9 b (test 1 c 0)) (omega arith)
        (test_most 9 b (test 1 c 0) (omega arith) (test_most 1 c 0 (omega arith) (omega arith)))

walk_within : (number : ℕ) (list : List ℕ) (data-len : ℕ) (w : Walked) → walk_of list ≡ w
    → Within (length list / 58 + 1) (walk_refusal number w (length list) data-len)
walk_within number list data-len (Ok t) e = bare-within (length list / 58 + 1) _ (volume_most number t (length list) data-len)
walk_within number list data-len (Err r) e =
    let told = walk_refused list e in record { number_most = omega (arith, told.high); place_most = told.place_most }

-- a number of at most 19, and the place of an entry of 58 bytes or more in the list
pub volume_within : (c : Code) (program number : ℕ) (list «data» out : List ℕ)
    → Within (length list / 58 + 1) (with_refusal (write_volume_of c program number list «data» out)).0
unfolding write_volume_of
volume_within c program number list «data» out =
    unless_within (length list / 58 + 1) (walk_refusal number (walk_of list) (length list) (length «data»)) (volume_bytes c program number list «data») out
    (walk_within number list (length «data») (walk_of list) refl)

-- ---- what writing gives, from the refusal n that the tests gave

-- the body stored from byte 32 on, then the head with the hash of it
two_steps : (c : Code) (program : ℕ) (body out : List ℕ) {total : ℕ} {t u : List ℕ} → total ≡ 32 + length body → total ≤ length out
    → t ≡ sets out 32 body → u ≡ sets t 0 (head_bytes c program (take (total - 32) (drop 32 t)))
    → u ≡ head_bytes c program body ++ body ++ drop total out
two_steps c program body out {total} {t} {u} size fits wrote headed = let n : total - 32 ≡ length body = omega arith in
    let rest : List ℕ = drop (32 + length body) out in
    let hashed : take (total - 32) (drop 32 t) ≡ body =
    ap₂ (λ (k : ℕ) (l : List ℕ). take k (drop 32 l)) n wrote ∙ part_sets out 32 body (omega arith) in
    let split : t ≡ take 32 out ++ (body ++ rest) = wrote ∙ sets-eq body out 32 (omega arith) ∙ append_assoc (take 32 out) body rest in
    let after : drop 32 t ≡ body ++ rest = ap (drop 32) split ∙ drop_at (take 32 out) (body ++ rest) 32 (length-take-le 32 out (omega arith)) in
    let head : List ℕ = head_bytes c program body in
    let h : length head ≡ 32 = length_head c program body in
    let kept : length t ≡ length out = ap length wrote ∙ length-sets out 32 body in
    headed ∙ ap (λ (b : List ℕ). sets t 0 (head_bytes c program b)) hashed ∙ sets_over t head (omega arith)
    ∙ ap (λ (k : ℕ). head ++ drop k t) h ∙ ap (λ (l : List ℕ). head ++ l) after ∙ sym (append_assoc head body rest)
    ∙ ap (λ (k : ℕ). head ++ body ++ drop k out) (sym size)

module _ (c : Code) (program number : ℕ) (list «data» out : List ℕ) {n : Refusal} {w : Walked} (walked : w ≡ walk_of list)
    (e : n ≡ walk_refusal number w (length list) (length «data»)) where
  told : n ≡ walk_refusal number (walk_of list) (length list) (length «data»)
  told = e ∙ ap (λ (w : Walked). walk_refusal number w (length list) (length «data»)) walked

  pub volume_refused : (n.number ≡ 0 → ⊥) → (Err n, out) ≡ write_volume_of c program number list «data» out
  unfolding write_volume_of
  volume_refused h = unless_refused (volume_bytes c program number list «data») out told h refl

  pub volume_short : {r : Refusal} → r ≡ bare 14 → n.number ≡ 0 → length out < 96 + length list + length «data»
      → (Err r, out) ≡ write_volume_of c program number list «data» out
  unfolding write_volume_of
  volume_short is z h = let s : List ℕ = volume_bytes c program number list «data» in
      rw is (unless_none s out told z (written_short s out (omega (arith, length_volume c program number list «data»))))

  pub volume_over : {k : ℕ} {t u : List ℕ} → n.number ≡ 0 → 96 + length list + length «data» ≤ length out → k ≡ length (entries_of list).pieces
      → t ≡ sets out 32 (body_bytes k number list «data»)
      → u ≡ sets t 0 (head_bytes c program (take (96 + length list + length «data» - 32) (drop 32 t)))
      → (Ok (96 + length list + length «data»), u) ≡ write_volume_of c program number list «data» out
  unfolding write_volume_of volume_bytes
  volume_over z h count wrote headed = let k : ℕ = length (entries_of list).pieces in
      let body : List ℕ = body_bytes k number list «data» in
      let s : List ℕ = head_bytes c program body ++ body in
      let size : 96 + length list + length «data» ≡ length s = sym (length_volume c program number list «data») in
      let total : 96 + length list + length «data» ≡ 32 + length body = omega (arith, length_body k number list «data») in
      let over = two_steps c program body out total h (wrote ∙ ap (λ (j : ℕ). sets out 32 (body_bytes j number list «data»)) count) headed in
      unless_none s out told z (written_fits s out (omega arith) size (over ∙ ap (λ (j : ℕ). s ++ drop j out) size))
