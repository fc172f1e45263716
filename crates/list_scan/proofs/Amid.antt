-- The scan amid an entry.
--
--   whole p, whole_keeps, keeps_whole    p is an entry, exactly, that keeps every rule; and the same as `Keeps` of `entries`
--   Amid t h p sc       the scan sc is amid an entry of which the bytes p came; t and h are the totals and the hash of the entries before it
--   step_more, step_whole    a byte more: the entry goes on, or is whole
--   fault_is            the rule that the entry breaks, where the list ends amid it
-- Assumes nothing.
use Rattle.std.proofs.Common.{◌≡◌, ℕ, suc, ◌+◌, ◌<◌, ◌≤◌, Bool, true, false, cond, ◌&&◌, eqb, List, [], ◌∷◌, ◌++◌, length, take, drop, set, sym, refl, ap, ◌∙◌, subst, ap₂, arith, length-append, length-drop, length-set, take_all, take-suc-set, eq-eqb, eqb-true}
use mathlib.Core.Bool.{and-false}
use native.Mathlib.Decide.{dec_lt}
use lib.Seq.{take-append-le, set_out}
use Rattle.computed_tests.proofs.Tests.{and_both}
use Rattle.little_endian.specs.Bytes.{le_at}
use Rattle.lent_bytes.proofs.PartLaws.{part_take, number_take}
use Rattle.md5_digest.specs.declared.Md5.{Md5}
use Rattle.entries.specs.Entry.{entry_size, status_of, file_size_of, md5_of, name_of, units_of}
use Rattle.entries.specs.Entry.{name_allowed, file_size_allowed, entry_size_allowed, body_allowed}
use Rattle.entries.specs.Claim.{Keeps}
use Rattle.entries.specs.Walk.{fault_of, add_entry}
use Rattle.entries.specs.declared.Fault.TheVariants.{Size, FileSize, Name}
use Rattle.entries.specs.declared.Totals.{Totals}
use Rattle.entries.proofs.EntryLaws.{sized}
use Rattle.entries.proofs.FirstFaults.{no_sizes}
use Rattle.par1_rules.specs.Hashes.{hash_entry}
use Rattle.list_scan.specs.declared.NameSoFar.{NameSoFar}
use Rattle.list_scan.specs.declared.Scan.{Scan}
use Rattle.list_scan.specs.Name.{name_ended}
use Rattle.list_scan.specs.Scan.{name_byte, is_whole, scan_with, entry_ended, step_of}
use Rattle.list_scan.specs.Found.{fault_at}
use Rattle.list_scan.proofs.NameLaws.{last_or, last_snoc, so_far, name_step, name_end}

-- ---- an entry, exactly

unfoldable pub whole : List ℕ → Bool
whole p = eqb (entry_size p) (length p) && (entry_size_allowed (length p) (length p) && body_allowed p)

module _ {p : List ℕ} where
  pub whole_keeps : whole p ≡ true → Keeps p
  unfolding whole body_allowed
  whole_keeps e =
      let first = and_both (eqb (entry_size p) (length p)) (entry_size_allowed (length p) (length p) && body_allowed p) e in
      let second = and_both (entry_size_allowed (length p) (length p)) (body_allowed p) first.1 in
      let body = and_both (file_size_allowed (file_size_of p)) (name_allowed (name_of p)) second.1 in
      record { fills = eqb-true _ _ first.0; size_right = second.0; file_size_right = body.0; name_right = body.1 }

  pub keeps_whole : Keeps p → whole p ≡ true
  unfolding whole body_allowed
  keeps_whole k = simp (eq-eqb (entry_size p) (length p) k.fills, k.size_right, k.file_size_right, k.name_right)

abbrev snoc : List ℕ → ℕ → List ℕ
snoc p b = p ++ (b ∷ [])

length_snoc : (p : List ℕ) (b : ℕ) → length (snoc p b) ≡ length p + 1
length_snoc p b = length-append p (b ∷ [])

-- ---- the first bytes

-- hd has those of the first 56 bytes of an entry that came, and as many more as make it 56
record HeadOf (hd p : List ℕ) : Type 0 where
  size : length hd ≡ 56
  front : take (length p) hd ≡ take 56 p

head_step : {hd p : List ℕ} (b : ℕ) → HeadOf hd p → HeadOf (set hd (length p) b) (snoc p b)
head_step {hd} {p} b h = record {
  size = length-set hd (length p) b ∙ h.size;
  front = elim (dec_lt (length p) 56) [
    | yes before ↦
        let n : length (snoc p b) ≡ suc (length p) = omega (arith, length_snoc p b) in
        ap (λ (k : ℕ). take k (set hd (length p) b)) n ∙ take-suc-set hd (length p) b (omega (arith, h.size))
        ∙ ap (λ (l : List ℕ). snoc l b) (h.front ∙ take_all 56 p (omega arith)) ∙ sym (take_all 56 (snoc p b) (omega arith))
    | no past ↦
        ap (take (length (snoc p b))) (set_out hd (length p) b (omega (arith, h.size)))
        ∙ take_all (length (snoc p b)) hd (omega (arith, h.size, length_snoc p b))
        ∙ sym (take_all (length p) hd (omega (arith, h.size))) ∙ h.front
        ∙ sym (take-append-le 56 p (b ∷ []) (omega arith))
  ];
}

head_all : {hd p : List ℕ} → HeadOf hd p → 56 ≤ length p → hd ≡ take 56 p
head_all {hd} {p} h past = sym (take_all (length p) hd (omega (arith, h.size))) ∙ h.front

-- a number of an entry whose first bytes all came
number_at : {hd p : List ℕ} (i : ℕ) → HeadOf hd p → 56 ≤ length p → i + 8 ≤ 56 → le_at 8 hd i ≡ le_at 8 p i
number_at {hd} {p} i h past within = ap (λ (l : List ℕ). le_at 8 l i) (head_all h past) ∙ number_take 8 i 56 p within

-- ---- the test whether the entry ends

test_is : {hd p : List ℕ} → HeadOf hd p → is_whole hd (length p) (so_far (name_of p)) ≡ whole p
unfolding is_whole whole body_allowed
test_is {hd} {p} h = by (entry_size_allowed (length p) (length p)) refl
  where
    by : (t : Bool) → entry_size_allowed (length p) (length p) ≡ t → is_whole hd (length p) (so_far (name_of p)) ≡ whole p
    by false t = simp (t, and-false)
    by true t = let z = sized (length p) (length p) t in
        let past : 56 ≤ length p = omega (arith, z.low) in
        let size : le_at 8 hd 0 ≡ le_at 8 p 0 = number_at 0 h past (omega arith) in
        let file_size : le_at 8 hd 16 ≡ le_at 8 p 16 = number_at 16 h past (omega arith) in
        let name : name_ended (so_far (name_of p)) (length p) ≡ name_allowed (name_of p) =
        name_end (name_of p) (length p) (omega (arith, length-drop 56 p, z.low)) (omega (arith, length-drop 56 p, z.low, z.even))
        (omega (arith, length-drop 56 p, z.low)) in
        rw (size, file_size, name)

-- ---- amid an entry

pub record Amid (t : Totals) (h : Md5) (p : List ℕ) (sc : Scan) : Type 0 where
  pub at_is : sc.at ≡ length p
  pub low_is : sc.low ≡ last_or 0 p
  pub named_is : sc.named ≡ so_far (name_of p)
  pub totals_is : sc.totals ≡ t
  pub hash_is : sc.hash ≡ h
  pub head_size : length sc.head ≡ 56
  pub head_is : take (length p) sc.head ≡ take 56 p

head_of : {t : Totals} {h : Md5} {p : List ℕ} {sc : Scan} → Amid t h p sc → HeadOf sc.head p
head_of m = record { size = m.head_size; front = m.head_is }

module _ {t : Totals} {h : Md5} {p : List ℕ} {sc : Scan} (m : Amid t h p sc) (b : ℕ) where
  abbrev after : List ℕ
  after = set sc.head sc.at b

  abbrev named : NameSoFar
  named = name_byte sc.named sc.at sc.low b

  next_at : sc.at + 1 ≡ length (snoc p b)
  next_at = omega (arith, length_snoc p b, m.at_is)

  next_head : HeadOf after (snoc p b)
  next_head = subst (λ (k : ℕ). HeadOf (set sc.head k b) (snoc p b)) (sym m.at_is) (head_step b (head_of m))

  next_named : named ≡ so_far (name_of (snoc p b))
  next_named = cc (name_step p b, m.named_is, m.at_is, m.low_is)

  step_is : {w : Bool} → whole (snoc p b) ≡ w
      → step_of sc b ≡ cond w (entry_ended after sc.totals sc.hash) (scan_with after (sc.at + 1) b named sc.totals sc.hash)
  unfolding step_of
  step_is e = simp (next_at, next_named, test_is next_head, e)

  pub step_more : whole (snoc p b) ≡ false → Amid t h (snoc p b) (step_of sc b)
  step_more e =
      subst (Amid t h (snoc p b)) (sym (step_is e))
      (record {
        at_is = next_at;
        low_is = sym (last_snoc 0 p b);
        named_is = next_named;
        totals_is = m.totals_is;
        hash_is = m.hash_is;
        head_size = next_head.size;
        head_is = next_head.front;
      })

  pub step_whole : whole (snoc p b) ≡ true
      → Amid (add_entry t (status_of (snoc p b)) (file_size_of (snoc p b))) (hash_entry h (status_of (snoc p b)) (md5_of (snoc p b))) [] (step_of sc b)
  unfolding entry_ended units_of
  step_whole e = let q : List ℕ = snoc p b in
      let past : 56 ≤ length q = omega (arith, (sized (length q) (length q) (whole_keeps e).size_right).low) in
      let status : status_of after ≡ status_of q = number_at 8 next_head past (omega arith) in
      let size : file_size_of after ≡ file_size_of q = number_at 16 next_head past (omega arith) in
      let md5 : md5_of after ≡ md5_of q =
      ap (λ (l : List ℕ). take 16 (drop 24 l)) (head_all next_head past) ∙ part_take 24 16 56 q (omega arith) in
      subst (Amid _ _ []) (sym (step_is e))
      (record {
        at_is = refl;
        low_is = refl;
        named_is = refl;
        totals_is = cc (status, size, m.totals_is);
        hash_is =
            ap₂ (λ (k : ℕ) (l : List ℕ). hash_entry sc.hash k l) status md5
            ∙ ap (λ (g : Md5). hash_entry g (status_of q) (md5_of q)) m.hash_is;
        head_size = next_head.size;
        head_is = refl;
      })

-- ---- the rule that it breaks, where the list ends amid it

fault_long : (p : List ℕ) → 58 ≤ length p → fault_at (take 56 p) (length p) ≡ fault_of p
unfolding fault_at fault_of
fault_long p h = rw (number_take 8 0 56 p (omega arith)) (by (entry_size_allowed (entry_size p) (length p)) refl)
  where
    by : (t : Bool) → entry_size_allowed (entry_size p) (length p) ≡ t
        → cond t (cond (file_size_allowed (file_size_of (take 56 p))) Name FileSize) Size
        ≡ cond t (cond (file_size_allowed (file_size_of (take (entry_size p) p))) Name FileSize) Size
    by false t = refl
    by true t = let low = (sized (entry_size p) (length p) t).low in
        let e : file_size_of (take 56 p) ≡ file_size_of (take (entry_size p) p) =
        number_take 8 16 56 p (omega arith) ∙ sym (number_take 8 16 (entry_size p) p (omega (arith, low))) in
        ap (λ (k : ℕ). cond (file_size_allowed k) Name FileSize) e

fault_short : (hd p : List ℕ) → length p < 58 → fault_at hd (length p) ≡ fault_of p
unfolding fault_at fault_of
fault_short hd p h = simp (no_sizes (entry_size hd) (length p) h, no_sizes (entry_size p) (length p) h)

pub fault_is : {t : Totals} {h : Md5} {p : List ℕ} {sc : Scan} → Amid t h p sc → fault_at sc.head sc.at ≡ fault_of p
fault_is {t} {h} {p} {sc} m =
    ap (fault_at sc.head) m.at_is
    ∙ elim (dec_lt (length p) 58) [
      | yes short ↦ fault_short sc.head p short
      | no long ↦ ap (λ (l : List ℕ). fault_at l (length p)) (head_all (head_of m) (omega arith)) ∙ fault_long p (omega arith)
    ]
