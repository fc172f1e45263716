-- What the writes of an amendment make of a room that is parts, one after another.
--
--   summed_part      old and new bytes added within one part
--   plan_with         the plan for such a room
--   written_parts    all writes: of a volume with the numbers m and the list l ++ e ++ r they make the one with the entry d for e
-- Assumes nothing.
use mathlib.Core.Path.{◌≡◌, refl, sym, ap, ap₂, ◌∙◌}
use mathlib.Core.List.{List, [], ◌∷◌, ◌++◌, append_assoc, append-nil, flatten}
use Prim.Native.Nat.{ℕ, ◌+◌, ◌-◌, ◌≤◌}
use native.Mathlib.Omega.{arith}
use lib.ListN.{length, take, drop, replicate, length-append, length-drop, length-replicate}
use lib.Seq.{sets, take_at, drop_at, take-append-add, drop-append-add, take-append-le, drop-append-le}
use Rattle.little_endian.specs.Bytes.{to_le}
use Rattle.little_endian.proofs.Numbers.{length-to_le}
use Rattle.lent_bytes.proofs.PartsInRow.{flatten-append, take_parts, drop_parts, join_parts, store_part}
use Rattle.md5_digest.specs.Digest.{md5}
use Rattle.mul_add.specs.MulAdd.{mul_add}
use Rattle.entries.specs.Walk.{entries_of}
use Rattle.parity.proofs.Changes.{stretched, length_stretched}
use Rattle.par1_rules.specs.Hashes.{set_hash}
use Rattle.par1_rules.proofs.HashLaws.{length-md5, length-set_hash}
use Rattle.amending.specs.Plan.{cleared, summed, hashed_set, controlled, patched}
use Rattle.amending.specs.declared.planning.Plan.{Plan}

-- ---- a stretch of a part

summed_part : (w place : ℕ) (old new x z r : List ℕ) → place ≤ length z
    → summed w (length x + place) (length x + length z) old new (x ++ (z ++ r)) ≡ x ++ (stretched w place old new z ++ r)
summed_part w place old new x z r h = let t : List ℕ = x ++ (z ++ r) in
    let n : ℕ = length x + place in
    let m : ℕ = length x + length z in
    let left : m - n ≡ length (drop place z) = omega (arith, length-drop place z) in
    let front : take n t ≡ x ++ take place z = take-append-add x (z ++ r) place ∙ ap (λ (l : List ℕ). x ++ l) (take-append-le place z r h) in
    let from : drop n t ≡ drop place z ++ r = drop-append-add x (z ++ r) place ∙ drop-append-le place z r h in
    let part : take (m - n) (drop n t) ≡ drop place z = ap (take (m - n)) from ∙ take_at (drop place z) r (m - n) (sym left) in
    let rest : drop m t ≡ r = drop-append-add x (z ++ r) (length z) ∙ drop_at z r (length z) refl in
    let sum : List ℕ = mul_add w new (mul_add w old (drop place z)) in
    ap₂ (λ (a b : List ℕ). a ++ (mul_add w new (mul_add w old b) ++ drop m t)) front part
    ∙ ap (λ (l : List ℕ). (x ++ take place z) ++ (sum ++ l)) rest
    ∙ append_assoc x (take place z) (sum ++ r) ∙ ap (λ (l : List ℕ). x ++ l) (sym (append_assoc (take place z) sum r))

-- ---- all writes

cons_joined : (x p : List ℕ) (qs : List (List ℕ)) → x ++ flatten (p ∷ qs) ≡ x ++ (p ++ flatten qs)
unfolding flatten
cons_joined x p qs = refl

length_seven : (p q o l d r y : List ℕ)
    → length (flatten (p ∷ q ∷ o ∷ l ∷ d ∷ r ∷ y ∷ [])) ≡ length p + (length q + (length o + (length (flatten (l ∷ d ∷ r ∷ [])) + length y)))
unfolding flatten
length_seven p q o l d r y = simp length-append (omega arith)

nested : (a h b r : List ℕ) → a ++ (h ++ (b ++ (r ++ []))) ≡ (a ++ (h ++ (b ++ []))) ++ r
nested a h b r = simp (append_assoc, append-nil)

all_joined : (a h : List ℕ) (ps : List (List ℕ)) (r : List ℕ) → flatten (a ∷ h ∷ (ps ++ (r ∷ []))) ≡ flatten (a ∷ h ∷ flatten ps ∷ []) ++ r
unfolding flatten
all_joined a h ps r = ap (λ (l : List ℕ). a ++ (h ++ l)) (flatten-append ps (r ∷ [])) ∙ nested a h (flatten ps) r

-- what the plan says of a room with n bytes of list, of which i stand before the entry, and k bytes of data
abbrev pub plan_with : ℕ → ℕ → ℕ → ℕ → ℕ → Plan
plan_with i place w n k = record {
  entry_at = 96 + i;
  list_size = n;
  data_size = k;
  stretch_at = 96 + n + place;
  weight = w;
  total = 96 + n + k;
}

module _ (a c s m z l e r area tail rest d old new : List ℕ) (w place : ℕ) (ha : length a ≡ 16) (hc : length c ≡ 16) (hs : length s ≡ 16)
    (hm : length m ≡ 40) (hz : length z ≡ 8) (hd : length d ≡ length e) (inside : place ≤ length area + length tail) where
  abbrev zeroed : List ℕ
  zeroed = area ++ replicate (length tail) 0

  abbrev list : List ℕ
  list = flatten (l ∷ d ∷ r ∷ [])

  abbrev plan : Plan
  plan = plan_with (length l) place w (length list) (length area + length tail)

  abbrev size : List ℕ
  size = to_le 8 (length area + length tail)

  abbrev amended_parts : List (List ℕ)
  amended_parts = set_hash (entries_of list).pieces ∷ m ∷ size ∷ l ∷ d ∷ r ∷ stretched w place old new zeroed ∷ []

  length_front : length (flatten (a ∷ c ∷ s ∷ m ∷ z ∷ l ∷ e ∷ r ∷ [])) ≡ 96 + length list
  unfolding flatten
  length_front = simp (length-append, ha, hc, hs, hm, hz, hd) (omega arith)

  length_zeroed : length zeroed ≡ length area + length tail
  length_zeroed = length-append area (replicate (length tail) 0) ∙ ap (λ (n : ℕ). length area + n) (length-replicate (length tail) 0)

  -- the tail
  after_clear : cleared (96 + length list + length area) plan.total (flatten (a ∷ c ∷ s ∷ m ∷ z ∷ l ∷ e ∷ r ∷ area ∷ tail ∷ rest ∷ []))
      ≡ flatten (a ∷ c ∷ s ∷ m ∷ z ∷ l ∷ e ∷ r ∷ zeroed ∷ rest ∷ [])
  unfolding flatten
  after_clear = let t : List ℕ = flatten (a ∷ c ∷ s ∷ m ∷ z ∷ l ∷ e ∷ r ∷ area ∷ tail ∷ rest ∷ []) in
      let n : ℕ = 96 + length list + length area in
      let left : plan.total - n ≡ length tail = omega arith in
      let zeros : List ℕ = replicate (length tail) 0 in
      let front : length (flatten (a ∷ c ∷ s ∷ m ∷ z ∷ l ∷ e ∷ r ∷ area ∷ [])) ≡ n = simp (length-append, ha, hc, hs, hm, hz, hd) (omega arith) in
      ap (λ (k : ℕ). sets t n (replicate k 0)) left
      ∙ store_part (a ∷ c ∷ s ∷ m ∷ z ∷ l ∷ e ∷ r ∷ area ∷ []) tail zeros (rest ∷ []) n front (length-replicate (length tail) 0)
      ∙ join_parts (a ∷ c ∷ s ∷ m ∷ z ∷ l ∷ e ∷ r ∷ []) area zeros (rest ∷ [])

  -- the stretch
  after-sum : summed w plan.stretch_at plan.total old new (flatten (a ∷ c ∷ s ∷ m ∷ z ∷ l ∷ e ∷ r ∷ zeroed ∷ rest ∷ []))
      ≡ flatten (a ∷ c ∷ s ∷ m ∷ z ∷ l ∷ e ∷ r ∷ stretched w place old new zeroed ∷ rest ∷ [])
  after-sum = let front : List (List ℕ) = a ∷ c ∷ s ∷ m ∷ z ∷ l ∷ e ∷ r ∷ [] in
      let x : List ℕ = flatten front in
      let from : plan.stretch_at ≡ length x + place = omega (arith, length_front) in
      let to : plan.total ≡ length x + length zeroed = omega (arith, length_front, length_zeroed) in
      let t : List ℕ = x ++ (zeroed ++ flatten (rest ∷ [])) in
      ap (summed w plan.stretch_at plan.total old new) (flatten-append front (zeroed ∷ rest ∷ []) ∙ cons_joined x zeroed (rest ∷ []))
      ∙ ap₂ (λ (n k : ℕ). summed w n k old new t) from to
      ∙ summed_part w place old new x zeroed (flatten (rest ∷ [])) (omega (arith, length_zeroed))
      ∙ sym (cons_joined x (stretched w place old new zeroed) (rest ∷ [])) ∙ sym (flatten-append front (stretched w place old new zeroed ∷ rest ∷ []))

  -- the entry and the data size
  after-entry : (y : List ℕ)
      → sets (sets (flatten (a ∷ c ∷ s ∷ m ∷ z ∷ l ∷ e ∷ r ∷ y ∷ rest ∷ [])) (96 + length l) d) 88 size
      ≡ flatten (a ∷ c ∷ s ∷ m ∷ size ∷ l ∷ d ∷ r ∷ y ∷ rest ∷ [])
  unfolding flatten
  after-entry y = let six : length (flatten (a ∷ c ∷ s ∷ m ∷ z ∷ l ∷ [])) ≡ 96 + length l = simp (length-append, ha, hc, hs, hm, hz) (omega arith) in
      let four : length (flatten (a ∷ c ∷ s ∷ m ∷ [])) ≡ 88 = simp (length-append, ha, hc, hs, hm) in
      ap (λ (t : List ℕ). sets t 88 size) (store_part (a ∷ c ∷ s ∷ m ∷ z ∷ l ∷ []) e d (r ∷ y ∷ rest ∷ []) (96 + length l) six hd)
      ∙ store_part (a ∷ c ∷ s ∷ m ∷ []) z size (l ∷ d ∷ r ∷ y ∷ rest ∷ []) 88 four (length-to_le 8 (length area + length tail) ∙ sym hz)

  -- the set hash
  after-set : (y : List ℕ) → hashed_set (length list) (flatten (a ∷ c ∷ s ∷ m ∷ size ∷ l ∷ d ∷ r ∷ y ∷ rest ∷ []))
      ≡ flatten (a ∷ c ∷ set_hash (entries_of list).pieces ∷ m ∷ size ∷ l ∷ d ∷ r ∷ y ∷ rest ∷ [])
  unfolding flatten
  after-set y = let t : List ℕ = flatten (a ∷ c ∷ s ∷ m ∷ size ∷ l ∷ d ∷ r ∷ y ∷ rest ∷ []) in
      let hash : List ℕ = set_hash (entries_of list).pieces in
      let two : length (flatten (a ∷ c ∷ [])) ≡ 32 = simp (length-append, ha, hc) in
      let five : length (flatten (a ∷ c ∷ s ∷ m ∷ size ∷ [])) ≡ 96 = simp (length-append, ha, hc, hs, hm, length-to_le) in
      let part : take (length list) (drop 96 t) ≡ list =
      ap (take (length list)) (drop_parts (a ∷ c ∷ s ∷ m ∷ size ∷ []) (l ∷ d ∷ r ∷ y ∷ rest ∷ []) 96 five)
      ∙ take_parts (l ∷ d ∷ r ∷ []) (y ∷ rest ∷ []) (length list) refl in
      ap (λ (q : List ℕ). sets t 32 (set_hash (entries_of q).pieces)) part
      ∙ store_part (a ∷ c ∷ []) s hash (m ∷ size ∷ l ∷ d ∷ r ∷ y ∷ rest ∷ []) 32 two (length-set_hash (entries_of list).pieces ∙ sym hs)

  length_parts : length (flatten amended_parts) ≡ plan.total - 32
  length_parts = let y : List ℕ = stretched w place old new zeroed in
      let n : length y ≡ length area + length tail = length_stretched w place old new zeroed (omega (arith, length_zeroed)) ∙ length_zeroed in
      let hash = length-set_hash (entries_of list).pieces in
      let number = length-to_le 8 (length area + length tail) in
      length_seven (set_hash (entries_of list).pieces) m size l d r y ∙ omega (arith, n, hm)

  -- the control hash
  after_control : controlled plan.total (flatten (a ∷ c ∷ (amended_parts ++ (rest ∷ []))))
      ≡ flatten (a ∷ md5 (flatten amended_parts) ∷ (amended_parts ++ (rest ∷ [])))
  unfolding flatten
  after_control = let t : List ℕ = flatten (a ∷ c ∷ (amended_parts ++ (rest ∷ []))) in
      let body : List ℕ = flatten amended_parts in
      let one : length (flatten (a ∷ [])) ≡ 16 = simp (length-append, ha) in
      let two : length (flatten (a ∷ c ∷ [])) ≡ 32 = simp (length-append, ha, hc) in
      let part : take (plan.total - 32) (drop 32 t) ≡ body =
      ap (take (plan.total - 32)) (drop_parts (a ∷ c ∷ []) (amended_parts ++ (rest ∷ [])) 32 two)
      ∙ take_parts amended_parts (rest ∷ []) (plan.total - 32) length_parts in
      ap (λ (q : List ℕ). sets t 16 (md5 q)) part
      ∙ store_part (a ∷ []) c (md5 body) (amended_parts ++ (rest ∷ [])) 16 one (length-md5 body ∙ sym hc)

  pub written_parts : patched plan (96 + length list + length area) old new d (flatten (a ∷ c ∷ s ∷ m ∷ z ∷ l ∷ e ∷ r ∷ area ∷ tail ∷ rest ∷ []))
      ≡ flatten (a ∷ md5 (flatten amended_parts) ∷ flatten amended_parts ∷ []) ++ rest
  written_parts = let y : List ℕ = stretched w place old new zeroed in
      let hashed : List ℕ → List ℕ = λ (t : List ℕ). controlled plan.total (hashed_set (length list) t) in
      ap (λ (t : List ℕ). hashed (sets (sets (summed w plan.stretch_at plan.total old new t) (96 + length l) d) 88 size)) after_clear
      ∙ ap (λ (t : List ℕ). hashed (sets (sets t (96 + length l) d) 88 size)) after-sum
      ∙ ap hashed (after-entry y) ∙ ap (controlled plan.total) (after-set y) ∙ after_control
      ∙ all_joined a (md5 (flatten amended_parts)) amended_parts rest
