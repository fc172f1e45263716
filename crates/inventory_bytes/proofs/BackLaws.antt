-- Inventories in lent bytes, there and back.
--
--   inventory_of_lem     144 bytes whose code is one are the inventory in their numbers
--   other_length, other_number, other_bytes     others are zeros
--   length_inventory     the bytes of an inventory are 144
--   inventory_placed     where the parts of an inventory stand in its bytes
--   loaded_back    the bytes of an inventory are that inventory
--   stored_back    144 bytes whose code is one are the bytes of the inventory that they are
--   zeros_bytes, refused-zeros     the inventory of a refused opening is 144 zeros
--   opened_zeros         so is the one that `opened` returns with a refusal
-- Assumes nothing.
use mathlib.Core.Path.{◌≡◌, refl, sym, ap, ap₂, ◌∙◌}
use mathlib.Core.Logic.{inl, inr, ◌≢◌}
use mathlib.Core.Bool.{Bool, true, false, cond, ◌&&◌, and-false}
use mathlib.Core.List.{List, [], ◌∷◌, ◌++◌, append-nil, append_assoc}
use Prim.Native.Nat.{ℕ, zero, suc, ◌*◌, ◌^◌, ◌<◌}
use native.Mathlib.Nat.{zero-lt-suc}
use native.Mathlib.Omega.{arith}
use lib.ListN.{length, get_or, replicate, length-append}
use lib.Seq.{take_all}
use lib.Dec.{leb, eqb}
use borrow.Author.Tests.{eq-eqb, ne_eqb}
use Rattle.codes.specs.Codes.{is_code, code_of, code_number}
use Rattle.codes.specs.declared.Code.{Code}
use Rattle.codes.proofs.CodeLaws.{back, number_back, number_small, number_code}
use Rattle.std.specs.Prelude.{Err}
use Rattle.refusals.specs.Limits.{max_files}
use Rattle.inventory.specs.Steps.{zeros, handed_back, open_step, refused_opening}
use Rattle.inventory.specs.declared.Inventory.{Inventory}
use Rattle.inventory.specs.declared.Refused.{Refused}
use Rattle.inventory.proofs.Outcomes.{refused_tells}
use Rattle.inventory.proofs.Openings.{refused-next}
use Rattle.little_endian.specs.Bytes.{to_le, le_at, numbers, numbers_at}
use Rattle.little_endian.proofs.NumberLists.{length-numbers, numbers-append, numbers_back, numbers_read}
use Rattle.inventory_bytes.specs.Inventories.{code_number_in, inventory_in, inventory_of, inventory_bytes, opened_by}
use Rattle.inventory_bytes.specs.Claim.{Held, InventoryPlaced, LoadedBack, StoredBack, OtherBytes, RefusedZeros}

-- ---- the length and the code

pub inventory_of_lem : (b : List ℕ) → length b ≡ 144 → is_code (code_number_in b) ≡ true → inventory_of b ≡ inventory_in b
unfolding inventory_of
inventory_of_lem b h k = simp (eq-eqb (length b) 144 h, k)

pub other_length : (b : List ℕ) → length b ≢ 144 → inventory_of b ≡ zeros
unfolding inventory_of
other_length b h = simp (ne_eqb (length b) 144 h)

pub other_number : (b : List ℕ) → is_code (code_number_in b) ≡ false → inventory_of b ≡ zeros
unfolding inventory_of
other_number b h = ap (λ (k : Bool). cond (eqb (length b) 144 && k) (inventory_in b) zeros) h ∙ simp and-false

pub other_bytes : OtherBytes
other_bytes b (inl h) = other_length b h
other_bytes b (inr h) = other_number b h

-- the numbers of an inventory
abbrev all : Inventory → List ℕ
all s = s.n ∷ s.files ++ s.volumes ++ s.nonempty ++ s.quarantined ++ (code_number s.code ∷ [])

pub length_inventory : (s : Inventory) → Held s → length (inventory_bytes s) ≡ 144
unfolding inventory_bytes
length_inventory s h =
    let many : length (all s) ≡ 18 = simp (length-append, h.files.four, h.volumes.four, h.nonempty.four, h.quarantined.four) in
    length-numbers (all s) ∙ omega arith

-- the numbers ms, with others before and after them
part_back : (i k : ℕ) (ks ms ls : List ℕ) {l : List ℕ} → l ≡ (ks ++ ms) ++ ls → 8 * length ks ≡ i → length ms ≡ k
    → ((j : ℕ) → get_or ms j 0 < 2 ^ 64) → numbers_at k (numbers l) i ≡ ms
part_back i k ks ms ls e at size h =
    let split : numbers ((ks ++ ms) ++ ls) ≡ numbers ks ++ (numbers ms ++ numbers ls) =
    simp (numbers-append, append_assoc) in
    let start : i ≡ length (numbers ks) = sym at ∙ sym (length-numbers ks) in
    ap (λ (l : List ℕ). numbers_at k (numbers l) i) e
    ∙ ap₂ (λ (b : List ℕ) (j : ℕ). numbers_at k b j) split start
    ∙ ap (λ (m : ℕ). numbers_at m (numbers ks ++ (numbers ms ++ numbers ls)) (length (numbers ks))) (sym size)
    ∙ numbers_back (numbers ks) ms (numbers ls) h

-- a list before three and before four others
before_three : (a b c d : List ℕ) → a ++ b ++ c ++ d ≡ a ++ (b ++ c ++ d)
before_three a b c d = simp append_assoc

before_four : (a b c d e : List ℕ) → a ++ b ++ c ++ d ++ e ≡ a ++ (b ++ c ++ d ++ e)
before_four a b c d e = simp append_assoc

one_number : (n : ℕ) → n < 2 ^ 64 → (j : ℕ) → get_or (n ∷ []) j 0 < 2 ^ 64
one_number n h zero = h
one_number n h (suc j) = zero-lt-suc 18446744073709551615

same_parts : {n m : ℕ} {a b c d e f g h : List ℕ} {i j : Code} → n ≡ m → a ≡ b → c ≡ d → e ≡ f → g ≡ h → i ≡ j
    → ◌≡◌ {A = Inventory} (record { n = n; files = a; volumes = c; nonempty = e; quarantined = g; code = i })
    (record { n = m; files = b; volumes = d; nonempty = f; quarantined = h; code = j })
same_parts p q r t u v = cc

pub inventory_placed : InventoryPlaced
unfolding inventory_bytes numbers_at
inventory_placed s h = let n : List ℕ = s.n ∷ [] in
    let k : List ℕ = code_number s.code ∷ [] in
    let ns = part_back 0 1 [] n (s.files ++ s.volumes ++ s.nonempty ++ s.quarantined ++ k) refl refl refl (one_number s.n h.small) in
    let fs =
    part_back 8 4 n s.files (s.volumes ++ s.nonempty ++ s.quarantined ++ k)
    (before_four (n ++ s.files) s.volumes s.nonempty s.quarantined k) refl h.files.four h.files.fits in
    let vs =
    part_back 40 4 (n ++ s.files) s.volumes (s.nonempty ++ s.quarantined ++ k)
    (before_three (n ++ s.files ++ s.volumes) s.nonempty s.quarantined k) (simp h.files.four)
    h.volumes.four h.volumes.fits in
    let es =
    part_back 72 4 (n ++ s.files ++ s.volumes) s.nonempty (s.quarantined ++ k)
    (append_assoc (n ++ s.files ++ s.volumes ++ s.nonempty) s.quarantined k)
    (simp (length-append, h.files.four, h.volumes.four)) h.nonempty.four h.nonempty.fits in
    let qs =
    part_back 104 4 (n ++ s.files ++ s.volumes ++ s.nonempty) s.quarantined k
    refl
    (simp (length-append, h.files.four, h.volumes.four, h.nonempty.four)) h.quarantined.four h.quarantined.fits in
    let ks =
    part_back 136 1 (n ++ s.files ++ s.volumes ++ s.nonempty ++ s.quarantined) k []
    (sym (append-nil (all s)))
    (simp (length-append, h.files.four, h.volumes.four, h.nonempty.four, h.quarantined.four)) refl
    (one_number (code_number s.code) (omega (arith, number_small s.code))) in
    record {
      n_in = ap (λ (l : List ℕ). get_or l 0 0) ns;
      files_in = fs;
      volumes_in = vs;
      nonempty_in = es;
      quarantined_in = qs;
      code_in = ap (λ (l : List ℕ). get_or l 0 0) ks;
    }

pub loaded_back : LoadedBack
loaded_back s h = let p = inventory_placed s h in
    inventory_of_lem (inventory_bytes s) (length_inventory s h) (ap is_code p.code_in ∙ number_code s.code)
    ∙ same_parts p.n_in p.files_in p.volumes_in p.nonempty_in p.quarantined_in (ap code_of p.code_in ∙ back s.code)

-- the 18 numbers of an inventory are those of all its bytes
pub stored_back : StoredBack
unfolding inventory_bytes numbers_at
stored_back b bytes size code =
    ap inventory_bytes (inventory_of_lem b size code)
    ∙ ap (λ (k : ℕ). numbers (le_at 8 b 0 ∷ numbers_at 4 b 8 ++ numbers_at 4 b 40 ++ numbers_at 4 b 72 ++ numbers_at 4 b 104 ++ (k ∷ []))) (number_back (code_number_in b) code)
    ∙ numbers_read 18 b 0 bytes (omega arith) ∙ take_all 144 b (omega arith)

-- ---- a refused opening

zeros_bytes : inventory_bytes zeros ≡ replicate 144 0
unfolding inventory_bytes numbers to_le
zeros_bytes = refl

pub refused-zeros : RefusedZeros
refused-zeros c n sizes h = ap inventory_bytes (refused-next c n sizes h) ∙ zeros_bytes

pub opened_zeros : (c : Code) (n : ℕ) (s : List ℕ) {r : Refused} → Err r ≡ handed_back (opened_by c n s)
    → inventory_bytes r.inventory ≡ replicate 144 0
unfolding opened_by
opened_zeros c n s {r} h = go (leb n max_files && eqb (length s) (8 * n)) h
  where
    go : (b : Bool) → Err r ≡ handed_back (cond b (open_step c n (numbers_at n s 0)) (refused_opening 10)) → inventory_bytes r.inventory ≡ replicate 144 0
    go true h = let t = refused_tells (open_step c n (numbers_at n s 0)) h in ap inventory_bytes t.2 ∙ refused-zeros c n (numbers_at n s 0) t.0
    go false h = ap inventory_bytes (refused_tells (refused_opening 10) h).2 ∙ zeros_bytes
