-- Condition 2, for entries: a written entry walks back to its fields, and checking accepts the contents that it was written from.
--
--   entry-accepted    the entry of a file that keeps the rules is written
--   entry_back        it is that of its file
--   entry-written     and so is every written entry
-- Assumes nothing.
use Rattle.std.specs.Prelude.{Some, Ok}
use mathlib.Core.Path.{◌≡◌, refl, sym, ap, ap₂, ◌∙◌, subst}
use mathlib.Core.Bool.{true, ◌&&◌}
use mathlib.Core.List.{List, [], ◌∷◌, ◌++◌, append-nil}
use Prim.Native.Nat.{ℕ, ◌+◌, ◌%◌, ◌^◌, ◌<◌, ◌≤◌}
use native.Mathlib.Omega.{arith}
use lib.Dec.{leb, eqb}
use lib.ListN.{length, take, drop, length-append}
use lib.Seq.{take-append_seam, drop-append_seam}
use borrow.Author.Tests.{leb-true, eqb-true, eq-eqb, le-leb}
use Rattle.lent_bytes.proofs.WritingLaws.{unless_accepted, unless_tells}
use Rattle.computed_tests.proofs.Tests.{and_both}
use Rattle.cut_lists.specs.Pieces.{before}
use Rattle.little_endian.specs.Bytes.{to_le}
use Rattle.little_endian.proofs.Numbers.{length-to_le}
use Rattle.little_endian.proofs.Reading.{le_at-append}
use Rattle.md5_digest.specs.Digest.{md5}
use Rattle.refusals.specs.Tests.{bare}
use Rattle.entries.specs.Entry.{entry_size, status_of, file_size_of, md5_of, md5_of_16k, name_of, name_allowed, file_size_allowed}
use Rattle.entries.specs.Walk.{item_of, first_of, entries_of}
use Rattle.entries.proofs.EntryLaws.{first_entry, is_entry}
use Rattle.entries.proofs.FirstFaults.{sized_right}
use Rattle.entries.proofs.WalkLaws.{entries_more}
use Rattle.par1_rules.specs.Hashes.{md5_first}
use Rattle.par1.specs.Claim.{EntryAccepted, EntryBack, EntryWritten}
use Rattle.par1.specs.Checking.{lone_refusal, is_described, check_of}
use Rattle.par1_write.specs.EntryWriting.{entry_bytes, entry_refusal, write_entry_of}
use Rattle.par1.proofs.CheckingLaws.{check_lone}
use Rattle.par1_write.proofs.EntryWritingLaws.{length-entry, entry_passed}
use Rattle.lent_bytes.proofs.EqualLaws.{equal-same}
use Rattle.par1_rules.proofs.HashLaws.{length-md5}
use Rattle.lent_bytes.proofs.PartsInRow.{At, at_part, at_next, at_number, at_last}

-- ---- the fields of the bytes of an entry, and of what follows

record EntryFields (s m : List ℕ) (status : ℕ) (name : List ℕ) : Type 0 where
  entry_size_lem : entry_size s ≡ 56 + length name
  status_is : status_of s ≡ status
  size_is : file_size_of s ≡ length m
  md5_is : md5_of s ≡ md5 m
  md5_first_is : md5_of_16k s ≡ md5_first m
  named : drop 56 s ≡ name

entry_fields : (m : List ℕ) (status : ℕ) (name : List ℕ) → status < 2 ^ 64 → length m < 2 ^ 64 → 56 + length name < 2 ^ 64
    → EntryFields (entry_bytes m status name) m status name
unfolding entry_bytes
entry_fields m status name s n k = let e : List ℕ = entry_bytes m status name in
    let at0 : At e 0 (to_le 8 (56 + length name) ∷ to_le 8 status ∷ to_le 8 (length m) ∷ md5 m ∷ md5_first m ∷ name ∷ []) = record { joined = refl } in
    let at8 = at_next 8 (length-to_le 8 (56 + length name)) at0 in
    let at16 = at_next 8 (length-to_le 8 status) at8 in
    let at24 = at_next 8 (length-to_le 8 (length m)) at16 in
    let at40 = at_next 16 (length-md5 m) at24 in
    record {
      entry_size_lem = at_number 8 (56 + length name) (omega arith) at0;
      status_is = at_number 8 status (omega arith) at8;
      size_is = at_number 8 (length m) (omega arith) at16;
      md5_is = at_part 16 (length-md5 m) at24;
      md5_first_is = at_part 16 (length-md5 (take 16384 m)) at40;
      named = at_last (at_next 16 (length-md5 (take 16384 m)) at40);
    }

-- ---- the rules

-- a name that is written has whole units, one or more, and keeps the rule
record Named (name : List ℕ) : Type 0 where
  some : 2 ≤ length name
  even : length name % 2 ≡ 0
  allowed : name_allowed name ≡ true

named_right : (name : List ℕ) → name_allowed name ≡ true → Named name
unfolding name_allowed
named_right name e = let both = and_both (leb 2 (length name) && eqb (length name % 2) 0) _ e in
    let two = and_both (leb 2 (length name)) (eqb (length name % 2) 0) both.0 in
    record { some = leb-true _ _ two.0; even = eqb-true _ _ two.1; allowed = e }

module _ {e m : List ℕ} {status : ℕ} {name : List ℕ} (size : length e ≡ 56 + length name) (d : EntryFields e m status name)
    (right : Named name) (short : file_size_allowed (length m) ≡ true) where
  walked_back : (rest : List ℕ) → first_of (e ++ rest) ≡ Ok (Some (record { length = length e; status = status; size = length m }))
  walked_back rest = let s : List ℕ = e ++ rest in
      let total : length s ≡ length e + length rest = length-append e rest in
      let own : take (length e) s ≡ e = take-append_seam e rest in
      let told : length e ≡ entry_size s = sym (le_at-append 8 e rest 0 (omega (arith, right.some)) ∙ d.entry_size_lem ∙ sym size) in
      let allowed = sized_right (length e) (length s) (omega (arith, right.even)) (omega (arith, right.some)) (omega arith) in
      let file_size : file_size_allowed (file_size_of (take (length e) s)) ≡ true =
      ap (λ (l : List ℕ). file_size_allowed (file_size_of l)) own ∙ ap file_size_allowed d.size_is ∙ short in
      let name_right = ap (λ (l : List ℕ). name_allowed (name_of l)) own ∙ ap name_allowed d.named ∙ right.allowed in
      first_entry s (omega (arith, right.some)) told allowed file_size name_right
      ∙ ap item_of own
      ∙ ap₂ (λ (x y : ℕ). Ok (Some (record { length = length e; status = x; size = y }))) d.status_is d.size_is

  listed_back : (rest : List ℕ) → entries_of (e ++ rest) ≡ before e (entries_of rest)
  listed_back rest =
      entries_more (is_entry (sym (walked_back rest)))
      ∙ ap₂ (λ (p q : List ℕ). before p (entries_of q)) (take-append_seam e rest) (drop-append_seam e rest)

  lone_back : lone_refusal e ≡ 0
  unfolding lone_refusal
  lone_back = let whole : first_of e ≡ Ok (Some (record { length = length e; status = status; size = length m })) = ap first_of (sym (append-nil e)) ∙ walked_back [] in
      simp (eq-eqb (entry_size e) (length e) (d.entry_size_lem ∙ sym size), whole)

  checked_back : check_of e m ≡ bare 0
  unfolding is_described
  checked_back = check_lone e m lone_back ∙ simp (eq-eqb _ _ d.size_is, equal-same d.md5_is, equal-same d.md5_first_is)

  all_back : EntryBack e m status name
  all_back = record {
    first_is = walked_back;
    entries_are = listed_back;
    status_is = d.status_is;
    size_is = d.size_is;
    md5_is = d.md5_is;
    md5_first_is = d.md5_first_is;
    name_is = d.named;
    lone_is = lone_back;
    check_is = checked_back;
  }

-- ---- the claims

pub entry-accepted : EntryAccepted
unfolding write_entry_of entry_refusal
entry-accepted m status name out size_right status_right name_right fits =
    unless_accepted (bare (entry_refusal (length m) status name)) (entry_bytes m status name) out (simp (size_right, le-leb status 1 status_right, name_right)) fits

pub entry_back : (m : List ℕ) (status : ℕ) (name : List ℕ) → file_size_allowed (length m) ≡ true → status < 2 ^ 64 → name_allowed name ≡ true
    → length (entry_bytes m status name) < 2 ^ 64 → EntryBack (entry_bytes m status name) m status name
entry_back m status name sized small named few = let short : length m ≤ 16777216 = leb-true (length m) 16777216 sized in
    let size : length (entry_bytes m status name) ≡ 56 + length name = length-entry m status name in
    let d = entry_fields m status name small (omega arith) (omega arith) in
    all_back size d (named_right name named) sized

pub entry-written : EntryWritten
unfolding write_entry_of
entry-written m status name out n room few e = let told = unless_tells (bare (entry_refusal (length m) status name)) (entry_bytes m status name) out e in
    let passed = entry_passed (length m) status name told.none in
    let small : status ≤ 1 = leb-true status 1 passed.status_right in
    subst (λ (l : List ℕ). EntryBack l m status name) (sym told.written_is)
    (entry_back m status name passed.size_right (omega arith) passed.name_right (omega (arith, told.fits)))
