-- Files that differ in their version only, where both versions are allowed.
--
--   later, field       the same part, and the same number, after the version
--   refusal_same       such files are refused alike
--   parts_same         they have the same parts, but for the code
--   alike              they are read alike
--   replaced, replaced_alike, replaced_version     a file with another version
--   version_alone      the claim
-- Assumes nothing.
use Rattle.std.specs.Prelude.{Ok, Err}
use mathlib.Core.Path.{◌≡◌, refl, sym, ap, ap₂, ◌∙◌}
use mathlib.Core.Bool.{true}
use mathlib.Core.List.{List, [], ◌∷◌, ◌++◌, flatten}
use Prim.Native.Nat.{ℕ, zero, suc, ◌+◌, ◌-◌, ◌≤◌}
use native.Mathlib.Omega.{arith}
use lib.ListN.{length, take, drop, length-append, length-drop}
use lib.Seq.{drop-drop, length-take-le}
use Rattle.codes.specs.declared.Code.{Code}
use Rattle.little_endian.specs.Bytes.{from_le, to_le, le_at}
use Rattle.little_endian.proofs.Numbers.{length-to_le}
use Rattle.lent_bytes.specs.Equal.{equal}
use Rattle.lent_bytes.proofs.PartsInRow.{At, at_start, at_part, at_next, at_number, at_last}
use Rattle.md5_digest.specs.Digest.{md5}
use Rattle.refusals.specs.Tests.{test, or_else}
use Rattle.refusals.specs.declared.Refusal.{Refusal}
use Rattle.entries.specs.Numbering.{saved_of}
use Rattle.entries.specs.Walk.{entries_of, walk_of}
use Rattle.entries.specs.Walk.{Walked}
use Rattle.par1_rules.specs.Layout.{version_for, signature_of, version_of, list_size_of, data_start_of, data_size_of, list_of}
use Rattle.par1_rules.specs.Hashes.{set_hash, control_hash}
use Rattle.par1_rules.specs.Rules.{version_allowed, code_in, layout_allowed}
use Rattle.par1_rules.proofs.RuleLaws.{version_fits}
use Rattle.par1_read.specs.Claim.{AlikeButVersion, parts_with_code, with_code, VersionAlone}
use Rattle.par1_read.specs.Reading.{header_refusal, control_refusal, totals_refusal, list_refusal, refusal_from, parts_from, entries_in, read_of}
use Rattle.par1_read.proofs.ReadingLaws.{refusal_of, parts_of, read_accepted, read_refused}

module _ {f g : List ℕ} (a : AlikeButVersion f g) where
  -- ---- the header

  later : (k : ℕ) → drop (12 + k) f ≡ drop (12 + k) g
  later k = sym (drop-drop k 12 f) ∙ ap (drop k) a.rest-same ∙ drop-drop k 12 g

  field : (k i : ℕ) → le_at k f (12 + i) ≡ le_at k g (12 + i)
  unfolding le_at
  field k i = ap (λ (s : List ℕ). from_le (take k s)) (later i)

  begins_same : signature_of f ≡ signature_of g
  unfolding le_at
  begins_same = ap from_le a.first_same

  layout_same : (n : ℕ) → layout_allowed f n ≡ layout_allowed g n
  unfolding layout_allowed
  layout_same n = simp (field 8 52, field 8 60, field 8 68, field 8 76)

  header_same : version_allowed (version_of f) ≡ true → version_allowed (version_of g) ≡ true → (n : ℕ) → header_refusal f n ≡ header_refusal g n
  unfolding header_refusal
  header_same p q n = simp (begins_same, p, q, layout_same n)

  control_same : control_refusal f (control_hash f) ≡ control_refusal g (control_hash g)
  unfolding control_refusal
  control_same = ap₂ (λ (s t : List ℕ). test 5 (equal (take 16 s) (md5 t)) 0) (later 4) (later 20)

  -- ---- the list

  list_is : list_of f ≡ list_of g
  list_is = ap₂ (λ (n : ℕ) (s : List ℕ). take n s) (field 8 60) (later 84)

  totals_same : (set : List ℕ) (w : Walked) → list_refusal f set w ≡ list_refusal g set w
  unfolding totals_refusal
  totals_same set (Ok t) = simp (later 20, field 8 36, field 8 44, field 8 76)
  totals_same set (Err r) = refl

  list_same : list_refusal f (set_hash (entries_in f)) (walk_of (list_of f)) ≡ list_refusal g (set_hash (entries_in g)) (walk_of (list_of g))
  list_same =
      totals_same (set_hash (entries_in f)) (walk_of (list_of f))
      ∙ ap (λ (l : List ℕ). list_refusal g (set_hash (entries_of l).pieces) (walk_of l)) list_is

  -- ---- the reading

  parts_with : (saved : ℕ) → parts_from g saved ≡ parts_with_code (code_in (version_of g)) (parts_from f saved)
  parts_with saved = let list_size_lem : list_size_of f ≡ list_size_of g = field 8 60 in
      let data_start_lem : data_start_of f ≡ data_start_of g = field 8 68 in
      let data_size_lem : data_size_of f ≡ data_size_of g = field 8 76 in
      simp (field 4 0, field 8 36, field 8 44, list_size_lem, data_start_lem, data_size_lem)

  parts_same : parts_of g ≡ parts_with_code (code_in (version_of g)) (parts_of f)
  parts_same = ap (λ (l : List ℕ). parts_from g (length (saved_of (entries_of l).pieces))) (sym list_is) ∙ parts_with (length (saved_of (entries_in f)))

  module _ (p : version_allowed (version_of f) ≡ true) (q : version_allowed (version_of g) ≡ true) where
    refusal_same : refusal_of f ≡ refusal_of g
    unfolding refusal_of refusal_from
    refusal_same =
        ap₂ (λ (n : ℕ) (r : Refusal). or_else n r) (header_same p q (length f) ∙ ap (header_refusal g) a.length-same)
        (ap₂ (λ (n : ℕ) (r : Refusal). or_else n r) control_same list_same)

    alike : read_of g ≡ with_code (code_in (version_of g)) (read_of f)
    alike = by (refusal_of f).number refl
      where
        by : (n : ℕ) → n ≡ (refusal_of f).number → read_of g ≡ with_code (code_in (version_of g)) (read_of f)
        by zero e =
            read_accepted g (ap (λ (r : Refusal). r.number) (sym refusal_same) ∙ sym e)
            ∙ ap Ok parts_same
            ∙ ap (with_code (code_in (version_of g))) (sym (read_accepted f (sym e)))
        by (suc n) e = read_refused g refusal_same (λ z. omega arith) ∙ ap (with_code (code_in (version_of g))) (sym (read_refused f refl (λ z. omega arith)))

-- ---- another version

abbrev replaced : List ℕ → Code → List ℕ
replaced f c = flatten (take 8 f ∷ to_le 4 (version_for c) ∷ []) ++ drop 12 f

module _ (f : List ℕ) (c : Code) (long : 12 ≤ length f) where
  first_length : length (take 8 f) ≡ 8
  first_length = length-take-le 8 f (omega arith)

  at0 : At (replaced f c) 0 (take 8 f ∷ to_le 4 (version_for c) ∷ drop 12 f ∷ [])
  at0 = at_start (take 8 f ∷ to_le 4 (version_for c) ∷ []) (drop 12 f) refl

  at8 : At (replaced f c) 8 (to_le 4 (version_for c) ∷ drop 12 f ∷ [])
  at8 = at_next 8 first_length at0

  at12 : At (replaced f c) 12 (drop 12 f ∷ [])
  at12 = at_next 4 (length-to_le 4 (version_for c)) at8

  replaced_length : length f ≡ length (replaced f c)
  unfolding flatten
  replaced_length = let size : length (to_le 4 (version_for c)) ≡ 4 = length-to_le 4 (version_for c) in
      let rest : length (drop 12 f) ≡ length f - 12 = length-drop 12 f in
      simp (length-append, first_length, size, rest) (omega arith)

  replaced_alike : AlikeButVersion f (replaced f c)
  replaced_alike = record { length-same = replaced_length; first_same = sym (at_part 8 first_length at0); rest-same = sym (at_last at12) }

  replaced_version : version_of (replaced f c) ≡ version_for c
  replaced_version = at_number 4 (version_for c) (version_fits c) at8

pub version_alone : VersionAlone
version_alone = record {
  read_alike = λ f g a p q. alike a p q;
  some_alike = λ f c long. (replaced f c, replaced_alike f c long, replaced_version f c long);
}
