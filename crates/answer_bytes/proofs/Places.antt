-- Where the numbers stand that are written over the first bytes of a room.
--
--   AllFit, fit_at             each number of a list is of 64 bits
--   numbers_placed             numbers that are written, read again
--   parts_placed, entry_placed     the claims
-- Assumes nothing.
use mathlib.Core.Path.{◌≡◌, sym, ap, ◌∙◌}
use mathlib.Core.Bool.{Bool, true, false, cond}
use mathlib.Core.List.{List, [], ◌∷◌}
use Prim.Native.Nat.{ℕ, zero, suc, ◌^◌, ◌<◌}
use native.Mathlib.Omega.{arith}
use lib.Dec.{leb}
use lib.ListN.{length, get_or, drop}
use Rattle.codes.specs.Codes.{code_number}
use Rattle.codes.proofs.CodeLaws.{number_small}
use Rattle.lent_bytes.specs.Writing.{accepted, refused, written, with_number}
use Rattle.little_endian.specs.Bytes.{numbers, numbers_at}
use Rattle.little_endian.proofs.NumberLists.{numbers_back}
use Rattle.refusals.specs.Tests.{bare}
use Rattle.refusals.specs.declared.Refusal.{Refusal}
use Rattle.answer_bytes.specs.Claim.{PartsPlaced, EntryAt, EntryPlaced}
use Rattle.answer_bytes.specs.Results.{parts_bytes, read_into, entry_numbers, entry_into}

data AllFit : List ℕ → Type 0 where
  none : AllFit []
  more : {n : ℕ} {ns : List ℕ} → n < 2 ^ 64 → AllFit ns → AllFit (n ∷ ns)

fit_at : {ns : List ℕ} → AllFit ns → (j : ℕ) → get_or ns j 0 < 2 ^ 64
fit_at none j = omega arith
fit_at (more h hs) zero = h
fit_at (more h hs) (suc j) = fit_at hs j

numbers_placed : (ns out : List ℕ) {out' : List ℕ} → AllFit ns → with_number (written (numbers ns) out) ≡ (0, out') → numbers_at (length ns) out' 0 ≡ ns
unfolding written
numbers_placed ns out {out'} h = by (leb (length (numbers ns)) (length out))
  where
    by : (b : Bool) → with_number (cond b (accepted (numbers ns) out) (refused (bare 14) out)) ≡ (0, out') → numbers_at (length ns) out' 0 ≡ ns
    by true e =
        ap (λ (s : List ℕ). numbers_at (length ns) s 0) (sym (ap (λ (r : ℕ × List ℕ). r.1) e))
        ∙ numbers_back [] ns (drop (length (numbers ns)) out) (fit_at h)
    by false e = absurd (let z : 14 ≡ 0 = ap (λ (r : ℕ × List ℕ). r.0) e in omega arith)

pub parts_placed : PartsPlaced
unfolding read_into parts_bytes numbers_at
parts_placed p h out out' e =
    let ns : List ℕ =
    p.program ∷ p.number ∷ p.entries ∷ p.saved ∷ p.list_size ∷ p.data_start ∷ p.data_size ∷ code_number p.code ∷ [] in
    let code_fits : code_number p.code < 2 ^ 64 = omega (arith, number_small p.code) in
    let program_fits : p.program < 2 ^ 64 = omega (arith, h.program_fits) in
    let lengths : AllFit (p.list_size ∷ p.data_start ∷ p.data_size ∷ code_number p.code ∷ []) =
    more h.list_size_fits (more h.data_start_fits (more h.data_size_fits (more code_fits none))) in
    let fit : AllFit ns = more program_fits (more h.number_fits (more h.entries_fit (more h.saved_fit lengths))) in
    let is : numbers_at 8 out' 0 ≡ ns = numbers_placed ns out fit (ap (λ (r : Refusal × List ℕ). (r.0.number, r.1)) e) in
    record {
      program_at = ap (λ (l : List ℕ). get_or l 0 0) is;
      number_at = ap (λ (l : List ℕ). get_or l 1 0) is;
      entries_at = ap (λ (l : List ℕ). get_or l 2 0) is;
      saved_at = ap (λ (l : List ℕ). get_or l 3 0) is;
      list_size_at = ap (λ (l : List ℕ). get_or l 4 0) is;
      data_start_at = ap (λ (l : List ℕ). get_or l 5 0) is;
      data_size_at = ap (λ (l : List ℕ). get_or l 6 0) is;
      code_at = ap (λ (l : List ℕ). get_or l 7 0) is;
    }

three_placed : (l status size : ℕ) → l < 2 ^ 64 → status < 2 ^ 64 → size < 2 ^ 64 → (out : List ℕ) {out' : List ℕ}
    → with_number (written (entry_numbers l status size) out) ≡ (0, out') → EntryAt l status size out'
unfolding entry_numbers numbers_at
three_placed l status size a b c out {out'} e =
    let ns : List ℕ = l ∷ status ∷ size ∷ [] in
    let is : numbers_at 3 out' 0 ≡ ns = numbers_placed ns out (more a (more b (more c none))) e in
    record {
      length_at = ap (λ (l : List ℕ). get_or l 0 0) is;
      status_at = ap (λ (l : List ℕ). get_or l 1 0) is;
      size_at = ap (λ (l : List ℕ). get_or l 2 0) is;
    }

pub entry_placed : EntryPlaced
unfolding entry_into
entry_placed =
    record {
      of_entry = λ l status size a b c out out' e. three_placed l status size a b c out e;
      of_end = λ out out' e. three_placed 0 0 0 (omega arith) (omega arith) (omega arith) out e;
    }
