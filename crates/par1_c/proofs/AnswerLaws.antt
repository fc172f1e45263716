-- The answers that tell a refusal and its place.
--
--   Answerable, answerable    a refusal of a list whose length is a u64, in numbers
--   read_within               which refusals reading gives
--   read_answerable, volume_answerable, read_end_answerable    those of reading, of writing a volume and of the end of a running read
--   amend_answerable          those of amending, or the length
--   compare_answerable, export_answerable, import_answerable    those of the calls on text, or the length
--   open_answerable, add_answerable, drop_answerable, load_answerable    those of the calls on a catalog, or the length or number of entries
--   read_asked, .., load_asked    the same, as what `answer` requires
--   read_told, .., load_told      the claims
-- Assumes nothing.
use Rattle.std.specs.Prelude.{Ok, Err}
use mathlib.Core.Path.{◌≡◌, refl, sym, ap, ◌∙◌}
use mathlib.Core.Bool.{Bool, true, false, cond}
use mathlib.Core.Logic.{⊎_elim}
use mathlib.Core.List.{List}
use Prim.Native.Nat.{ℕ, zero, suc, ◌+◌, ◌/◌, ◌^◌, ◌≤◌, ◌<◌}
use native.Mathlib.Omega.{arith}
use lib.Dec.{leb, eqb}
use lib.ListN.{length}
use borrow.Author.Tests.{eqb-true}
use Rattle.refusals.specs.Tests.{bare}
use Rattle.refusals.specs.declared.Refusal.{Refusal}
use Rattle.refusals.proofs.RangeLaws.{Within, bare-within}
use Rattle.lent_bytes.specs.Writing.{refused, accepted, written, with_refusal, written_unless}
use Rattle.lent_bytes.proofs.WritingLaws.{unless_within}
use Rattle.answer_bytes.specs.Results.{parts_bytes, read_into}
use Rattle.job_bytes.specs.Reads.{read_ended}
use Rattle.job_bytes.proofs.ReadChunks.{ended-within}
use Rattle.par1_read.specs.Reading.{read_of}
use Rattle.par1_read.proofs.RangeLaws.{refusal_within}
use Rattle.par1_read.proofs.ReadingLaws.{refusal_of, parts_of, read_accepted, read_refused}
use Rattle.par1_write.specs.VolumeWriting.{write_volume_of}
use Rattle.par1_write.proofs.VolumeWritingLaws.{volume_within}
use Rattle.codes.specs.declared.Code.{Code}
use Rattle.parity.specs.Coefficient.{rule_of}
use Rattle.lent_bytes.specs.Writing.{Writing}
use Rattle.amending.specs.Amending.{Change}
use Rattle.amending.specs.Call.{amend_of}
use Rattle.amending.proofs.RangeLaws.{accepted_most, refused_most}
use Rattle.comparing.specs.Comparing.{comparison_of}
use Rattle.comparing.proofs.LengthLaws.{comparison_most}
use Rattle.md5sum_text.specs.Export.{export_into}
use Rattle.md5sum_text.specs.Import.{import_into}
use Rattle.md5sum_text.proofs.RangeLaws.{Most, export_most, export_refusal_lem, import_most, import_refusal_lem}
use Rattle.catalog.specs.Calls.{open_of, add_of, drop_of, loading_of}
use Rattle.catalog.proofs.CatalogLaws.{is_catalog_lem}
use Rattle.catalog.proofs.RangeLaws.{Low, open_low, open_length, add_low, add_length, drop_low, drop-length, Loads, loads, loads_not, loading_is}
use Rattle.par1_c.specs.Answers.{length_told, Told}
use Rattle.par1_c.specs.Claim.{ReadTold, VolumeTold, ReadEndTold, AmendTold, CompareTold, ExportTold, ImportTold, OpenTold, AddTold, DropTold, LoadTold}

pub record Answerable (r : Refusal) : Type 0 where
  pub number_most : r.number < 32
  pub place_most : r.place < 2 ^ 59

answerable : (n : ℕ) (r : Refusal) → n < 2 ^ 64 → Within (n / 58 + 1) r → Answerable r
answerable n r h w = record { number_most = omega (arith, w.number_most); place_most = omega (arith, w.place_most) }

pub told : (r : Refusal) → Answerable r → Told r
told r a = record {
  number_is = omega (arith, a.number_most);
  place_is = omega (arith, a.number_most);
  fits = omega (arith, a.number_most, a.place_most);
}

read_within : (f out : List ℕ) → Within (length f / 58 + 1) (read_into (read_of f) out).0
unfolding read_into written_unless
read_within f out = by (refusal_of f).number refl
  where
    k : ℕ
    k = length f / 58 + 1

    by : (n : ℕ) → n ≡ (refusal_of f).number → Within k (read_into (read_of f) out).0
    by zero e = rw (read_accepted f (sym e)) (unless_within k (bare 0) (parts_bytes (parts_of f)) out (bare-within k 0 (omega arith)))
    by (suc n) e = rw (read_refused f refl (λ z. omega arith)) (refusal_within f)

read_answerable : (f out : List ℕ) → length f < 2 ^ 64 → Answerable (read_into (read_of f) out).0
read_answerable f out h = answerable (length f) _ h (read_within f out)

volume_answerable : (c : Code) (program number : ℕ) (list area out : List ℕ) → length list < 2 ^ 64
    → Answerable (with_refusal (write_volume_of c program number list area out)).0
volume_answerable c program number list area out h = answerable (length list) _ h (volume_within c program number list area out)

read_end_answerable : (b out : List ℕ) → Answerable (read_ended b out).0
read_end_answerable b out = let w = ended-within b out in record { number_most = w.0; place_most = w.1 }

module _ (n : ℕ) (c : Change) (d out : List ℕ) (h : length out < 2 ^ 64) where
  amend_answerable : (w : Writing) (t : List ℕ) → amend_of rule_of n c d out ≡ (w, t) → Answerable (length_told w)
  amend_answerable (Ok k) t e = let most = accepted_most rule_of n c d out e in record { number_most = omega arith; place_most = omega arith }
  amend_answerable (Err r) t e = let most = refused_most rule_of n c d out e in
      record { number_most = omega (arith, most.number_most); place_most = omega (arith, most.place_most) }

compare_answerable : (f g out : List ℕ) → Answerable (length_told (written (comparison_of f g) out).0)
unfolding written
compare_answerable f g out = by (leb (length (comparison_of f g)) (length out))
  where
    by : (b : Bool) → Answerable (length_told (cond b (accepted (comparison_of f g) out) (refused (bare 14) out)).0)
    by true = record { number_most = omega arith; place_most = comparison_most f g }
    by false = record { number_most = omega arith; place_most = omega arith }

-- a place of an entry or of a line of a list whose length is a u64
placed : (n k : ℕ) (r : Refusal) → n < 2 ^ 64 → k ≤ n / 36 + 1 → Most k r → Answerable r
placed n k r h m w = record { number_most = omega (arith, w.number_most); place_most = omega (arith, w.place_most) }

export_answerable : (f out : List ℕ) → length f < 2 ^ 64 → (w : Writing) (t : List ℕ) → export_into f out ≡ (w, t) → Answerable (length_told w)
export_answerable f out h (Ok k) t e = let most = export_most f out e in record { number_most = omega arith; place_most = omega arith }
export_answerable f out h (Err r) t e = placed (length f) (length f / 58 + 1) r h (omega arith) (export_refusal_lem f out e)

import_answerable : (f s out : List ℕ) → length f < 2 ^ 64 → length s < 2 ^ 64 → (w : Writing) (t : List ℕ) → import_into f s out ≡ (w, t)
    → Answerable (length_told w)
import_answerable f s out h g (Ok k) t e = let most = import_most f s out e in record { number_most = omega arith; place_most = omega arith }
import_answerable f s out h g (Err r) t e =
    ⊎_elim (placed (length f) (length f / 58 + 1) r h (omega arith)) (placed (length s) (length s / 36 + 1) r g (omega arith)) (import_refusal_lem f s out e)

-- what is written unless a test holds: the length is asked for where none does
unless_answerable : (n : ℕ) (m : Refusal) (s out : List ℕ) → n < 2 ^ 64 → Low n m → (m.number ≡ 0 → length s ≤ 65536)
    → Answerable (length_told (written_unless m s out).0)
unfolding written_unless written
unless_answerable n m s out h w most = by (eqb m.number 0) refl (leb (length s) (length out))
  where
    by : (z : Bool) → z ≡ eqb m.number 0 → (f : Bool)
        → Answerable (length_told (cond z (cond f (accepted s out) (refused (bare 14) out)) (refused m out)).0)
    by true e true = record { number_most = omega arith; place_most = omega (arith, most (eqb-true _ _ (sym e))) }
    by true e false = record { number_most = omega arith; place_most = omega arith }
    by false e f = record { number_most = omega (arith, w.number_low); place_most = omega (arith, w.place_low) }

open_answerable : (f out : List ℕ) → length f < 2 ^ 64 → Answerable (length_told (open_of f out).0)
unfolding open_of
open_answerable f out h = unless_answerable (length f) _ _ out h (open_low f (read_of f) refl) (open_length f (read_of f) refl)

add_answerable : (b vol : List ℕ) → length vol < 2 ^ 64 → Answerable (length_told (add_of b vol).0)
unfolding add_of
add_answerable b vol h = unless_answerable (length vol) _ _ b h (add_low b vol (read_of vol) refl) (add_length b vol (read_of vol) refl)

drop_answerable : (b : List ℕ) (v : ℕ) → Answerable (length_told (drop_of b v).0)
unfolding drop_of
drop_answerable b v = unless_answerable 0 _ _ b (omega arith) (drop_low b v) (drop-length b v)

load_answerable : (b : List ℕ) (n : ℕ) → Answerable (length_told (loading_of b n))
load_answerable b n = by (loading_of b n) (loading_is b n)
  where
    by : (w : Writing) → Loads b n w → Answerable (length_told w)
    by (Ok k) (loads c few) = record { number_most = omega arith; place_most = omega (arith, (is_catalog_lem b c).few) }
    by (Err r) (loads_not w) = record { number_most = omega (arith, w.number_low); place_most = omega (arith, w.place_low) }

pub asked : {r q : Refusal} → r ≡ q → Answerable q → (r.number < 32) × (r.place < 2 ^ 59)
asked e a = rw e (a.number_most, a.place_most)

pub read_asked : (f out : List ℕ) {r : Refusal} {t : List ℕ} → length f < 2 ^ 64 → (r, t) ≡ read_into (read_of f) out
    → (r.number < 32) × (r.place < 2 ^ 59)
read_asked f out h e = asked (ap (λ (p : Refusal × List ℕ). p.0) e) (read_answerable f out h)

pub volume_asked : (c : Code) (program number : ℕ) (list area out : List ℕ) {r : Refusal} {t : List ℕ} → length list < 2 ^ 64
    → (r, t) ≡ with_refusal (write_volume_of c program number list area out) → (r.number < 32) × (r.place < 2 ^ 59)
volume_asked c program number list area out h e = asked (ap (λ (p : Refusal × List ℕ). p.0) e) (volume_answerable c program number list area out h)

pub read_end_asked : (b out : List ℕ) {r : Refusal} {s t : List ℕ} → (r, s, t) ≡ read_ended b out → (r.number < 32) × (r.place < 2 ^ 59)
read_end_asked b out e = asked (ap (λ (p : Refusal × List ℕ × List ℕ). p.0) e) (read_end_answerable b out)

pub amend_asked : (n : ℕ) (c : Change) (d out : List ℕ) {w : Writing} {t : List ℕ} {r : Refusal} → length out < 2 ^ 64
    → (w, t) ≡ amend_of rule_of n c d out → r ≡ length_told w → (r.number < 32) × (r.place < 2 ^ 59)
amend_asked n c d out {w} {t} h e is = asked is (amend_answerable n c d out h w t (sym e))

-- the same of a call that tells its length
length_asked : {w : Writing} {t : List ℕ} {x : Writing × List ℕ} {r : Refusal} → Answerable (length_told x.0) → (w, t) ≡ x → r ≡ length_told w
    → (r.number < 32) × (r.place < 2 ^ 59)
length_asked {x = x} a e is = asked (is ∙ ap (λ (p : Writing × List ℕ). length_told p.0) e) a

pub compare_asked : (f g out : List ℕ) {w : Writing} {t : List ℕ} {r : Refusal} → (w, t) ≡ written (comparison_of f g) out → r ≡ length_told w
    → (r.number < 32) × (r.place < 2 ^ 59)
compare_asked f g out = length_asked (compare_answerable f g out)

pub export_asked : (f out : List ℕ) {w : Writing} {t : List ℕ} {r : Refusal} → length f < 2 ^ 64 → (w, t) ≡ export_into f out → r ≡ length_told w
    → (r.number < 32) × (r.place < 2 ^ 59)
export_asked f out {w} {t} h e is = asked is (export_answerable f out h w t (sym e))

pub import_asked : (f s out : List ℕ) {w : Writing} {t : List ℕ} {r : Refusal} → length f < 2 ^ 64 → length s < 2 ^ 64
    → (w, t) ≡ import_into f s out → r ≡ length_told w → (r.number < 32) × (r.place < 2 ^ 59)
import_asked f s out {w} {t} h g e is = asked is (import_answerable f s out h g w t (sym e))

pub open_asked : (f out : List ℕ) {w : Writing} {t : List ℕ} {r : Refusal} → length f < 2 ^ 64 → (w, t) ≡ open_of f out → r ≡ length_told w
    → (r.number < 32) × (r.place < 2 ^ 59)
open_asked f out h = length_asked (open_answerable f out h)

pub add_asked : (b vol : List ℕ) {w : Writing} {t : List ℕ} {r : Refusal} → length vol < 2 ^ 64 → (w, t) ≡ add_of b vol → r ≡ length_told w
    → (r.number < 32) × (r.place < 2 ^ 59)
add_asked b vol h = length_asked (add_answerable b vol h)

pub drop_asked : (b : List ℕ) (v : ℕ) {w : Writing} {t : List ℕ} {r : Refusal} → (w, t) ≡ drop_of b v → r ≡ length_told w
    → (r.number < 32) × (r.place < 2 ^ 59)
drop_asked b v = length_asked (drop_answerable b v)

pub load_asked : (b : List ℕ) (n : ℕ) {w : Writing} {r : Refusal} → w ≡ loading_of b n → r ≡ length_told w → (r.number < 32) × (r.place < 2 ^ 59)
load_asked b n e is = asked (is ∙ ap length_told e) (load_answerable b n)

pub read_told : ReadTold
read_told f out h = told _ (read_answerable f out h)

pub volume_told : VolumeTold
volume_told c program number list area out h = told _ (volume_answerable c program number list area out h)

pub read_end_told : ReadEndTold
read_end_told b out = told _ (read_end_answerable b out)

pub amend_told : AmendTold
amend_told n c d out h = told _ (amend_answerable n c d out h (amend_of rule_of n c d out).0 (amend_of rule_of n c d out).1 refl)

pub compare_told : CompareTold
compare_told f g out = told _ (compare_answerable f g out)

pub export_told : ExportTold
export_told f out h = told _ (export_answerable f out h (export_into f out).0 (export_into f out).1 refl)

pub import_told : ImportTold
import_told f s out h g = told _ (import_answerable f s out h g (import_into f s out).0 (import_into f s out).1 refl)

pub open_told : OpenTold
open_told f out h = told _ (open_answerable f out h)

pub add_told : AddTold
add_told b vol h = told _ (add_answerable b vol h)

pub drop_told : DropTold
drop_told b v = told _ (drop_answerable b v)

pub load_told : LoadTold
load_told b rows = told _ (load_answerable b (length rows))
