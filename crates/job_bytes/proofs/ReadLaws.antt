-- The bytes of a running read, as the code works them out.
--
--   copied                       a part of bytes, stored over zeros
--   length_words, length-md5, length_scan, length_read   how many bytes four words, a hash, a scan and a job have
--   Sized                        the arrays of a job have their lengths
--   words_stored, md5_stored, scan_stored, read_stored_lem   the parts of each, stored one after another
--   read_of, read_none           392 bytes are the job in them, others one that is over
--   stored_accepted, stored_refused   what is stored of a job
--   words_read, md5_read, scan_read, read_read   the parts of each, read one after another
--   pushed_by, ended_by          a push and an end
-- Assumes nothing.
use mathlib.Core.Path.{◌≡◌, refl, sym, ap, ◌∙◌, subst}
use mathlib.Core.Bool.{Bool}
use mathlib.Core.List.{List, [], ◌∷◌, ◌++◌, append-nil, flatten}
use Prim.Native.Nat.{ℕ, ◌+◌, ◌≤◌}
use native.Mathlib.Omega.{arith}
use borrow.Author.Tests.{eq-eqb, ne_eqb}
use lib.ListN.{length, take, drop, replicate, length-append, length-drop, length-replicate, drop_of_length-le}
use lib.Seq.{sets, length-take-le}
use Rattle.answer_bytes.specs.Results.{read_into}
use Rattle.lent_bytes.proofs.StoreLaws.{Stores, stored, stored_all, stores_flatten, sets_over}
use Rattle.lent_bytes.proofs.WritingLaws.{written_fits, unless_none, unless_refused, numbered_as}
use Rattle.list_scan.specs.declared.NameSoFar.{NameSoFar}
use Rattle.list_scan.specs.declared.Scan.{Scan}
use Rattle.little_endian.specs.Bytes.{to_le, le_at, numbers}
use Rattle.little_endian.proofs.NumberLists.{length-numbers}
use Rattle.little_endian.proofs.Numbers.{length-to_le}
use Rattle.md5_digest.specs.declared.Md5.{Md5}
use Rattle.md5_blocks.specs.declared.rounds.Words.{Words}
use Rattle.refusals.specs.Tests.{bare}
use Rattle.refusals.specs.declared.Refusal.{Refusal}
use Rattle.running_read.specs.declared.RunningRead.{RunningRead}
use Rattle.running_read.specs.declared.Pushed.{Pushed}
use Rattle.running_read.specs.declared.Ended.{Ended}
use Rattle.running_read.specs.Running.{start_read, over_of, push_answer, end_answer}
use Rattle.job_bytes.specs.Marks.{mark_of, is_marked, name_mark, name_marked}
use Rattle.job_bytes.specs.Reads.{words_bytes, md5_bytes, scan_bytes, read_job_bytes, words_at, md5_at, scan_in, read_job_in, read_job_of}
use Rattle.job_bytes.specs.Reads.{read_stored, read_pushed, job_number, read_ended}

-- ---- stores

sets_whole : (s p : List ℕ) → length p ≡ length s → sets s 0 p ≡ p
sets_whole s p h = simp (sets_over s p (omega arith), drop_of_length-le s {i = length p} (omega arith), append-nil)

pub copied : (n i : ℕ) (b : List ℕ) {p t : List ℕ} → i + n ≤ length b → p ≡ take n (drop i b) → t ≡ sets (replicate n 0) 0 p → t ≡ take n (drop i b)
copied n i b {p} {t} h e f = let part : List ℕ = take n (drop i b) in
    let size : length part ≡ n = length-take-le n (drop i b) (omega (arith, length-drop i b)) in
    f ∙ ap (sets (replicate n 0) 0) e ∙ sets_whole (replicate n 0) part (size ∙ sym (length-replicate {A = ℕ} n 0))

-- the next part at a place that is known
stored_on : {s t u p : List ℕ} {i : ℕ} {ps : List (List ℕ)} (k j : ℕ) → length p ≡ k → i + k ≡ j → t ≡ sets s i p → Stores t j ps u
    → Stores s i (p ∷ ps) u
stored_on {t = t} {u = u} {ps = ps} k j size e is r = stored k size is (subst (λ (n : ℕ). Stores t n ps u) (sym e) r)

-- ---- lengths

pub length_words : (w : Words) → length (words_bytes w) ≡ 16
unfolding words_bytes flatten
length_words w = simp (length-append, length-to_le)

pub length-md5 : (h : Md5) → length h.tail ≡ 64 → length (md5_bytes h) ≡ 88
unfolding md5_bytes flatten
length-md5 h tail = simp (length-append, length-to_le, length_words, tail)

pub length_scan : (sc : Scan) → length sc.head ≡ 56 → length sc.hash.tail ≡ 64 → length (scan_bytes sc) ≡ 192
unfolding scan_bytes flatten
length_scan sc head tail = simp (length-append, length-numbers, head, length-md5 sc.hash tail)

-- the arrays of a job have their lengths
pub record Sized (j : RunningRead) : Type 0 where
  pub header : length j.header ≡ 96
  pub control : length j.control.tail ≡ 64
  pub head : length j.list.head ≡ 56
  pub hash : length j.list.hash.tail ≡ 64

pub length_read : (j : RunningRead) → Sized j → length (read_job_bytes j) ≡ 392
unfolding read_job_bytes flatten
length_read j z =
    simp (length-append, length-to_le, z.header, length-md5 j.control z.control, length_scan j.list z.head z.hash)

-- ---- parts one after another

module _ (s : List ℕ) where
  pub words_stored : (i : ℕ) (w : Words) {t u v x : List ℕ} → t ≡ sets s i (to_le 4 w.a) → u ≡ sets t (i + 4) (to_le 4 w.b)
      → v ≡ sets u (i + 8) (to_le 4 w.c) → x ≡ sets v (i + 12) (to_le 4 w.d) → x ≡ sets s i (words_bytes w)
  unfolding words_bytes
  words_stored i w a b c d =
      stores_flatten
      (stored_on 4 (i + 4) (length-to_le 4 w.a) refl a
      (stored_on 4 (i + 8) (length-to_le 4 w.b) (omega arith) b
      (stored_on 4 (i + 12) (length-to_le 4 w.c) (omega arith) c (stored 4 (length-to_le 4 w.d) d stored_all))))

  pub md5_stored : (i : ℕ) (h : Md5) {t u v : List ℕ} → length h.tail ≡ 64 → t ≡ sets s i (words_bytes h.words) → u ≡ sets t (i + 16) h.tail
      → v ≡ sets u (i + 80) (to_le 8 h.total) → v ≡ sets s i (md5_bytes h)
  unfolding md5_bytes
  md5_stored i h tail a b c =
      stores_flatten
      (stored_on 16 (i + 16) (length_words h.words) refl a
      (stored_on 64 (i + 80) tail (omega arith) b (stored 8 (length-to_le 8 h.total) c stored_all)))

  pub scan_stored : (sc : Scan) {k : ℕ} {t u v : List ℕ} → length sc.head ≡ 56 → length sc.hash.tail ≡ 64 → k ≡ name_mark sc.named
      → t ≡ sets s 192 sc.head
      → u ≡ sets t 248 (numbers (sc.at ∷ sc.low ∷ k ∷ sc.totals.entries ∷ sc.totals.saved ∷ sc.totals.greatest ∷ []))
      → v ≡ sets u 296 (md5_bytes sc.hash) → v ≡ sets s 192 (scan_bytes sc)
  unfolding scan_bytes
  scan_stored sc {t = t} head tail mark a b c =
      let six : ℕ → List ℕ = λ k. sc.at ∷ sc.low ∷ k ∷ sc.totals.entries ∷ sc.totals.saved ∷ sc.totals.greatest ∷ [] in
      stores_flatten
      (stored 56 head a
      (stored 48 (length-numbers (six (name_mark sc.named))) (b ∙ ap (λ (k : ℕ). sets t 248 (numbers (six k))) mark)
      (stored 88 (length-md5 sc.hash tail) c stored_all)))

pub read_stored_lem : (j : RunningRead) {k : ℕ} {t u v w x : List ℕ} → Sized j → k ≡ mark_of j.ended → t ≡ sets (replicate 392 0) 0 (to_le 8 j.total)
    → u ≡ sets t 8 j.header → v ≡ sets u 104 (md5_bytes j.control) → w ≡ sets v 192 (scan_bytes j.list) → x ≡ sets w 384 (to_le 8 k)
    → x ≡ read_job_bytes j
unfolding read_job_bytes
read_stored_lem j {w = w} z mark a b c d e =
    let parts =
    stored 8 (length-to_le 8 j.total) a
    (stored 96 z.header b
    (stored 88 (length-md5 j.control z.control) c
    (stored 192 (length_scan j.list z.head z.hash) d
    (stored 8 (length-to_le 8 (mark_of j.ended)) (e ∙ ap (λ (k : ℕ). sets w 384 (to_le 8 k)) mark) stored_all)))) in
    stores_flatten parts ∙ sets_whole (replicate 392 0) (read_job_bytes j) (length_read j z ∙ sym (length-replicate {A = ℕ} 392 0))

pub read_of : (b : List ℕ) → length b ≡ 392 → read_job_of b ≡ read_job_in b
unfolding read_job_of
read_of b h = simp (eq-eqb (length b) 392 h)

pub read_none : (b : List ℕ) → (length b ≡ 392 → ⊥) → read_job_of b ≡ over_of start_read
unfolding read_job_of
read_none b h = simp (ne_eqb (length b) 392 h)

-- ---- what is stored

pub stored_accepted : (j : RunningRead) (b : List ℕ) → Sized j → length b ≡ 392 → read_stored 0 j b ≡ (0, read_job_bytes j)
unfolding read_stored
stored_accepted j b z size = let t : List ℕ = read_job_bytes j in
    let whole = length_read j z in
    let all : t ++ drop (length t) b ≡ t = ap (λ (l : List ℕ). t ++ l) (drop_of_length-le b {i = length t} (omega arith)) ∙ append-nil t in
    sym (numbered_as refl (unless_none t b {n = bare 0} refl refl (written_fits t b (omega arith) refl (sym all))))

pub stored_refused : (j : RunningRead) (b : List ℕ) → read_stored 20 j b ≡ (20, b)
unfolding read_stored
stored_refused j b = sym (numbered_as refl (unless_refused (read_job_bytes j) b {n = bare 20} refl (λ e. omega arith) refl))

-- ---- what is read

module _ (b : List ℕ) where
  pub words_read : (i : ℕ) {w x y z : ℕ} → w ≡ le_at 4 b i → x ≡ le_at 4 b (i + 4) → y ≡ le_at 4 b (i + 8) → z ≡ le_at 4 b (i + 12)
      → record { a = w; b = x; c = y; d = z } ≡ words_at b i
  words_read i p q r s = cc

  pub md5_read : (i : ℕ) {w : Words} {tail : List ℕ} {n : ℕ} → w ≡ words_at b i → tail ≡ take 64 (drop (i + 16) b) → n ≡ le_at 8 b (i + 80)
      → record { words = w; tail = tail; total = n } ≡ md5_at b i
  md5_read i p q r = cc

  pub scan_read : {at low k entries saved greatest : ℕ} {head : List ℕ} {named : NameSoFar} {hash : Md5} → head ≡ take 56 (drop 192 b) → at ≡ le_at 8 b 248
      → low ≡ le_at 1 b 256 → named ≡ name_marked k → k ≡ le_at 8 b 264 → entries ≡ le_at 8 b 272 → saved ≡ le_at 8 b 280 → greatest ≡ le_at 8 b 288
      → hash ≡ md5_at b 296
      → record {
        head = head;
        at = at;
        low = low;
        named = named;
        totals = record { entries = entries; saved = saved; greatest = greatest };
        hash = hash;
      }
      ≡ scan_in b
  scan_read a c d e f g h i j = cc

  pub read_read : {total k : ℕ} {header : List ℕ} {control : Md5} {list : Scan} {ended : Bool} → total ≡ le_at 8 b 0 → header ≡ take 96 (drop 8 b)
      → control ≡ md5_at b 104 → list ≡ scan_in b → ended ≡ is_marked k → k ≡ le_at 8 b 384
      → record { total = total; header = header; control = control; list = list; ended = ended } ≡ read_job_in b
  unfolding read_job_in
  read_read p q r s t u = cc

-- ---- the calls

-- what an end gives, from the answer of the job
abbrev pub ended_into : Ended → List ℕ → List ℕ → Refusal × List ℕ × List ℕ
ended_into e b out =
    let answer = read_into e.reading out in (answer.0, (read_stored (job_number answer.0.number) e.next b).1, answer.1)

triple : {r q : Refusal} {s t u v : List ℕ} → r ≡ q → s ≡ t → u ≡ v → ◌≡◌ {A = Refusal × List ℕ × List ℕ} (r, s, u) (q, t, v)
triple a b c = cc

module _ (b : List ℕ) {j : RunningRead} where
  pub pushed_by : (bs : List ℕ) {p : Pushed} {r : ℕ × List ℕ} → j ≡ read_job_of b → p ≡ push_answer j bs → r ≡ read_stored p.number p.next b
      → r ≡ read_pushed b bs
  pushed_by bs e f g = g ∙ ap (λ (p : Pushed). read_stored p.number p.next b) (f ∙ ap (λ (j : RunningRead). push_answer j bs) e)

  pub ended_by : (out : List ℕ) {q : Ended} {n m : ℕ} {r : Refusal} {room after : List ℕ} → j ≡ read_job_of b → q ≡ end_answer j
      → (r, room) ≡ read_into q.reading out → n ≡ job_number r.number → (m, after) ≡ read_stored n q.next b → (r, after, room) ≡ read_ended b out
  ended_by out {q} e f g h i = let refusal = ap (λ (p : Refusal × List ℕ). p.0) g in
      let room = ap (λ (p : Refusal × List ℕ). p.1) g in
      let number = h ∙ ap (λ (r : Refusal). job_number r.number) refusal in
      let after = ap (λ (p : ℕ × List ℕ). p.1) i ∙ ap (λ (k : ℕ). (read_stored k q.next b).1) number in
      triple refusal after room ∙ ap (λ (e : Ended). ended_into e b out) (f ∙ ap end_answer e)
