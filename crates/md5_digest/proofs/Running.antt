-- A running hash gives the digest of the whole message, however it was cut.
--
--   push_state     a push after the message m
--   run_state      any run of pushes
--   finish_state   the end after the message m
--   whole_digest   the end of one push: the digest of the bytes
--   run_digest     the end of any run of pushes: the digest of the parts, joined
--   push_short, push_long   a push, as the code works it out: all the bytes wait, or the tail is filled and whole blocks follow
-- Assumes nothing.
use Rattle.std.proofs.Common.{◌≡◌, ℕ, ◌+◌, ◌-◌, ◌*◌, ◌/◌, ◌%◌, ◌^◌, ◌<◌, List, [], ◌∷◌, ◌++◌, length, take, drop, replicate, sym, ap, ◌∙◌, ap₂, append_assoc, append-nil, arith, length-append, length-take-le}
use mathlib.Core.List.{flatten}
use lib.Seq.{paste}
use Rattle.md5_blocks.specs.declared.rounds.Words.{Words}
use Rattle.md5_blocks.specs.Blocks.{all_blocks, rest}
use Rattle.md5_blocks.proofs.BlockLaws.{all_short, all_one, all_cons, all_join, rest_short, rest_cons, rest_join, length_rest}
use Rattle.md5_digest.specs.declared.Md5.{Md5}
use Rattle.md5_digest.specs.Padding.{padding, padded}
use Rattle.md5_digest.specs.Digest.{start, output, md5}
use Rattle.md5_digest.specs.Running.{tail_of, state_of, waiting, pushed, finished, pushed_all}
use Rattle.md5_digest.specs.Claim.{WholeDigest, RunDigest}
use Rattle.md5_digest.proofs.PaddingLaws.{padding_mod}
use Rattle.md5_digest.proofs.Tail.{tail_fill, tail_first, tail_full, take_tail}

-- ---- the state after a message

waiting_state : (m : List ℕ) → waiting (state_of m) ≡ rest m
unfolding state_of
waiting_state m = let e : length m % 2 ^ 64 % 64 ≡ length (rest m) = omega (arith, length_rest m) in
    ap (λ (k : ℕ). take k (tail_of (rest m))) e ∙ take_tail (rest m)

pub push_state : (m bs : List ℕ) → pushed (state_of m) bs ≡ state_of (m ++ bs)
unfolding pushed state_of
push_state m bs =
    let words = ap (λ (l : List ℕ). all_blocks (all_blocks start m) (l ++ bs)) (waiting_state m) ∙ sym (all_join bs start m) in
    let left = ap (λ (l : List ℕ). rest (l ++ bs)) (waiting_state m) ∙ sym (rest_join bs start m) in
    let total : (length m % 2 ^ 64 + length bs) % 2 ^ 64 ≡ length (m ++ bs) % 2 ^ 64 = omega (arith, length-append m bs) in
    cc (words, left, total)

run_state : (m : List ℕ) (ps : List (List ℕ)) → pushed_all (state_of m) ps ≡ state_of (m ++ flatten ps)
unfolding flatten
run_state m [] = ap state_of (sym (append-nil m))
run_state m (p ∷ ps) =
    ap (λ (h : Md5). pushed_all h ps) (push_state m p) ∙ run_state (m ++ p) ps ∙ ap state_of (append_assoc m p (flatten ps))

pub finish_state : (m : List ℕ) → finished (state_of m) ≡ md5 m
unfolding finished md5 padded state_of
finish_state m =
    ap output
    (ap₂ (λ (l p : List ℕ). all_blocks (all_blocks start m) (l ++ p)) (waiting_state m) (padding_mod (length m))
    ∙ sym (all_join (padding (length m)) start m))

pub whole_digest : WholeDigest
whole_digest m = ap finished (push_state [] m) ∙ finish_state m

pub run_digest : RunDigest
run_digest ps = ap finished (run_state [] ps) ∙ finish_state (flatten ps)

-- ---- a push, as the code works it out

module _ (h : Md5) (bs : List ℕ) (tailed : length h.tail ≡ 64) {clean : List ℕ} {n : ℕ}
    (cleaned : clean ≡ paste (replicate 64 0) 0 (waiting h) (length (waiting h))) (counted : n ≡ (h.total + length bs) % 2 ^ 64) where
  length-waiting : length (waiting h) ≡ h.total % 64
  length-waiting = length-take-le (h.total % 64) h.tail (omega arith)

  pub push_short : {tail : List ℕ} → length bs < 64 - h.total % 64 → tail ≡ paste clean (h.total % 64) bs (length bs)
      → record { words = h.words; tail = tail; total = n } ≡ pushed h bs
  unfolding pushed
  push_short {tail} few filled = let m : List ℕ = waiting h ++ bs in
      let small : length m < 64 = omega (arith, length-append (waiting h) bs, length-waiting) in
      let words : h.words ≡ all_blocks h.words m = sym (all_short h.words m small) in
      let kept : tail ≡ tail_of m = tail_fill (waiting h) bs length-waiting (tail_first (waiting h) cleaned) filled in
      let left : tail ≡ tail_of (rest m) = kept ∙ ap tail_of (sym (rest_short m small)) in
      cc (words, left, counted)

  pub push_long : {first tail : List ℕ} {words : Words} (part more last : List ℕ) → length part ≡ 64 - h.total % 64 → bs ≡ part ++ more
      → first ≡ paste clean (h.total % 64) part (length part) → last ≡ drop (length more - length more % 64) more
      → tail ≡ paste (replicate 64 0) 0 last (length last) → words ≡ all_blocks (all_blocks h.words first) more
      → record { words = words; tail = tail; total = n } ≡ pushed h bs
  unfolding pushed
  push_long {first} {tail} {words} part more last size cut filled ended kept after = let m : List ℕ = waiting h ++ bs in
      let block : List ℕ = waiting h ++ part in
      let full : length block ≡ 64 = omega (arith, length-append (waiting h) part, length-waiting) in
      let first_is : first ≡ block = tail_fill (waiting h) part length-waiting (tail_first (waiting h) cleaned) filled ∙ tail_full block full in
      let whole : m ≡ block ++ more = ap (λ (l : List ℕ). waiting h ++ l) cut ∙ sym (append_assoc (waiting h) part more) in
      let words_is : words ≡ all_blocks h.words m =
      after ∙ ap (λ (b : List ℕ). all_blocks (all_blocks h.words b) more) first_is ∙ ap (λ (w : Words). all_blocks w more) (all_one h.words block full)
      ∙ sym (all_cons h.words block more full) ∙ ap (all_blocks h.words) (sym whole) in
      let blocks : length more - length more % 64 ≡ 64 * (length more / 64) = omega arith in
      let left : last ≡ rest m = ended ∙ ap (λ (j : ℕ). drop j more) blocks ∙ sym (rest_cons block more full) ∙ ap rest (sym whole) in
      let tail_is : tail ≡ tail_of (rest m) = tail_first last kept ∙ ap tail_of left in
      cc (words_is, tail_is, counted)
