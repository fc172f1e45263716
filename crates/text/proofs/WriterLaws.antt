-- What a writer has put.
--
--   byte_stored, byte_counted     one byte
--   puts_nil       no text
--   puts_then      one text after another
--   puts_last      the last text of a row: `puts_then p (puts_then q (puts_last r))` puts the three, joined by flatten
--   puts_back      a text put by a reborrow
--   puts_whole     a text that fits, put from the start
--   Remains w v r t     v is the writer w after a part of the text t, of which r remains: what a loop keeps
--   remains_all    all of the text
--   remains_less   the front of what remains is put
--   remains_last   all that remains is put
--   remains_none   nothing remains
-- Assumes nothing.
use mathlib.Core.Path.{◌≡◌, refl, sym, ap, ap₂, ◌∙◌, subst}
use mathlib.Core.List.{List, [], ◌∷◌, ◌++◌, append-nil}
use Prim.Native.Nat.{ℕ, ◌+◌, ◌≤◌, ◌<◌, min}
use native.Mathlib.Omega.{arith}
use lib.ListN.{length, drop, set}
use Rattle.text.specs.Buffer.{Buffer, buffer, usize_max, put}
use Rattle.text.specs.Writer.{buffer_of, Puts}
use Rattle.text.specs.declared.writer.Writer.{Writer}
use Rattle.text.proofs.BufferLaws.{put_nil, put-append, put-length, put_beyond, put_whole}

-- one byte c, inside the buffer l and past its end, and the position r after it
module _ (l : List ℕ) (at r c : ℕ) (low : at ≤ usize_max) (next : r ≡ min (at + 1) usize_max) where
  pub byte_stored : at < length l → buffer (set l at c) (min r usize_max) ≡ put (buffer l (min at usize_max)) (c ∷ [])
  unfolding put
  byte_stored h = let here : min at usize_max ≡ at = omega arith in rw here (ap (buffer (set l at c)) (omega arith))

  pub byte_counted : length l ≤ at → buffer l (min r usize_max) ≡ put (buffer l (min at usize_max)) (c ∷ [])
  byte_counted h = let here : min at usize_max ≡ at = omega arith in rw here (ap (buffer l) (omega arith) ∙ sym (put_beyond l at (c ∷ []) h))

pub puts_nil : (w : Writer) → length w.out.now ≤ usize_max → Puts w w []
puts_nil w h = record { same_reference = refl; room = h; puts = sym (put_nil w.out.now _ (omega arith)) }

pub puts_then : {w v u : Writer} {s t : List ℕ} → Puts w v s → Puts v u t → Puts w u (s ++ t)
puts_then {w} {v} {u} {s} {t} p q = record {
  same_reference = q.same_reference ∙ p.same_reference;
  room = p.room;
  puts = q.puts ∙ ap (λ (b : Buffer). put b t) p.puts ∙ put-append (buffer_of w) s t p.room;
}

pub puts_last : {w v : Writer} {t : List ℕ} → Puts w v t → Puts w v (t ++ [])
puts_last {w} {v} {t} p = subst (Puts w v) (sym (append-nil t)) p

-- v is w after the text that the writer s, a reborrow of w, put until it was h
pub puts_back : {w v s h : Writer} {t : List ℕ} → v.out.ghost_name ≡ w.out.ghost_name → v.out.now ≡ h.out.now → v.at ≡ h.at → buffer_of w ≡ buffer_of s
    → Puts s h t → Puts w v t
puts_back {t = t} same bytes at starts p = record {
  same_reference = same;
  room = rw (ap (λ (b : Buffer). b.bytes) starts) p.room;
  puts = ap₂ (λ (l : List ℕ) (n : ℕ). buffer l (min n usize_max)) bytes at ∙ p.puts ∙ ap (λ (b : Buffer). put b t) (sym starts);
}

-- a text that fits, put from the start of the buffer l
pub puts_whole : (l : List ℕ) {w v : Writer} {t : List ℕ} → buffer_of w ≡ buffer l 0 → Puts w v t → length t ≤ length l → length l ≤ usize_max
    → buffer_of v ≡ buffer (t ++ drop (length t) l) (length t)
puts_whole l {w} {v} {t} start p h k = p.puts ∙ ap (λ (b : Buffer). put b t) start ∙ put_whole l t h k

-- ---- a text put by a loop

pub record Remains (w v : Writer) (r t : List ℕ) : Type 0 where
  pub same_reference : v.out.ghost_name ≡ w.out.ghost_name
  room : length w.out.now ≤ usize_max
  same_length : length v.out.now ≡ length w.out.now
  rest : put (buffer_of v) r ≡ put (buffer_of w) t

pub remains_all : (w : Writer) (t : List ℕ) → length w.out.now ≤ usize_max → Remains w w t t
remains_all w t h = record { same_reference = refl; room = h; same_length = refl; rest = refl }

module _ {w v : Writer} {r t : List ℕ} (part : Remains w v r t) where
  pub remains_less : {u : Writer} {s q : List ℕ} → r ≡ s ++ q → Puts v u s → Remains w u q t
  remains_less {u} {s} {q} more p = record {
    same_reference = p.same_reference ∙ part.same_reference;
    room = part.room;
    same_length = ap (λ (b : Buffer). length b.bytes) p.puts ∙ put-length (buffer_of v) s ∙ part.same_length;
    rest = ap (λ (b : Buffer). put b q) p.puts ∙ put-append (buffer_of v) s q p.room ∙ ap (put (buffer_of v)) (sym more) ∙ part.rest;
  }

  pub remains_none : r ≡ [] → Puts w v t
  remains_none none = record {
    same_reference = part.same_reference;
    room = part.room;
    puts = sym (ap (put (buffer_of v)) none ∙ put_nil v.out.now _ (omega arith)) ∙ part.rest;
  }

  pub remains_last : {u : Writer} {s : List ℕ} → r ≡ s → Puts v u s → Puts w u t
  remains_last {u} {s} last p = record {
    same_reference = p.same_reference ∙ part.same_reference;
    room = part.room;
    puts = p.puts ∙ ap (put (buffer_of v)) (sym last) ∙ part.rest;
  }
