-- The lines that a replay prints, number by number.
--
--   files_more, files_same      the files of one number more
--   is_any ks                    whether there is a number
--   spaced_more                 numbers, and one more
--   Listed test k w v any       the files among the first k are put
--   listed_none, listed_more, listed_same     the loop of `put_files`
--   line_any, line_none         its ends
-- Assumes nothing.
use mathlib.Core.Path.{◌≡◌, refl, sym, ap, ◌∙◌}
use mathlib.Core.Bool.{Bool, true, false, cond, true≢false, false≢true}
use mathlib.Core.List.{List, [], ◌∷◌, ◌++◌, map, flatten, append_assoc, append-nil}
use Prim.Native.Nat.{ℕ, ◌+◌, ◌≤◌}
use native.Mathlib.Numerals.{add-one}
use lib.ListN.{length}
use Rattle.lent_bytes.proofs.PartsInRow.{flatten-append}
use Rattle.text.specs.Ascii.{ascii}
use Rattle.text.specs.Buffer.{usize_max}
use Rattle.text.specs.Writer.{Puts}
use Rattle.text.specs.declared.writer.Writer.{Writer}
use Rattle.text.specs.Decimal.{decimal, field}
use Rattle.text.proofs.WriterLaws.{puts_nil, puts_then}
use Rattle.replay.specs.Lines.{files_of, spaced, numbers_line}

-- ---- the files

module _ (test : ℕ → Bool) (k : ℕ) where
  files_next : (b : Bool) → test (k + 1) ≡ b → files_of (k + 1) test ≡ files_of k test ++ cond b ((k + 1) ∷ []) []
  unfolding files_of
  files_next b e =
      ap (λ (n : ℕ). files_of n test) (add-one k)
      ∙ ap (λ (n : ℕ). files_of k test ++ cond (test n) (n ∷ []) []) (sym (add-one k))
      ∙ ap (λ (b : Bool). files_of k test ++ cond b ((k + 1) ∷ []) []) e

  files_more : test (k + 1) ≡ true → files_of (k + 1) test ≡ files_of k test ++ ((k + 1) ∷ [])
  files_more e = files_next true e

  files_same : test (k + 1) ≡ false → files_of (k + 1) test ≡ files_of k test
  files_same e = files_next false e ∙ append-nil (files_of k test)

-- ---- the numbers

abbrev pub is_any : List ℕ → Bool
is_any [] = false
is_any (k ∷ ks) = true

any_more : (ks : List ℕ) (k : ℕ) → true ≡ is_any (ks ++ (k ∷ []))
any_more [] k = refl
any_more (j ∷ ks) k = refl

map-append : (ks js : List ℕ) → map (field (ascii " ")) (ks ++ js) ≡ map (field (ascii " ")) ks ++ map (field (ascii " ")) js
map-append [] js = refl
map-append (k ∷ ks) js = ap (λ (l : List (List ℕ)). field (ascii " ") k ∷ l) (map-append ks js)

spaced_more : (ks : List ℕ) (k : ℕ) → spaced ks ++ cond (is_any ks) (field (ascii " ") k) (decimal k) ≡ spaced (ks ++ (k ∷ []))
unfolding flatten
spaced_more [] k = sym (append-nil (decimal k))
spaced_more (j ∷ ks) k =
    append_assoc (decimal j) (flatten (map (field (ascii " ")) ks)) (field (ascii " ") k)
    ∙ ap (λ (l : List ℕ). decimal j ++ l)
    (ap (λ (l : List ℕ). flatten (map (field (ascii " ")) ks) ++ l) (sym (append-nil (field (ascii " ") k)))
    ∙ sym (ap flatten (map-append ks (k ∷ [])) ∙ flatten-append (map (field (ascii " ")) ks) (field (ascii " ") k ∷ [])))

-- v is the writer w after the files among the first k, with spaces between, and any says whether there is one
pub record Listed (test : ℕ → Bool) (k : ℕ) (w v : Writer) (any : Bool) : Type 0 where
  pub is : any ≡ is_any (files_of k test)
  pub puts : Puts w v (spaced (files_of k test))

pub listed_none : (test : ℕ → Bool) (w : Writer) → length w.out.now ≤ usize_max → Listed test 0 w w false
unfolding files_of
listed_none test w room = record { is = refl; puts = puts_nil w room }

module _ (test : ℕ → Bool) (k : ℕ) {w v : Writer} {any : Bool} (before : Listed test k w v any) where
  pub listed_more : {u : Writer} → test (k + 1) ≡ true → Puts v u (cond any (field (ascii " ") (k + 1)) (decimal (k + 1)))
      → Listed test (k + 1) w u true
  listed_more t p = record {
    is = any_more (files_of k test) (k + 1) ∙ ap is_any (sym (files_more test k t));
    puts = rw (files_more test k t, ← spaced_more (files_of k test) (k + 1), ← before.is) (puts_then before.puts p);
  }

  pub listed_same : test (k + 1) ≡ false → Listed test (k + 1) w v any
  listed_same t = record { is = before.is ∙ ap is_any (sym (files_same test k t)); puts = rw (files_same test k t) before.puts }

-- ---- the line

pub line_any : (ks : List ℕ) → is_any ks ≡ true → spaced ks ++ (10 ∷ []) ≡ numbers_line ks
line_any [] e = absurd (false≢true e)
line_any (k ∷ ks) e = refl

pub line_none : (ks : List ℕ) → is_any ks ≡ false → spaced ks ++ ascii "none\n" ≡ numbers_line ks
line_none [] e = refl
line_none (k ∷ ks) e = absurd (true≢false e)
