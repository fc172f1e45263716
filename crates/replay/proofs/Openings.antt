-- An opening by the numbers that were read off a first line.
--
--   some        there is a number
--   many        more than 255 of them
--   opened      no more
--   line_opened, line_other     a line with the shape, and another
-- Assumes nothing.
use mathlib.Core.Path.{◌≡◌, refl, sym, ap, ◌∙◌}
use mathlib.Core.Bool.{true, false}
use mathlib.Core.List.{List, [], ◌∷◌, map}
use Prim.Native.Nat.{ℕ, suc, ◌+◌, ◌-◌, ◌<◌, ◌≤◌, min}
use native.Mathlib.Omega.{arith}
use lib.ListN.{length, get_or, take, drop, length-drop}
use lib.Seq.{get_or-take, get_or-drop, length-take-le}
use Rattle.codes.specs.declared.Code.TheVariants.{Powers}
use Rattle.std.specs.Prelude.{Err}
use Rattle.inventory.specs.Steps.{open_step, refused_opening}
use Rattle.inventory.proofs.Outcomes.{returned}
use Rattle.text.specs.Buffer.{usize_max}
use Rattle.text.specs.Decimal.{value_of}
use Rattle.text.specs.TextLines.{words_of}
use Rattle.replay.specs.Log.{is_first_line, numbers_of}
use Rattle.replay.specs.FirstLine.{NumbersRead, opened_line}
use Rattle.replay.specs.declared.first_line.Numbers.{Numbers}
use Rattle.replay.proofs.FirstLineLaws.{some_words}
use Rattle.replay.proofs.CutNumbers.{open_many, open_cut}

length-map : (ws : List (List ℕ)) → length (map value_of ws) ≡ length ws
length-map [] = refl
length-map (w ∷ ws) = ap suc (length-map ws)

module _ (line : List ℕ) (r : Numbers) (N : NumbersRead line r) where
  pub some : 0 < r.count
  some = omega (arith, N.counted, length-map (words_of line), some_words line)

  abbrev ns : List ℕ
  ns = numbers_of line

  pub many : 255 < r.count → refused_opening 10 ≡ open_step Powers (get_or ns 0 0) (drop 1 ns)
  many l = open_many (get_or ns 0 0) (drop 1 ns) (omega (arith, N.counted, length-drop 1 ns))

  pub opened : r.count ≤ 255
      → open_step Powers (get_or r.values 0 0) (take (r.count - 1) (drop 1 r.values)) ≡ open_step Powers (get_or ns 0 0) (drop 1 ns)
  opened l = let c = N.counted in
      let long = N.full in
      let s = some in
      let d = length-drop 1 r.values in
      open_cut (get_or ns 0 0) _ (drop 1 ns) _ (N.each 0 (omega arith) (omega arith))
      (length-take-le (r.count - 1) (drop 1 r.values) (omega arith) ∙ sym (length-drop 1 ns ∙ ap (λ (k : ℕ). k - 1) (sym c)))
      (λ i h.
      let e = length-drop 1 ns in
      get_or-take (r.count - 1) (drop 1 r.values) i 0 (omega arith) ∙ get_or-drop 1 r.values i 0 ∙ N.each (1 + i) (omega arith) (omega arith)
      ∙ sym (ap (λ (x : ℕ). min x usize_max) (get_or-drop 1 ns i 0)))

-- ---- what opening by a line gives

pub line_opened : (line : List ℕ) → is_first_line line ≡ true
    → returned (open_step Powers (get_or (numbers_of line) 0 0) (drop 1 (numbers_of line))) ≡ opened_line line
unfolding opened_line
line_opened line e = rw e refl

pub line_other : (line : List ℕ) → is_first_line line ≡ false → Err 28 ≡ opened_line line
unfolding opened_line
line_other line e = rw e refl
