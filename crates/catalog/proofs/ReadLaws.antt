-- What a file that is read tells a catalog.
--
--   Told f p     what reading tells of a file f with the parts p
-- Assumes nothing.
use Rattle.std.specs.Prelude.{Ok}
use mathlib.Core.Path.{◌≡◌, sym, ap, ◌∙◌}
use mathlib.Core.Bool.{true}
use mathlib.Core.List.{List}
use Prim.Native.Nat.{ℕ, ◌^◌, ◌≤◌, ◌<◌}
use native.Mathlib.Omega.{arith}
use lib.ListN.{length, take, drop, length-drop}
use lib.Seq.{length-take-le}
use Rattle.entries.specs.Numbering.{saved_of}
use Rattle.entries.specs.Walk.{greatest_of}
use Rattle.entries.specs.declared.Totals.{Totals}
use Rattle.entries.proofs.WalkLaws.{walk_totals}
use Rattle.par1_read.specs.Reading.{entries_in, read_of}
use Rattle.par1_read.specs.declared.reading.Parts.{Parts}
use Rattle.par1_read.proofs.ReadingLaws.{read_tells}
use Rattle.par1_rules.specs.Layout.{volume_number_of, data_size_of, control_hash_of, list_of}
use Rattle.par1_rules.proofs.RuleLaws.{number_range}
use Rattle.par1_rules.specs.Rules.{number_allowed, data_allowed}
use Rattle.catalog.specs.Rows.{row, number_of, size_of, volume_row}
use Rattle.catalog.proofs.RowLaws.{length-row, number_row, size_row}

pub record Told (f : List ℕ) (p : Parts) : Type 0 where
  pub number_is : p.number ≡ volume_number_of f
  pub size_is : p.data_size ≡ data_size_of f
  pub entries_are : p.entries ≡ length (entries_in f)
  pub list_is : take p.list_size (drop 96 f) ≡ list_of f
  pub number_right : number_allowed (volume_number_of f) (length (saved_of (entries_in f))) ≡ true
  pub data_right : data_allowed (volume_number_of f) (greatest_of (entries_in f)) (data_size_of f) ≡ true
  pub long : 96 ≤ length f
  pub short : data_size_of f < 2 ^ 64
  pub low : volume_number_of f ≤ 255

pub told : (f : List ℕ) {p : Parts} → read_of f ≡ Ok p → Told f p
told f {p} e = let r = read_tells f p e in
    let t = r.tests in
    let are = walk_totals (list_of f) t.walk_is in
    let right = ap (λ (u : Totals). number_allowed (volume_number_of f) u.saved) (sym are) ∙ t.totals.number_right in
    record {
      number_is = ap (λ (q : Parts). q.number) r.parts_are;
      size_is = ap (λ (q : Parts). q.data_size) r.parts_are;
      entries_are = ap (λ (q : Parts). q.entries) r.parts_are ∙ sym t.totals.count_is ∙ ap (λ (u : Totals). u.entries) are;
      list_is = ap (λ (q : Parts). take q.list_size (drop 96 f)) r.parts_are;
      number_right = right;
      data_right = ap (λ (u : Totals). data_allowed (volume_number_of f) u.greatest (data_size_of f)) (sym are) ∙ t.totals.data_right;
      long = t.header.size.low;
      short = omega (arith, t.header.layout.data_end, t.header.size.high);
      low = (number_range (volume_number_of f) _ right).0;
    }

-- ---- the row of a volume

pub length_control : (f : List ℕ) → 96 ≤ length f → length (control_hash_of f) ≡ 16
length_control f h = length-take-le 16 (drop 16 f) (omega (arith, length-drop 16 f))

module _ (f : List ℕ) {p : Parts} (t : Told f p) where
  pub length_volume_row : length (volume_row f) ≡ 28
  length_volume_row = length-row _ _ _ (length_control f t.long)

  pub volume_row_number : number_of (volume_row f) ≡ volume_number_of f
  volume_row_number = number_row (volume_number_of f) _ _ (omega (arith, t.low))

  pub volume_row_size : size_of (volume_row f) ≡ data_size_of f
  volume_row_size = size_row _ (data_size_of f) _ t.short

  pub made_row : {r hash : List ℕ} → hash ≡ control_hash_of f → r ≡ row p.number p.data_size hash → r ≡ volume_row f
  made_row {r} {hash} h e = cc
