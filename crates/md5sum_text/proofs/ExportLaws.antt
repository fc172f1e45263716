-- The lines of an export.
--
--   line_for_lem                 the line of an entry that fits is the line of its sum and its name
--   sum_spells               its sum spells its MD5
--   lines_for                the text of an export is the lines of the entries
--   all_fitting_lem, fitting_all     all names fit where the test says so, and the other way round
--   at_map                   an element of a list that is mapped
-- Assumes nothing.
use mathlib.Core.Path.{◌≡◌, refl, ap}
use mathlib.Core.Bool.{Bool, true, false, ◌&&◌}
use mathlib.Core.List.{List, [], ◌∷◌, ◌++◌, map, flatten}
use Prim.Native.Nat.{ℕ, zero, suc, ◌<◌}
use native.Mathlib.Omega.{arith}
use lib.ListN.{length, drop, get_or, length-take, length-drop}
use Rattle.computed_tests.proofs.Tests.{and_both}
use Rattle.cut_lists.specs.All.{All, all_none, all_more}
use Rattle.cut_lists.proofs.AllLaws.{all_map}
use Rattle.little_endian.specs.Bytes.{Bytes}
use Rattle.little_endian.proofs.Numbers.{bytes_take, bytes_drop}
use Rattle.entries.specs.Entry.{md5_of, name_of}
use Rattle.entries.proofs.EntryBytes.{IsEntryBytes}
use Rattle.entries.proofs.NameLaws.{length_units}
use Rattle.text.proofs.HexLaws.{hex_length, hex_lower, hex_spelled}
use Rattle.md5sum_text.specs.Names.{text_of, is_fitting, sum_of}
use Rattle.md5sum_text.specs.Export.{line_for, export_text, all_fitting}
use Rattle.md5sum_text.specs.Claim.{LineOf, Fits, Spells}
use Rattle.md5sum_text.proofs.FaultLaws.{fits_all, all_fit}
use Rattle.md5sum_text.proofs.ShapeLaws.{lower_all}

-- ---- entries

module _ {e : List ℕ} (sound : IsEntryBytes e) where
  hash_length : length (md5_of e) ≡ 16
  hash_length = omega (arith, length-take 16 (drop 24 e), length-drop 24 e, sound.low)

  hash_bytes : Bytes (md5_of e)
  hash_bytes = bytes_take 16 (drop 24 e) (bytes_drop 24 e sound.bytes)

  pub sum_spells : Spells (sum_of e) (md5_of e)
  sum_spells = record {
    sum-length = omega (arith, hex_length (md5_of e), hash_length);
    digits = lower_all (sum_of e) (hex_lower (md5_of e) hash_bytes);
    spelled = λ k h. hex_spelled (md5_of e) hash_bytes k (omega (arith, hash_length));
  }

  pub line_for_lem : Fits e → LineOf (sum_of e) (text_of e) (line_for e)
  unfolding line_for flatten
  line_for_lem fits = record {
    line_is = refl;
    sum-length = sum_spells.sum-length;
    digits = sum_spells.digits;
    some = omega (arith, length_units (name_of e), length-drop 56 e, sound.low);
    no_end = all_map (λ u h z. omega arith) fits;
  }

-- ---- the text

pub lines_for : (es : List (List ℕ)) → export_text es ≡ flatten (map line_for es)
unfolding export_text flatten
lines_for [] = refl
lines_for (e ∷ es) = ap (λ (t : List ℕ). line_for e ++ t) (lines_for es)

pub all_fitting_lem : (es : List (List ℕ)) → all_fitting es ≡ true → All Fits es
all_fitting_lem [] e = all_none
all_fitting_lem (x ∷ es) e = let b = and_both (is_fitting x) (all_fitting es) e in all_more (fits_all (text_of x) b.0) (all_fitting_lem es b.1)

pub fitting_all : {es : List (List ℕ)} → All Fits es → all_fitting es ≡ true
fitting_all all_none = refl
fitting_all (all_more h hs) = simp (all_fit h, fitting_all hs)

-- one that does not
pub unfitting : (es : List (List ℕ)) → all_fitting es ≡ false → (k : ℕ) × (k < length es) × (Fits (get_or es k []) → ⊥)
unfitting [] e = absurd (let z : ◌≡◌ {A = ℕ} 0 1 = cc in omega arith)
unfitting (x ∷ es) e = by (is_fitting x) refl e (λ r. unfitting es r)
  where
    by : (b : Bool) → is_fitting x ≡ b → (b && all_fitting es) ≡ false → (all_fitting es ≡ false → (k : ℕ) × (k < length es) × (Fits (get_or es k []) → ⊥))
        → (k : ℕ) × (k < suc (length es)) × (Fits (get_or (x ∷ es) k []) → ⊥)
    by true z e r = let f = r e in (suc f.0, omega (arith, f.1), f.2)
    by false z e r = (0, omega arith, λ h. let is = all_fit h in absurd (let q : ◌≡◌ {A = ℕ} 0 1 = cc in omega arith))

pub at_map : {B : Type 0} (f : List ℕ → B) (xs : List (List ℕ)) (k : ℕ) (d : B) → k < length xs → get_or (map f xs) k d ≡ f (get_or xs k [])
at_map f [] k d h = absurd (omega arith)
at_map f (x ∷ xs) zero d h = refl
at_map f (x ∷ xs) (suc k) d h = at_map f xs k d (omega arith)
