-- Document 01's example of a listing.
--
--   sixteen          a list of 16 bytes, as its elements
--   length_list, walked_so, lines_are     its list, computed: 138 bytes, two entries of which one is saved, and their lines
--   head_is          the first line
--   listed_by        an index of a list that is so computed
--   example_lists    the claim
-- Assumes nothing.
use Rattle.std.specs.Prelude.{Ok}
use mathlib.Core.Path.{◌≡◌, refl, sym, ap, ap₂, ◌∙◌, subst}
use mathlib.Core.List.{List, [], ◌++◌, flatten}
use Prim.Native.Nat.{ℕ, ◌^◌, ◌<◌}
use native.Mathlib.Omega.{arith}
use lib.ListN.{length, get_or}
use borrow.Author.Tests.{le-leb}
use Rattle.computed_tests.specs.Lists.{list_below}
use Rattle.computed_tests.proofs.Lists.{list_below_is}
use Rattle.cut_lists.specs.Pieces.{cut_in, cut}
use Rattle.codes.specs.declared.Code.{Code}
use Rattle.little_endian.specs.Bytes.{from_le, to_le, le_at}
use Rattle.lent_bytes.specs.Equal.{equal}
use Rattle.entries.specs.Entry.{units_of, is_counted, unit_allowed, is_dots, name_allowed, entry_size_allowed, body_allowed, entry_allowed, length_of}
use Rattle.entries.specs.Numbering.{saved_of}
use Rattle.entries.specs.Walk.{entries_of, walk_of}
use Rattle.entries.proofs.WalkLaws.{walk_count, walk_saved}
use Rattle.par1.specs.Claim.{parts_for}
use Rattle.par1.proofs.ReadWritten.{ListPassed, volume_back}
use Rattle.par1_read.specs.Reading.{entries_in}
use Rattle.par1_rules.specs.Rules.{number_allowed, data_allowed}
use Rattle.par1_write.specs.VolumeWriting.{volume_bytes}
use Rattle.par1_write.proofs.VolumeWritingLaws.{length_volume}
use Rattle.refusals.specs.Limits.{max_listed_length}
use Rattle.text.specs.Ascii.{ascii}
use Rattle.text.specs.Decimal.{decimal, decimal_in}
use Rattle.listing.specs.Lines.{shown, label, line_of, head_line, entry_lines}
use Rattle.listing.specs.Listing.{listing_of, input_listing}
use Rattle.listing.specs.Claim.{example_list, ListedAsShown, ExampleLists}

abbrev byte : List ℕ → ℕ → ℕ
byte a p = get_or a p 0

sixteen : (a : List ℕ) → length a ≡ 16 → a ≡ list_below 16 (byte a)
sixteen a h = list_below_is 16 (byte a) a h (λ p l. refl)

head_is : head_line 0 2 1 ++ ascii "1 5 A.LOG\n- 12 NOTE.TXT\n" ≡ ascii "volume 0 files 2 saved 1\n1 5 A.LOG\n- 12 NOTE.TXT\n"
unfolding head_line flatten decimal decimal_in
head_is = refl

module _ (a b c d : ℕ → ℕ) where
  abbrev list : List ℕ
  list = example_list (list_below 16 a) (list_below 16 b) (list_below 16 c) (list_below 16 d)

  length_list : length list ≡ 138
  unfolding example_list list_below flatten to_le
  length_list = refl

  walked_so : walk_of list ≡ Ok (record { entries = 2; saved = 1; greatest = 5 })
  unfolding example_list list_below flatten from_le to_le le_at cut cut_in length_of entry_allowed body_allowed entry_size_allowed name_allowed units_of unit_allowed is_dots equal is_counted walk_of
  walked_so = refl

  lines_are : entry_lines 0 (entries_of list).pieces ≡ ascii "1 5 A.LOG\n- 12 NOTE.TXT\n"
  unfolding example_list list_below flatten from_le to_le le_at cut cut_in length_of entry_allowed body_allowed entry_size_allowed name_allowed units_of unit_allowed is_dots equal is_counted shown label line_of entry_lines decimal decimal_in
  lines_are = refl

module _ (code : Code) (program : ℕ) (small : program < 2 ^ 32) (l : List ℕ) (size : length l ≡ 138)
    (walk : walk_of l ≡ Ok (record { entries = 2; saved = 1; greatest = 5 }))
    (lines : entry_lines 0 (entries_of l).pieces ≡ ascii "1 5 A.LOG\n- 12 NOTE.TXT\n") where
  abbrev index : List ℕ
  index = volume_bytes code program 0 l []

  index_length : length index ≡ 234
  index_length = let n = length_volume code program 0 l [] in omega arith

  passed : ListPassed 0 l 0
  unfolding number_allowed data_allowed
  passed = record {
    totals_of_lem = record { entries = 2; saved = 1; greatest = 5 };
    walk_is = walk;
    tests = record { number_right = refl; data_right = refl; size = record { low = omega arith; high = omega arith } };
  }

  listed_by : ListedAsShown index
  unfolding input_listing listing_of
  listed_by = let back = volume_back code program 0 l [] small (omega arith) passed in
      let n : length (entries_of l).pieces ≡ 2 = sym (walk_count l walk) in
      let k : length (saved_of (entries_of l).pieces) ≡ 1 = sym (walk_saved l walk) in
      record {
        parts = parts_for code program 0 l [];
        read_is = back.read_is;
        list_size_lem = size;
        data_start_lem = omega arith;
        length_is = index_length;
        listing_is = simp (le-leb (length index) max_listed_length (omega (arith, index_length)), back.read_is)
            (ap₂ (λ (i j : ℕ). head_line 0 i j ++ entry_lines 0 (entries_in index)) n k
            ∙ ap (λ (t : List ℕ). head_line 0 2 1 ++ t) (ap (λ (m : List ℕ). entry_lines 0 (entries_of m).pieces) back.list_is ∙ lines)
            ∙ head_is);
      }

pub example_lists : ExampleLists
example_lists code program small a b c d ha hb hc hd =
    subst (λ (l : List ℕ). ListedAsShown (volume_bytes code program 0 l [])) (sym same)
    (listed_by code program small l (length_list (byte a) (byte b) (byte c) (byte d)) (walked_so (byte a) (byte b) (byte c) (byte d))
    (lines_are (byte a) (byte b) (byte c) (byte d)))
  where
    l : List ℕ
    l = list (byte a) (byte b) (byte c) (byte d)

    same : example_list a b c d ≡ l
    same =
        ap₂ (λ (x y : List ℕ). example_list x y c d) (sixteen a ha) (sixteen b hb)
        ∙ ap₂ (λ (x y : List ℕ). example_list (list_below 16 (byte a)) (list_below 16 (byte b)) x y) (sixteen c hc) (sixteen d hd)
