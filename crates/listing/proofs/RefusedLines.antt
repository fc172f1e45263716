-- How a refused file is listed.
--
--   line_placed, line_bare     its line, with the place and without
--   refused-listed             the claim
-- Assumes nothing.
use mathlib.Core.Path.{◌≡◌, refl, ap, ◌∙◌}
use mathlib.Core.List.{◌++◌, flatten, append_assoc}
use Prim.Native.Nat.{◌<◌, ◌≤◌}
use borrow.Author.Tests.{le-leb, lt-leb}
use lib.ListN.{length}
use Rattle.par1_read.specs.Reading.{Reading}
use Rattle.refusals.specs.Limits.{max_listed_length}
use Rattle.refusals.specs.Tests.{bare}
use Rattle.refusals.specs.declared.Refusal.{Refusal}
use Rattle.text.specs.Ascii.{ascii}
use Rattle.text.specs.Decimal.{decimal, decimal_in}
use Rattle.listing.specs.Lines.{is_placed, place_field, refused_line}
use Rattle.listing.specs.Listing.{listing_by, listing_of, input_listing}
use Rattle.listing.specs.Claim.{RefusedListed}

line_placed : (r : Refusal) → 16 ≤ r.number → r.number ≤ 19
    → refused_line r ≡ ascii "refused " ++ (decimal r.number ++ (ascii " " ++ (decimal r.place ++ ascii "\n")))
unfolding refused_line place_field is_placed flatten
line_placed r h k = simp (le-leb 16 r.number h, le-leb r.number 19 k, append_assoc)

line_bare : (r : Refusal) → r.number < 16 → refused_line r ≡ ascii "refused " ++ (decimal r.number ++ ascii "\n")
unfolding refused_line place_field is_placed flatten
line_bare r h = simp (lt-leb 16 r.number h)

one_line : refused_line (bare 1) ≡ ascii "refused 1\n"
unfolding refused_line place_field is_placed flatten decimal decimal_in
one_line = refl

pub refused-listed : RefusedListed
unfolding listing_of input_listing
refused-listed = record {
  with_place = λ f r e h k. ap (λ (q : Reading). listing_by q f) e ∙ line_placed r h k;
  without = λ f r e h. ap (λ (q : Reading). listing_by q f) e ∙ line_bare r h;
  taken = λ s h. simp (le-leb (length s) max_listed_length h);
  too_long = λ s h. simp (lt-leb (length s) max_listed_length h) one_line;
}
