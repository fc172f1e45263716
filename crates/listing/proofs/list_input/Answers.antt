-- `listing::list_input` meets its contract.
-- Assumes nothing.
use borrow.Author.Tests.{le-leb, lt-leb}
use Rattle.listing.specs.Listing.{input_listing}
use Rattle.listing.proofs.list_input.Goals as goal

pub returns-then-input-le-MAX_LISTED_LENGTH : goal.returns-then-input-le-MAX_LISTED_LENGTH
unfolding input_listing
returns-then-input-le-MAX_LISTED_LENGTH c = simp (le-leb _ _ c.if-input-le-MAX_LISTED_LENGTH.true) c.list.ensures

pub list_as-requires : goal.list_as-requires
list_as-requires c = tt

pub returns : goal.returns
unfolding input_listing
returns c = let listed = c.list_as.ensures in simp (lt-leb _ _ c.if-input-le-MAX_LISTED_LENGTH.false) (rw c.bare.ensures at listed)
