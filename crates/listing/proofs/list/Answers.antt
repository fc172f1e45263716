-- `listing::list` meets its contract.
-- Assumes nothing.
use mathlib.Core.Path.{ap, ◌∙◌}
use Rattle.par1_read.specs.Reading.{Reading}
use Rattle.lent_bytes.specs.Writing.{written}
use Rattle.listing.specs.Listing.{listing_by, listing_of}
use Rattle.listing.proofs.AcceptedLaws.{list_in}
use Rattle.listing.proofs.list.Goals as goal

pub list_as-requires : goal.list_as-requires
list_as-requires c = list_in c.args.file.now c.read.ensures

pub returns : goal.returns
unfolding listing_of
returns c = let a = c.args in let read = c.read.ensures in c.list_as.ensures ∙ ap (λ (r : Reading). written (listing_by r a.file.now) a.out.now) read
