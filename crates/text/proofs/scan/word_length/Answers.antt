-- `text::scan::word_length` meets its contract.
-- Assumes nothing.
use Rattle.text.specs.TextLines.{word_length}
use Rattle.text.proofs.scan.word_length.Goals as goal

pub returns : goal.returns
unfolding word_length
returns c = c.length_to.ensures
