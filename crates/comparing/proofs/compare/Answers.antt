-- `comparing::compare` meets its contract: what is written is the text of the two files. A search finds it too; it is said here, so that a
-- body that writes anything else is refused by what the room then holds, and not where a search gives up.
-- Assumes nothing.
use Rattle.comparing.proofs.compare.Goals as goal

pub returns : goal.returns
returns c = c.written.ensures
