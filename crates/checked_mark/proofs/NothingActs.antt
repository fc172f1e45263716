-- Nothing acts on marks: the claim.
-- Assumes nothing.
use mathlib.Core.Path.{sym, ap, ◌∙◌}
use Rattle.par1_read.specs.Reading.{read_of}
use Rattle.checked_mark.specs.Claim.{NothingActs}
use Rattle.checked_mark.proofs.CatalogMarks.{opened-same, added_same, rooms_alike}
use Rattle.checked_mark.proofs.EntryMarks.{number_same}
use Rattle.checked_mark.proofs.FileMarks.{entries_alike, read_same, listing_same, input_same, chunks_read}
use Rattle.checked_mark.proofs.TextMarks.{export_same, import_same}

pub nothing_acts : NothingActs
nothing_acts f g a = record {
  read_same = read_same a;
  chunks_same = λ cs ds p q. chunks_read cs ∙ ap read_of p ∙ read_same a ∙ sym (chunks_read ds ∙ ap read_of q);
  numbers-same = λ k. number_same k (entries_alike a);
  listing_same = listing_same a;
  input_same = input_same a;
  export_same = export_same a;
  import_same = import_same a;
  opened-same = opened-same a;
  added_same = added_same a;
  rooms_alike = rooms_alike a;
}
