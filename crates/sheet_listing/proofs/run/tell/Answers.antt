use Rattle.sheet_listing.proofs.Notes.{noted}
use Rattle.sheet_listing.proofs.run.tell.Goals as goal

pub returns : goal.returns
returns g c = noted _ _ _ _ _ _ c.write_part.ensures
