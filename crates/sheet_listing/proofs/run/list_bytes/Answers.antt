use Rattle.sheet_listing.proofs.Endings.{listed_bytes, read_ok}
use Rattle.sheet_listing.proofs.run.list_bytes.Goals as goal

pub returns-in-Ok : goal.returns-in-Ok
returns-in-Ok g c = listed_bytes _ _ _ _ _ _ _ (read_ok c.in-Ok.ensures) c.list_saved.ensures
