use Rattle.sheet_listing.proofs.Fronts.{all_added, front_added}
use Rattle.sheet_listing.proofs.run.write_part.Goals as goal

pub returns-in-Ok : goal.returns-in-Ok
returns-in-Ok g c = (all_added _ _ _ _ c.in-Ok.ensures.added, c.in-Ok.ensures.cause.fine)

pub returns-in-Err : goal.returns-in-Err
returns-in-Err g c = (front_added _ _ _ _ c.in-Err.ensures.added, c.in-Err.ensures.cause.failed)
