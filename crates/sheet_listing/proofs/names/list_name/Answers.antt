use Rattle.sheet_listing.proofs.Fronts.{front_of_all}
use Rattle.sheet_listing.proofs.names.list_name.Goals as goal

pub returns-in-Err-clause-err : goal.returns-in-Err-clause-err
returns-in-Err-clause-err g c = front_of_all _ _
