use Rattle.sheet_listing.proofs.Fronts.{all_written, front_written}
use Rattle.sheet_listing.proofs.writing.write_waiting.Goals as goal

pub returns-in-Ok-clause-ok : goal.returns-in-Ok-clause-ok
returns-in-Ok-clause-ok g c = all_written _ _ _ _ _ _ c.in-Ok.ensures.added c.as_slice.ensures.value
    c.clear.ensures.items

pub returns-in-Err-clause-err : goal.returns-in-Err-clause-err
returns-in-Err-clause-err g c = front_written _ _ _ _ _ c.in-Err.ensures.added c.as_slice.ensures.value
