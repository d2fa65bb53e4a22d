use Rattle.sheet_listing.proofs.Endings.{ends_read}
use Rattle.sheet_listing.proofs.run.list_file.Goals as goal

pub returns-in-Ok : goal.returns-in-Ok
returns-in-Ok g c = ends_read _ _ c.as_slice.result.now c.in-Ok.bytes.items c.list_bytes.result c.as_slice.ensures.value
    c.in-Ok.ensures.bytes c.list_bytes.ensures
