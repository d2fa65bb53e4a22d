use Rattle.sheet_run.proofs.Begun.{desk_made}
use Rattle.sheet_run.proofs.opening.desk_over.Goals as goal

pub returns : goal.returns
returns c =
    desk_made c.args.saved c.in_ok-desk.desk c.take_saved.new.self c.in_ok-desk.ensures.desk c.in_ok-desk.ensures.dirty
    c.in_ok-desk.ensures.history c.in_ok-take_saved.ensures.did
