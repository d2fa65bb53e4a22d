use Rattle.sheet_undo.proofs.Tests.{name_decides}
use Rattle.sheet_undo.proofs.names.is_same_name.Goals as goal

pub returns : goal.returns
returns c = name_decides c.pass_as_one.result c.args.key.now c.args.other.now c.args.span.now c.args.place.now
    c.pass_as_one.ensures
