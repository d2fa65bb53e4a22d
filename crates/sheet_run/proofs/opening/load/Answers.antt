use Rattle.sheet_run.proofs.Begun.{loaded_is}
use Rattle.sheet_run.proofs.opening.load.Goals as goal

pub new-session-requires : goal.new-session-requires
new-session-requires g c = c.requires

pub returns-in-Ok : goal.returns-in-Ok
returns-in-Ok g c = (
  c.read-first.result,
  c.read-first.ensures,
  loaded_is c.args.desk _ _ _ c.new-session.ensures c.in-Ok.ensures.loaded,
)

-- memory ran out
pub returns-in-Err : goal.returns-in-Err
returns-in-Err g c = (c.read-first.result, c.read-first.ensures)
