use Rattle.sheet_run.proofs.Unsent.{none_sent}
use Rattle.sheet_run.proofs.drive.send_behind_step.Goals as goal

pub returns-in-EachStep-clause-passed : goal.returns-in-EachStep-clause-passed
returns-in-EachStep-clause-passed g c shown each = rw (each c.in-EachStep.is) c.send_screen.ensures.passed

-- nothing is asked of what is sent to displays that tell nothing
pub returns-in-AtTheEnd-clause-passed : goal.returns-in-AtTheEnd-clause-passed
returns-in-AtTheEnd-clause-passed g c shown each = none_sent shown _ _ _ (c.requires.untold c.in-AtTheEnd.is)
