use Rattle.sheet_run.proofs.Completing.{completes}
use Rattle.sheet_run.proofs.runs.a_run_ends_well.Goals as goal

pub returns : goal.returns
returns c = completes
