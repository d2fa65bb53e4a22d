use Rattle.sheet_run.proofs.OneRun.{one_run}
use Rattle.sheet_run.proofs.SuchRuns.{such_a_run}
use Rattle.sheet_run.proofs.laws.a_run_has_one_outcome.Goals as goal

pub returns : goal.returns
returns c = record { one = one_run; such = such_a_run }
