use Rattle.session_core.proofs.OneOutcome.{one_outcome}
use Rattle.session_core.proofs.laws.a_step_has_one_outcome.Goals as goal

pub returns : goal.returns
returns c = one_outcome
