use Rattle.commands_file.proofs.OneAnswer.{one_answer}
use Rattle.commands_file.proofs.laws.a_call_has_one_answer.Goals as goal

pub returns : goal.returns
returns c = one_answer
