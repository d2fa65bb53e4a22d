use Rattle.sheet_run.proofs.Undoing.{all_back}
use Rattle.sheet_run.proofs.laws.as_many_undos_give_the_sheet_back.Goals as goal

pub returns : goal.returns
returns c = all_back
