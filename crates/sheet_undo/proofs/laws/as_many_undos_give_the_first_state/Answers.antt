use Rattle.sheet_undo.proofs.Undone.{first_back}
use Rattle.sheet_undo.proofs.laws.as_many_undos_give_the_first_state.Goals as goal

pub returns : goal.returns
returns c s ss kept now h = first_back s ss kept now h
