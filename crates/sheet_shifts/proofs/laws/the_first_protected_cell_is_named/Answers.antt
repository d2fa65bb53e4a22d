use Rattle.sheet_shifts.proofs.First.{names_first}
use Rattle.sheet_shifts.proofs.laws.the_first_protected_cell_is_named.Goals as goal

pub returns : goal.returns
returns c = names_first
