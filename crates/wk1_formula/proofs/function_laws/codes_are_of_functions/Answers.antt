use Rattle.wk1_formula.proofs.CodesFound.{told}
use Rattle.wk1_formula.proofs.function_laws.codes_are_of_functions.Goals as goal

pub returns : goal.returns
returns c = told
