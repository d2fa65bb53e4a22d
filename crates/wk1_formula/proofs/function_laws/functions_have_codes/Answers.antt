use Rattle.wk1_formula.proofs.CodesFound.{found, least, most}
use Rattle.wk1_formula.proofs.function_laws.functions_have_codes.Goals as goal

pub returns : goal.returns
returns c = record { alone = found; least = least; most = most }
