use Rattle.std.proofs.Common.{◌≡◌, length}
use Rattle.wk1_formula.specs.FunctionCodes as spec
use Rattle.wk1_formula.proofs.function_codes.found_in.Given as goal

abbrev pub invariant-loop-rows : goal.invariant-loop-rows
invariant-loop-rows l = spec.found_in l.rows l.code ≡ spec.found_in l.fn.rows l.code

abbrev pub decreases-loop-rows : goal.decreases-loop-rows
decreases-loop-rows l = length l.rows
