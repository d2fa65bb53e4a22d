use Rattle.at_functions.proofs.Separators.{IsBeforeFrom}
use Rattle.at_functions.proofs.readings.place_of.Given as goal

abbrev pub invariant-loop-at : goal.invariant-loop-at
invariant-loop-at l = IsBeforeFrom l.sep l.bytes l.at
