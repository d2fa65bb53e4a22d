use Rattle.std.proofs.Common.{◌≡◌}
use Rattle.at_functions.specs.Texts.{again}
use Rattle.at_functions.proofs.texts.again.Given as goal

abbrev pub invariant-loop : goal.invariant-loop
invariant-loop l = l.line ≡ again l.counter l.bytes
