use Rattle.std.proofs.Common.{rules}
use Rattle.session_core.proofs.Alone.{alone}
use Rattle.session_core.proofs.machine.Machine.ask.Goals as goal

pub returns-in-Asks-clause-asked : goal.returns-in-Asks-clause-asked
returns-in-Asks-clause-asked g c = alone _ _ _ _ _ _ (search rules) (search rules)
