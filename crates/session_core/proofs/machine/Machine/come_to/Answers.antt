use Rattle.std.proofs.Common.{rules, refl}
use Rattle.session_core.proofs.Alone.{alone}
use Rattle.session_core.proofs.machine.Machine.come_to.Goals as goal

pub returns-in-Moves-clause-ok : goal.returns-in-Moves-clause-ok
returns-in-Moves-clause-ok g c = rw c.in-Moves.is (alone _ _ _ _ _ _ (search rules) refl)

pub returns-in-Works-clause-ok : goal.returns-in-Works-clause-ok
returns-in-Works-clause-ok g c = rw c.in-Works.is (alone _ _ _ _ _ _ (search rules) refl)
