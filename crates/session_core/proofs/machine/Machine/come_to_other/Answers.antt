use Rattle.std.proofs.Common.{rules, refl}
use Rattle.list_lemmas.proofs.Results.{on_err_always}
use Rattle.commands_file.proofs.Broken.{none_over}
use Rattle.session_core.specs.Machine.{scene_at}
use Rattle.session_core.proofs.Alone.{alone, no_replies}
use Rattle.session_core.proofs.Failing.{failed_calls}
use Rattle.session_core.proofs.machine.Machine.come_to_other.Goals as goal

pub returns-in-Moves-clause-ok : goal.returns-in-Moves-clause-ok
returns-in-Moves-clause-ok g c = rw c.in-Moves.is (alone _ _ _ _ _ _ (search rules) refl)

pub returns-in-Works-clause-ok : goal.returns-in-Works-clause-ok
returns-in-Works-clause-ok g c = rw c.in-Works.is (alone _ _ _ _ _ _ (search rules) refl)

pub returns-in-Indicates-clause-ok : goal.returns-in-Indicates-clause-ok
returns-in-Indicates-clause-ok g c = rw c.in-Indicates.is (alone _ _ _ _ _ _ (search rules) refl)

pub returns-in-Faulty-clause-ok : goal.returns-in-Faulty-clause-ok
returns-in-Faulty-clause-ok g c = rw c.in-Faulty.is (alone _ _ _ _ _ _ (search rules) refl)

pub returns-in_ok-touched-in-Refused-clause-ok : goal.returns-in_ok-touched-in-Refused-clause-ok
returns-in_ok-touched-in-Refused-clause-ok g c =
    rw c.in-Refused.is (alone _ _ _ _ _ _ (search rules)
    (failed_calls _ (scene_at c.args.self.now.state c.args.now.now) c.args.self.now.state))

-- no call was made of the shelf
pub returns-in_err-touched-in-Refused-clause-memory : goal.returns-in_err-touched-in-Refused-clause-memory
returns-in_err-touched-in-Refused-clause-memory g c = on_err_always _ (none_over _ no_replies _)
