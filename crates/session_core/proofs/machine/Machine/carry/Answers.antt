use Rattle.std.proofs.Common.{rules, refl}
use Rattle.std.proofs.lemmas.Result.{IfOk-weaker}
use Rattle.list_lemmas.proofs.Results.{on_err_always}
use Rattle.commands_file.proofs.Broken.{none_over}
use Rattle.session_core.specs.Machine.{scene_at}
use Rattle.session_core.proofs.Alone.{alone, finish_calls, no_replies}
use Rattle.session_core.proofs.Failing.{failed_calls}
use Rattle.session_core.proofs.Undoing.{undo_calls}
use Rattle.session_core.proofs.machine.Machine.carry.Goals as goal

-- no call was made of the shelf
pub returns-in_err-touched-in-Finish-clause-memory : goal.returns-in_err-touched-in-Finish-clause-memory
returns-in_err-touched-in-Finish-clause-memory g c = on_err_always _ (none_over _ no_replies _)

pub returns-in_err-calculate-in-Recalculate-clause-memory : goal.returns-in_err-calculate-in-Recalculate-clause-memory
returns-in_err-calculate-in-Recalculate-clause-memory g c =
    on_err_always _ (none_over _ no_replies _)

pub returns-in-Become-clause-ok : goal.returns-in-Become-clause-ok
returns-in-Become-clause-ok g c = rw c.in-Become.is (alone _ _ _ _ _ _ (search rules) refl)

pub returns-in-Move-clause-ok : goal.returns-in-Move-clause-ok
returns-in-Move-clause-ok g c = rw c.in-Move.is (alone _ _ _ _ _ _ (search rules) refl)

pub returns-in-Mark-clause-ok : goal.returns-in-Mark-clause-ok
returns-in-Mark-clause-ok g c = rw c.in-Mark.is (alone _ _ _ _ _ _ (search rules) refl)

pub returns-in_ok-touched-in-Finish-clause-ok : goal.returns-in_ok-touched-in-Finish-clause-ok
returns-in_ok-touched-in-Finish-clause-ok g c =
    rw c.in-Finish.is (alone _ _ _ _ _ _ (search rules)
    (finish_calls c.in-Finish.way c.in-Finish.line (scene_at c.args.self.now.state c.args.now.now)
    c.args.self.now.state))

pub returns-in_ok-calculate-in-Recalculate-clause-ok : goal.returns-in_ok-calculate-in-Recalculate-clause-ok
returns-in_ok-calculate-in-Recalculate-clause-ok g c =
    rw c.in-Recalculate.is (alone _ _ _ _ _ _ (search rules) refl)

pub returns-in-Start-clause-ok : goal.returns-in-Start-clause-ok
returns-in-Start-clause-ok g c = rw c.in-Start.is (alone _ _ _ _ _ _ (search rules) refl)

pub returns-in-Undo-clause-ok : goal.returns-in-Undo-clause-ok
returns-in-Undo-clause-ok g c =
    rw c.in-Undo.is (IfOk-weaker c.undo.result _ _
    (λ t l. alone _ _ _ _ _ _ l (undo_calls (scene_at c.args.self.now.state c.args.now.now) c.args.self.now.state))
    c.undo.ensures.undone)

pub returns-in-Undo-clause-memory : goal.returns-in-Undo-clause-memory
returns-in-Undo-clause-memory g c = on_err_always _ (none_over _ no_replies _)

pub returns-in_ok-touched-in-Fail-clause-ok : goal.returns-in_ok-touched-in-Fail-clause-ok
returns-in_ok-touched-in-Fail-clause-ok g c =
    rw c.in-Fail.is (alone _ _ _ _ _ _ (search rules)
    (failed_calls c.in-Fail.error (scene_at c.args.self.now.state c.args.now.now) c.args.self.now.state))

pub returns-in_err-touched-in-Fail-clause-memory : goal.returns-in_err-touched-in-Fail-clause-memory
returns-in_err-touched-in-Fail-clause-memory g c = on_err_always _ (none_over _ no_replies _)
