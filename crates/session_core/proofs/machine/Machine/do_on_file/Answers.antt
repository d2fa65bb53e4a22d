use Rattle.std.proofs.Common.{ap, rules, sym, false, None, Some, ◌∙◌}
use Rattle.list_lemmas.proofs.Results.{on_err_always}
use Rattle.commands_file.proofs.Broken.{none_over}
use Rattle.session_core.specs.Machine.{scene_at}
use Rattle.session_core.specs.Step.{on_file, protected_target}
use Rattle.session_core.proofs.Alone.{alone, no_replies}
use Rattle.session_core.proofs.Failing.{failed_calls}
use Rattle.session_core.proofs.TextFiles.{guarded_over}
use Rattle.session_core.proofs.Breaking.{guarded_breaks}
use Rattle.session_core.proofs.machine.Machine.do_on_file.Goals as goal

-- the cell is protected
pub returns-in_ok-touched-in-Some-clause-ok : goal.returns-in_ok-touched-in-Some-clause-ok
returns-in_ok-touched-in-Some-clause-ok g c =
    guarded_over c.args.deed c.args.now.now false c.args.self.now c.fail.new.self _ _ (Some c.in-Some.cell)
    (sym c.in-Some.is ∙ c.protected_target.ensures
    ∙ ap (λ t. protected_target t c.args.self.now.state) c.target_of.ensures)
    (alone (on_file (Some c.in-Some.cell) c.args.deed) c.args.now.now false c.args.self.now c.fail.new.self _
    (search rules)
    (failed_calls _ (scene_at c.args.self.now.state c.args.now.now) c.args.self.now.state))

-- no call was made of the shelf
pub returns-in_err-touched-in-Some-clause-memory : goal.returns-in_err-touched-in-Some-clause-memory
returns-in_err-touched-in-Some-clause-memory g c = on_err_always _ (none_over _ no_replies _)

-- the word is carried out
pub returns-in_ok-serve-in-None-clause-ok : goal.returns-in_ok-serve-in-None-clause-ok
returns-in_ok-serve-in-None-clause-ok g c =
    guarded_over c.args.deed c.args.now.now false c.args.self.now c.serve.new.self _ _ None
    (sym c.in-None.is ∙ c.protected_target.ensures
    ∙ ap (λ t. protected_target t c.args.self.now.state) c.target_of.ensures)
    c.in_ok-serve-in-None.ensures.ok

-- memory ran out there
pub returns-in_err-serve-in-None-clause-memory : goal.returns-in_err-serve-in-None-clause-memory
returns-in_err-serve-in-None-clause-memory g c =
    on_err_always _ (guarded_breaks c.args.deed c.args.now.now c.args.self.now.state _ _ None
    (sym c.in-None.is ∙ c.protected_target.ensures
    ∙ ap (λ t. protected_target t c.args.self.now.state) c.target_of.ensures)
    c.in_err-serve-in-None.ensures.memory)
