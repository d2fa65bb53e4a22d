use Rattle.std.proofs.Common.{◌≡◌, rules, ℕ, subst, sym, ◌∙◌}
use Rattle.list_lemmas.proofs.Results.{on_err_always}
use Rattle.commands_file.proofs.Broken.{none_over}
use Rattle.macro_engine.specs.Steps.{macro_step}
use Rattle.session_core.proofs.Alone.{no_replies}
use Rattle.session_core.proofs.Stepping.{ends_as, stepped_over}
use Rattle.session_core.proofs.Touching.{step_touches, touches_at}
use Rattle.session_core.specs.inner.Touches.{Touches}
use Rattle.work_sheet.specs.Seen.{of_worksheet, Sheet}
use Rattle.session_core.specs.Machine.{sheet_of}
use Rattle.session_core.specs.Step.{run_on}
use Rattle.macro_engine.proofs.Stepping.{macro_leaves, stepped_leaves}
use Rattle.session_core.proofs.Breaking.{stepped_breaks}
use Rattle.session_core.proofs.machine.Machine.run_on.Goals as goal

-- what follows by the step's end leads on from the sheet and the macro that it leaves
pub returns-clause-ok : goal.returns-clause-ok
returns-clause-ok g c =
    ends_as run_on c.args.now.now _ _ c.args.self.now c.come_to.new.self _ _ c.behind.ensures.ends
    (stepped_over macro_step c.args.now.now _ c.args.self.now _ c.come_to.new.self c.scene-scene.result
    c.self.inside.engine c.step.new.self _
    c.self.inside.desk.sheet c.step.new.sheet c.self.inside.tally.count c.step.new.tally.count _ _
    c.scene-scene.ensures (search rules) (search rules) (search rules) (search rules) (search rules)
    (search rules) c.in_ok-end.ensures.step c.in_ok-taken.ensures.ok)

-- what the step touched, and what follows it
pub returns-clause-touched : goal.returns-clause-touched
returns-clause-touched g c =
    let was : of_worksheet c.self.inside.desk.sheet ≡ sheet_of c.args.self.now.state = search rules in
    let first : ℕ = c.args.self.now.state.corner.row in
    c.behind.ensures.both first _ _ _
    (subst (λ (s : Sheet). Touches c.by_step-step.result first s (of_worksheet c.step.new.sheet)) was
    (touches_at _ first _ _ _ c.top_row-first.ensures
    (step_touches c.leaves_sheet.result _ c.by_step-step.result _ (of_worksheet c.self.inside.desk.sheet)
    (of_worksheet c.step.new.sheet)
    (λ h. stepped_leaves _ _ _ c.self.inside.desk.sheet c.step.new.sheet _ _
    (macro_leaves _ _ _) c.in_ok-end.ensures.step (sym c.leaves_sheet.ensures ∙ h))
    c.by_step-step.ensures.left c.by_step-step.ensures.worked c.in_ok-end.ensures.rows)))
    (touches_at _ first _ _ _ (search rules) c.in_ok-taken.ensures.touched)

-- no call was made of the shelf
pub returns-in_err-end-clause-memory : goal.returns-in_err-end-clause-memory
returns-in_err-end-clause-memory g c = on_err_always _ (none_over _ no_replies _)

-- memory ran out in what follows by the step's end
pub returns-in_err-taken-clause-memory : goal.returns-in_err-taken-clause-memory
returns-in_err-taken-clause-memory g c =
    on_err_always _ (stepped_breaks macro_step c.args.now.now c.args.self.now.state _
    c.scene-scene.result c.self.inside.engine c.step.new.self _ c.self.inside.desk.sheet c.step.new.sheet
    c.self.inside.tally.count c.step.new.tally.count _ _ c.scene-scene.ensures (search rules) (search rules)
    (search rules) (search rules) c.in_ok-end.ensures.step c.in_err-taken.ensures.memory)
