use Rattle.std.proofs.Common.{ap, subst, sym}
use Rattle.std.proofs.lemmas.Result.{on_err_weaker, IfOk-weaker}
use Rattle.session_core.specs.Machine.{sheet_of, State}
use Rattle.session_core.proofs.Stepping.{broken_over}
use Rattle.session_core.proofs.Breaking.{break_breaks}
use Rattle.session_core.proofs.machine.Machine.press_break.Goals as goal

-- BREAK is taken behind the macro that it stopped
pub returns-clause-ok : goal.returns-clause-ok
returns-clause-ok g c =
    IfOk-weaker c.take.result _ _
    (λ t l. broken_over c.args.now.now t.ends c.args.self.now c.break_off.new.self c.take.new.self _ _
    c.break_off.ensures.state c.break_off.ensures.work l)
    c.take.ensures.ok

-- memory ran out in it
pub returns-clause-memory : goal.returns-clause-memory
returns-clause-memory g c =
    on_err_weaker c.take.result (break_breaks c.args.now.now c.args.self.now.state _ _ _ c.break_off.ensures.state)
    c.take.ensures.memory
