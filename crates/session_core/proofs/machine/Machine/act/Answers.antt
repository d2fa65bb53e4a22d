use Rattle.std.proofs.Common.{rules}
use Rattle.std.proofs.lemmas.Result.{IfOk-weaker}
use Rattle.list_lemmas.proofs.Results.{on_err_always}
use Rattle.session_core.specs.Act.{act}
use Rattle.session_core.proofs.Acted.{acted_over}
use Rattle.session_core.proofs.Breaking.{acted_broken, acting_breaks}
use Rattle.session_core.proofs.Failing.{left_calls}
use Rattle.session_core.proofs.machine.Machine.act.Goals as goal

-- what follows by the command's end leads on from the desk that the command leaves
pub returns-clause-acted : goal.returns-clause-acted
returns-clause-acted g c =
    IfOk-weaker c.leave.result _ _
    (λ ends l. acted_over (act c.args.command.action c.args.command.answers) c.args.command.action c.args.now.now ends
    c.args.self.now _ c.leave.new.self
    c.scene-scene.result _ c.self.inside.desk c.act.new.desk c.self.inside.tally.count c.act.new.tally.count _ _
    c.scene-scene.ensures (search rules) (search rules) (search rules) (search rules) (search rules) l
    (left_calls _ c.args.command.action _ _) c.in_ok-end.ensures.acted)
    c.leave.ensures

-- memory ran out in the command
pub returns-in_err-end-clause-memory : goal.returns-in_err-end-clause-memory
returns-in_err-end-clause-memory g c =
    on_err_always _
    (acting_breaks (act c.args.command.action c.args.command.answers) c.args.command.action c.args.now.now
    c.args.self.now.state c.scene-scene.result c.self.inside.desk _ _ c.scene-scene.ensures (search rules)
    c.in_err-end.ensures.memory)

-- it ran out behind the command
pub returns-clause-memory : goal.returns-clause-memory
returns-clause-memory g c =
    on_err_always c.leave.result
    (acting_breaks (act c.args.command.action c.args.command.answers) c.args.command.action c.args.now.now
    c.args.self.now.state c.scene-scene.result c.self.inside.desk _ _ c.scene-scene.ensures (search rules)
    (acted_broken _ _ c.self.inside.desk c.act.new.desk c.self.inside.tally.count c.act.new.tally.count _ _
    c.in_ok-end.ensures.acted))
