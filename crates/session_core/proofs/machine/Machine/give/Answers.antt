use Rattle.std.proofs.Common.{rules}
use Rattle.std.proofs.lemmas.Result.{on_err_weaker, IfOk-weaker}
use Rattle.session_core.proofs.Stepping.{given_answered, given_taken}
use Rattle.session_core.proofs.Breaking.{given_answered_breaks, given_taken_breaks}
use Rattle.session_core.proofs.machine.Machine.give.Goals as goal

pub returns-then-takes_key-clause-ok : goal.returns-then-takes_key-clause-ok
returns-then-takes_key-clause-ok g c =
    IfOk-weaker c.answer.result _ _
    (λ t l. given_answered c.args.key c.args.now.now t.ends c.args.self.now c.answer.new.self _ _
    (search rules) l) c.answer.ensures.ok

pub returns-else-takes_key-clause-ok : goal.returns-else-takes_key-clause-ok
returns-else-takes_key-clause-ok g c =
    IfOk-weaker c.take.result _ _
    (λ t l. given_taken c.args.key c.args.now.now t.ends c.args.self.now c.take.new.self _ _
    (search rules) l) c.take.ensures.ok

pub returns-then-takes_key-clause-memory : goal.returns-then-takes_key-clause-memory
returns-then-takes_key-clause-memory g c =
    on_err_weaker c.answer.result
    (given_answered_breaks c.args.key c.args.now.now c.args.self.now.state _ _ (search rules)) c.answer.ensures.memory

pub returns-else-takes_key-clause-memory : goal.returns-else-takes_key-clause-memory
returns-else-takes_key-clause-memory g c =
    on_err_weaker c.take.result (given_taken_breaks c.args.key c.args.now.now c.args.self.now.state _ _ (search rules))
    c.take.ensures.memory
