use Rattle.std.proofs.lemmas.Result.{IfOk-weaker}
use Rattle.command_desk.proofs.Written.{writes_acted}
use Rattle.command_desk.proofs.writing.make_writes.Goals as goal

pub returns : goal.returns
returns c = IfOk-weaker c.settled.result _ _
    (λ end settles. writes_acted c.args.writes.now c.args.scene.now
    c.args.sheet.now c.write-answer.new.self c.settled.new.sheet c.args.tally.now.count c.settled.new.tally.count
    c.write-answer.result end c.write-answer.ensures.answer c.write-answer.ensures.did c.write-answer.ensures.err
    settles)
    c.settled.ensures
