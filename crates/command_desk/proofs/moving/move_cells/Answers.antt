use Rattle.std.proofs.lemmas.Result.{IfOk-weaker}
use Rattle.command_desk.proofs.Edited.{shift_acted}
use Rattle.command_desk.proofs.moving.move_cells.Goals as goal

pub returns : goal.returns
returns c = IfOk-weaker c.settled.result _ _
    (λ end settles. shift_acted c.args.shift.now c.args.scene.now c.args.sheet.now c.shift-answer.new.self
    c.settled.new.sheet c.args.tally.now.count c.settled.new.tally.count c.shift-answer.result end
    c.shift-answer.ensures.fault c.shift-answer.ensures.did c.shift-answer.ensures.err settles)
    c.settled.ensures
