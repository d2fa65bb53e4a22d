use Rattle.commands_worksheet.proofs.Erased.{erased_acted}
use Rattle.commands_worksheet.proofs.acting.erase.Goals as goal

pub returns : goal.returns
returns c =
    erased_acted c.args.scene.now c.args.sheet.now _ c.settle.new.sheet c.args.tally.now.count c.settle.new.tally.count
    c.take_fresh.ensures.sheet c.take_fresh.ensures.dirty c.take_fresh.ensures.history c.in_ok-settle.ensures
