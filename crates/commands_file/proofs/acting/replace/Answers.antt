use Rattle.std.proofs.Common.{ap}
use Rattle.std.proofs.lemmas.Result.{on_ok_weaker}
use Rattle.commands_file.proofs.Ended.{retrieved_acts}
use Rattle.grid_address.specs.Place.{Place}
use Rattle.commands_file.proofs.acting.replace.Goals as goal

pub returns : goal.returns
returns c = on_ok_weaker c.calc.result
    (λ did. retrieved_acts c.args.saved c.args.scene.now _ c.args.sheet.now _ _ _ _
    c.in_ok-take_saved.ensures.did
    (ap (λ (x : Place). record c.args.scene.now { cursor = x }) c.pointer_of.ensures) did) c.calc.ensures.did
