use Rattle.std.proofs.Common.{ap, ◌∙◌, cond}
use Rattle.grid_address.specs.Place.{same_place}
use Rattle.depend_graph.proofs.marks.put_number.Goals as goal

pub returns : goal.returns
returns c =
    λ d i. c.set.ensures d i ∙ ap (λ n. cond (same_place c.args.cell d) c.args.mark n) (c.make_room.ensures.same d)
