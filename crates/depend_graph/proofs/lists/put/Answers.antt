use Rattle.std.proofs.Common.{ap, ◌∙◌}
use Rattle.cell_maps.specs.Sets.{has}
use Rattle.grid_address.specs.Place.{same_place}
use Rattle.depend_graph.proofs.Listing.{put_has}
use Rattle.depend_graph.proofs.lists.put.Goals as goal

pub returns-clause-kept : goal.returns-clause-kept
returns-clause-kept c = λ d h. ap (λ xs. has same_place xs d) c.insert.ensures.items
    ∙ put_has _ c.args.list.now.items c.place_for-at.result c.args.cell d h
