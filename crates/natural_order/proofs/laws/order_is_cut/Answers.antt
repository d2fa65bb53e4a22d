use Rattle.grid_address.specs.Place.{same_place}
use Rattle.natural_order.proofs.Cut.{order_is_cut}
use Rattle.natural_order.proofs.laws.order_is_cut.Goals as goal

pub returns : goal.returns
returns c = order_is_cut same_place
