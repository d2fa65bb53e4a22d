use Rattle.grid_address.specs.Place.{same_place}
use Rattle.natural_order.proofs.Settle.{order_covers}
use Rattle.natural_order.proofs.laws.order_covers.Goals as goal

pub returns : goal.returns
returns c = order_covers same_place
