use Rattle.grid_address.specs.Place.{same_place}
use Rattle.natural_order.proofs.Settle.{order_precedes}
use Rattle.natural_order.proofs.laws.order_precedes.Goals as goal

pub returns : goal.returns
returns c = order_precedes same_place
