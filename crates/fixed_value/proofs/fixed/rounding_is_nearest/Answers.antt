use Rattle.fixed_value.proofs.Rounding.{rounded_is_nearest}
use Rattle.fixed_value.proofs.fixed.rounding_is_nearest.Goals as goal

pub returns : goal.returns
returns c = rounded_is_nearest
