use Rattle.std.specs.Prelude.{refl}
use Rattle.commands_range.proofs.naming.reset_names.Goals as goal

pub returns : goal.returns
returns c = λ n. record { end = refl; did = c.reset_names.ensures n }
