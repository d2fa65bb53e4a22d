use Rattle.std.proofs.Common.{arith}
use Rattle.cell_format.proofs.numbers.most_places.Goals as goal

pub returns-clause-most : goal.returns-clause-most
returns-clause-most c places more few = omega (arith, more, few, c.requires places (omega (arith, more)))
