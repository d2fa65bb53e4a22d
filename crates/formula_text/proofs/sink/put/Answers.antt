use Rattle.formula_text.specs.inner.Puts.{at_once}
use Rattle.formula_text.proofs.sink.put.Goals as goal

pub returns : goal.returns
returns g c = at_once c.put.ensures
