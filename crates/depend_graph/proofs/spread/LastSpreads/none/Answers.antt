use Rattle.depend_graph.proofs.Spreads.{none_kept}
use Rattle.depend_graph.proofs.spread.LastSpreads.none.Goals as goal

pub returns : goal.returns
returns c = λ g. (none_kept g, none_kept g)
