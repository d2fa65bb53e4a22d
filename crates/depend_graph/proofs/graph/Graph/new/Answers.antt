use Rattle.depend_graph.proofs.Kept.{none_registered, picked_empty}
use Rattle.depend_graph.proofs.Listing.{none_listed}
use Rattle.depend_graph.specs.inner.Slots.{node_in, offer_in}
use Rattle.depend_graph.proofs.graph.Graph.new.Goals as goal

pub invariant_of-result : goal.invariant_of-result
invariant_of-result c = (
  none_registered c.new.result c.new-3.result.even c.new-3.result.odd c.new.ensures,
  (none_listed c.new.result c.new-2.result c.new.ensures, c.none.ensures _),
)

pub returns-clause-formulas : goal.returns-clause-formulas
returns-clause-formulas c = picked_empty node_in c.new.result c.new.ensures

pub returns-clause-offers : goal.returns-clause-offers
returns-clause-offers c = picked_empty offer_in c.new.result c.new.ensures
