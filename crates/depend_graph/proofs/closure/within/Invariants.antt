use Rattle.depend_graph.specs.inner.Backward.{work_left, IsSearched}
use Rattle.depend_graph.proofs.closure.within.Given as goal

abbrev pub invariant-steps : goal.invariant-steps
invariant-steps l = IsSearched l.graph l.fn.cells l.search

abbrev pub decreases-steps : goal.decreases-steps
decreases-steps l = work_left l.graph l.fn.cells l.search
