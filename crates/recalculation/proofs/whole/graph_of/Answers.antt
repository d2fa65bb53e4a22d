use Rattle.std.proofs.Common.{ap, ◌∙◌}
use Rattle.grid_address.specs.Place.{same_place}
use Rattle.cell_maps.specs.Sets.{has}
use Rattle.depend_graph.specs.Network.{Network}
use Rattle.recalculation.specs.inner.Laws.{has_formula}
use Rattle.recalculation.proofs.Fresh.{graph_whole}
use Rattle.recalculation.proofs.whole.graph_of.Goals as goal

pub returns : goal.returns
returns c = graph_whole c.args.store.now c.add_formulas.new.graph c.reserve.new.self.formulas c.as_slice.result.now
    (ap (λ (n : Network). n.formulas) c.reserve.ensures ∙ c.new-graph.ensures.formulas)
    (λ x. ap (λ l. has same_place l x) (c.as_slice.ensures ∙ c.in_ok-cells.ensures) ∙ has_formula c.args.store.now x)
    c.in_ok-add_formulas.ensures
