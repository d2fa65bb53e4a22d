use Rattle.std.proofs.Common.{ap, sym, ◌∙◌}
use Rattle.depend_graph.proofs.Kept.{picked_of_none}
use Rattle.depend_graph.specs.Network.{Network}
use Rattle.depend_graph.specs.inner.Slots.{node_in}
use Rattle.depend_graph.proofs.graph.Graph.is_empty.Goals as goal

pub returns : goal.returns
returns c = λ h. sym (ap (λ (g : Network). g.formulas) c.self.view_is)
    ∙ picked_of_none node_in c.held.result.now c.self.inside.slots (sym c.is_empty.ensures ∙ h) c.held.ensures.items
