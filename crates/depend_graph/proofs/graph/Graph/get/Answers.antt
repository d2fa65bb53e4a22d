use Rattle.std.specs.FinMap.{get}
use Rattle.std.proofs.Common.{ap, sym, ◌∙◌}
use Rattle.depend_graph.proofs.Kept.{get_picked}
use Rattle.depend_graph.specs.Network.{Network}
use Rattle.depend_graph.specs.inner.Slots.{node_in}
use Rattle.depend_graph.proofs.graph.Graph.get.Goals as goal

pub returns : goal.returns
returns c = c.node_of.ensures ∙ sym (get_picked node_in c.self.inside.slots c.args.cell)
    ∙ ap (λ (g : Network). get g.formulas c.args.cell) c.self.view_is
