use Rattle.std.proofs.Common.{ap, subst, sym, ◌∙◌}
use Rattle.depend_graph.proofs.Kept.{unformed_registered}
use Rattle.depend_graph.proofs.Listing.{unformed_listed}
use Rattle.depend_graph.proofs.Spreads.{none_dropped}
use Rattle.depend_graph.proofs.Viewed.{viewed_dropped}
use Rattle.depend_graph.specs.inner.Lists.{AreInLists}
use Rattle.depend_graph.specs.Network.{dropped}
use Rattle.depend_graph.specs.inner.Readers.{network_of}
use Rattle.depend_graph.specs.inner.Slots.{AreRegistered, Slots}
use Rattle.depend_graph.proofs.graph.Graph.drop_cell.Goals as goal

pub invariant_of-self : goal.invariant_of-self
invariant_of-self c = (
  subst (λ (m : Slots). AreRegistered m c.clear.new.self.even c.clear.new.self.odd) (sym c.drop_part.ensures)
      (unformed_registered c.self.inside.slots c.self.inside.banks.even c.self.inside.banks.odd c.clear.new.self.even
      c.clear.new.self.odd c.side-is_odd.result c.args.cell c.clear.ensures c.self.invariant.0 c.side-is_odd.ensures),
  (
    subst (λ (m : Slots). AreInLists m c.self.inside.lists) (sym c.drop_part.ensures)
        (unformed_listed c.self.inside.slots c.self.inside.lists c.self.invariant.1.0 c.args.cell),
    c.none.ensures _,
  ),
)

pub returns : goal.returns
returns c = ap network_of c.drop_part.ensures ∙ viewed_dropped c.self.inside.slots c.args.cell
    ∙ ap (λ g. dropped g c.args.cell) c.self.view_is

pub returns-then-not-has_formula : goal.returns-then-not-has_formula
returns-then-not-has_formula c =
    none_dropped c.args.self.now c.args.cell (sym c.has_formula.ensures ∙ c.if-not-has_formula.true)
