use Rattle.std.proofs.Common.{ap, subst, sym, ◌∙◌}
use Rattle.depend_graph.proofs.Kept.{turned_registered}
use Rattle.depend_graph.proofs.Listing.{turned_listed}
use Rattle.depend_graph.proofs.Viewed.{none_accepted, viewed_accepted}
use Rattle.depend_graph.specs.inner.Lists.{AreInLists}
use Rattle.depend_graph.specs.Network.{accepted}
use Rattle.depend_graph.specs.inner.Readers.{network_of}
use Rattle.depend_graph.specs.inner.Slots.{AreRegistered, Slots}
use Rattle.depend_graph.proofs.graph.Graph.accept.Goals as goal

pub invariant_of-self : goal.invariant_of-self
invariant_of-self c = (
  subst (λ (m : Slots). AreRegistered m c.clear.new.self.even c.clear.new.self.odd) (sym c.turn.ensures)
      (turned_registered c.self.inside.slots c.self.inside.banks.even c.self.inside.banks.odd c.clear.new.self.even
      c.clear.new.self.odd c.side-is_odd.result c.args.cell c.clear.ensures c.self.invariant.0
      (sym c.if-has_offer.ensures) c.side-is_odd.ensures),
  (
    subst (λ (m : Slots). AreInLists m c.self.inside.lists) (sym c.turn.ensures)
        (turned_listed c.self.inside.slots c.self.inside.lists c.self.invariant.1.0 c.args.cell),
    c.none.ensures _,
  ),
)

pub returns-then-has_offer : goal.returns-then-has_offer
returns-then-has_offer c = ap network_of c.turn.ensures ∙ viewed_accepted c.self.inside.slots c.args.cell
    (sym c.if-has_offer.ensures) ∙ ap (λ g. accepted g c.args.cell) c.self.view_is

pub returns-else-has_offer : goal.returns-else-has_offer
returns-else-has_offer c = sym c.self.view_is ∙ none_accepted c.self.inside.slots c.args.cell
    (sym c.if-has_offer.ensures) ∙ ap (λ g. accepted g c.args.cell) c.self.view_is
