use Rattle.std.specs.Prelude.{is_some, not}
use Rattle.std.proofs.Common.{ap, subst, sym, ◌∙◌}
use Rattle.depend_graph.proofs.Kept.{get_picked, unoffered_registered}
use Rattle.depend_graph.proofs.Listing.{unoffered_listed}
use Rattle.depend_graph.proofs.Spreads.{kept_along, none_withdrawn}
use Rattle.depend_graph.proofs.Viewed.{viewed_withdrawn}
use Rattle.depend_graph.specs.inner.Lists.{AreInLists}
use Rattle.depend_graph.specs.Network.{withdrawn, Network}
use Rattle.depend_graph.specs.inner.Readers.{network_of}
use Rattle.depend_graph.specs.inner.Slots.{offer_in, AreRegistered, Slots}
use Rattle.depend_graph.proofs.graph.Graph.withdraw.Goals as goal

pub invariant_of-self : goal.invariant_of-self
invariant_of-self c = (
  subst (λ (m : Slots). AreRegistered m c.clear.new.self.even c.clear.new.self.odd) (sym c.drop_part.ensures)
      (unoffered_registered c.self.inside.slots c.self.inside.banks.even c.self.inside.banks.odd c.clear.new.self.even
      c.clear.new.self.odd (not c.side-is_odd.result) c.args.cell c.clear.ensures c.self.invariant.0
      (ap not c.side-is_odd.ensures)),
  (
    subst (λ (m : Slots). AreInLists m c.self.inside.lists) (sym c.drop_part.ensures)
        (unoffered_listed c.self.inside.slots c.self.inside.lists c.self.invariant.1.0 c.args.cell),
    kept_along (network_of c.self.inside.slots) (network_of c.drop_part.new.slots)
        (sym (ap (λ (m : Slots). (network_of m).formulas) c.drop_part.ensures
        ∙ ap (λ (g : Network). g.formulas) (viewed_withdrawn c.self.inside.slots c.args.cell))) c.self.inside.spread
        c.self.invariant.1.1,
  ),
)

pub returns : goal.returns
returns c = ap network_of c.drop_part.ensures ∙ viewed_withdrawn c.self.inside.slots c.args.cell
    ∙ ap (λ g. withdrawn g c.args.cell) c.self.view_is

pub returns-then-not-has_offer : goal.returns-then-not-has_offer
returns-then-not-has_offer c =
    sym c.self.view_is
    ∙ none_withdrawn (network_of c.self.inside.slots) c.args.cell (ap is_some
    (get_picked offer_in c.self.inside.slots c.args.cell) ∙ (sym c.has_offer.ensures ∙ c.if-not-has_offer.true))
    ∙ ap (λ g. withdrawn g c.args.cell) c.self.view_is
