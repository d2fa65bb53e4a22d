use Rattle.std.specs.Prelude.{not}
use Rattle.std.proofs.Common.{ap, subst, sym, ◌∙◌}
use Rattle.list_lemmas.proofs.Results.{on_err_always}
use Rattle.depend_graph.proofs.Listing.{listed_on, offering_listed}
use Rattle.depend_graph.proofs.Offers.{refused, taken_up, unoffered}
use Rattle.depend_graph.proofs.Viewed.{offered_again, viewed_offered, viewed_withdrawn}
use Rattle.depend_graph.specs.inner.Banks.{wide}
use Rattle.depend_graph.specs.inner.Lists.{AreInLists, IsListed}
use Rattle.depend_graph.specs.Network.{offered, withdrawn, Network}
use Rattle.depend_graph.specs.inner.Readers.{network_of}
use Rattle.depend_graph.specs.inner.Slots.{AreRegistered, Slots}
use Rattle.depend_graph.proofs.graph.Graph.offer.Goals as goal

pub invariant_of-self : goal.invariant_of-self
invariant_of-self c = (
  unoffered c.self.inside.slots c.drop_part.new.slots c.self.inside.banks.even c.self.inside.banks.odd c.args.cell
      c.drop_part.ensures c.self.invariant.0,
  (
    listed_on c.self.inside.slots c.drop_part.new.slots c.self.inside.lists c.add_all.new.lists c.args.cell
        c.drop_part.ensures c.self.invariant.1.0 c.add_all.ensures.kept,
    c.none.ensures _,
  ),
)

pub returns-in_err-add_all-clause-err : goal.returns-in_err-add_all-clause-err
returns-in_err-add_all-clause-err c = on_err_always c.from_residual.result (ap network_of c.drop_part.ensures
    ∙ viewed_withdrawn c.self.inside.slots c.args.cell ∙ ap (λ g. withdrawn g c.args.cell) c.self.view_is)

pub invariant_of-self-in_err-fill : goal.invariant_of-self-in_err-fill
invariant_of-self-in_err-fill c = (
  refused c.self.inside.slots c.drop_part.new.slots c.self.inside.banks.even c.self.inside.banks.odd c.args.cell
      c.drop_part.ensures c.self.invariant.0
      c.fill.new.self.even c.fill.new.self.odd (not c.side-is_odd.result) c.fill.ensures.others
      (ap not c.side-is_odd.ensures),
  (
    listed_on c.self.inside.slots c.drop_part.new.slots c.self.inside.lists c.add_all.new.lists c.args.cell
        c.drop_part.ensures c.self.invariant.1.0 c.add_all.ensures.kept,
    c.none.ensures _,
  ),
)

pub returns-in_err-fill-clause-err : goal.returns-in_err-fill-clause-err
returns-in_err-fill-clause-err c = on_err_always c.from_residual-in_err-fill.result (ap network_of c.drop_part.ensures
    ∙ viewed_withdrawn c.self.inside.slots c.args.cell ∙ ap (λ g. withdrawn g c.args.cell) c.self.view_is)

pub invariant_of-self-in_err-put_offer : goal.invariant_of-self-in_err-put_offer
invariant_of-self-in_err-put_offer c = (
  subst (λ (m : Slots). AreRegistered m c.fill.new.self.even c.fill.new.self.odd) (sym c.in_err-put_offer.ensures.err)
      (refused c.self.inside.slots c.drop_part.new.slots c.self.inside.banks.even c.self.inside.banks.odd c.args.cell
      c.drop_part.ensures c.self.invariant.0
      c.fill.new.self.even c.fill.new.self.odd (not c.side-is_odd.result) c.fill.ensures.others
      (ap not c.side-is_odd.ensures)),
  (
    subst (λ (m : Slots). AreInLists m c.add_all.new.lists) (sym c.in_err-put_offer.ensures.err)
        (listed_on c.self.inside.slots c.drop_part.new.slots c.self.inside.lists c.add_all.new.lists c.args.cell
        c.drop_part.ensures c.self.invariant.1.0 c.add_all.ensures.kept),
    c.none.ensures _,
  ),
)

pub returns-in_err-put_offer-clause-err : goal.returns-in_err-put_offer-clause-err
returns-in_err-put_offer-clause-err c = on_err_always c.from_residual-in_err-put_offer.result
    (ap network_of (c.in_err-put_offer.ensures.err ∙ c.drop_part.ensures)
    ∙ viewed_withdrawn c.self.inside.slots c.args.cell ∙ ap (λ g. withdrawn g c.args.cell) c.self.view_is)

pub invariant_of-self-2 : goal.invariant_of-self-2
invariant_of-self-2 c = (
  subst (λ (m : Slots). AreRegistered m c.fill.new.self.even c.fill.new.self.odd) (sym c.in_ok-put_offer.ensures.ok)
      (taken_up c.self.inside.slots c.drop_part.new.slots c.self.inside.banks.even c.self.inside.banks.odd c.args.cell
      c.drop_part.ensures c.self.invariant.0
      c.fill.new.self.even c.fill.new.self.odd (not c.side-is_odd.result) c.fill.ensures.others
      (ap not c.side-is_odd.ensures) c.args.node (c.in_ok-fill.ensures.is ∙ ap wide c.as_slice-2.ensures)),
  (
    subst (λ (m : Slots). AreInLists m c.add_all.new.lists) (sym c.in_ok-put_offer.ensures.ok)
        (offering_listed c.drop_part.new.slots c.add_all.new.lists
        (listed_on c.self.inside.slots c.drop_part.new.slots c.self.inside.lists c.add_all.new.lists c.args.cell
        c.drop_part.ensures c.self.invariant.1.0 c.add_all.ensures.kept)
        c.args.cell c.args.node
        (subst (IsListed c.add_all.new.lists c.args.cell) c.as_slice.ensures c.in_ok-add_all.ensures.listed)),
    c.none.ensures _,
  ),
)

pub returns-clause-ok : goal.returns-clause-ok
returns-clause-ok c =
    ap network_of c.in_ok-put_offer.ensures.ok ∙ viewed_offered c.drop_part.new.slots c.args.cell c.args.node
    ∙ ap (λ (g : Network). offered g c.args.cell c.args.node) (ap network_of c.drop_part.ensures
    ∙ viewed_withdrawn c.self.inside.slots c.args.cell ∙ ap (λ g. withdrawn g c.args.cell) c.self.view_is)
    ∙ offered_again c.args.self.now c.args.cell c.args.node
