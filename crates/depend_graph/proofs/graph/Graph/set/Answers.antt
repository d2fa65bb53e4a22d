use Rattle.std.specs.Prelude.{false, refl}
use Rattle.std.proofs.Common.{ap, subst, sym, ◌∙◌}
use Rattle.depend_graph.proofs.Kept.{begun_registered, formed_registered}
use Rattle.depend_graph.proofs.Listing.{all_kept, formed_listed}
use Rattle.depend_graph.proofs.Viewed.{set_is, viewed_formed}
use Rattle.depend_graph.specs.inner.Banks.{wide}
use Rattle.depend_graph.specs.inner.Lists.{AreInLists, IsListed}
use Rattle.depend_graph.specs.Network.{accepted, put, Network}
use Rattle.depend_graph.specs.inner.Readers.{network_of}
use Rattle.depend_graph.specs.inner.Slots.{AreRegistered, Slots}
use Rattle.depend_graph.proofs.graph.Graph.set.Goals as goal

pub returns-then-has_slot-clause-ok : goal.returns-then-has_slot-clause-ok
returns-then-has_slot-clause-ok c =
    c.accept.ensures ∙ ap (λ (g : Network). accepted g c.args.cell) c.in_ok-offer.ensures.ok
    ∙ set_is c.args.self.now c.args.cell c.args.node

pub invariant_of-self : goal.invariant_of-self
invariant_of-self c = (
  c.self.invariant.0,
  (
    all_kept c.self.inside.slots c.self.inside.lists c.add_all.new.lists c.add_all.ensures.kept c.self.invariant.1.0,
    c.none.ensures _,
  ),
)

pub invariant_of-self-in_err-fill : goal.invariant_of-self-in_err-fill
invariant_of-self-in_err-fill c = (
  begun_registered c.self.inside.slots c.self.inside.banks.even c.self.inside.banks.odd c.fill.new.self.even
      c.fill.new.self.odd false c.args.cell c.fill.ensures.others c.self.invariant.0 (sym c.if-has_slot.ensures),
  (
    all_kept c.self.inside.slots c.self.inside.lists c.add_all.new.lists c.add_all.ensures.kept c.self.invariant.1.0,
    c.none.ensures _,
  ),
)

pub invariant_of-self-in_err-put_formula : goal.invariant_of-self-in_err-put_formula
invariant_of-self-in_err-put_formula c = (
  subst (λ (m : Slots). AreRegistered m c.fill.new.self.even c.fill.new.self.odd) (sym c.in_err-put_formula.ensures.err)
      (begun_registered c.self.inside.slots c.self.inside.banks.even c.self.inside.banks.odd c.fill.new.self.even
      c.fill.new.self.odd false c.args.cell c.fill.ensures.others c.self.invariant.0 (sym c.if-has_slot.ensures)),
  (
    subst (λ (m : Slots). AreInLists m c.add_all.new.lists) (sym c.in_err-put_formula.ensures.err)
        (all_kept c.self.inside.slots c.self.inside.lists c.add_all.new.lists c.add_all.ensures.kept
        c.self.invariant.1.0),
    c.none.ensures _,
  ),
)

pub invariant_of-self-2 : goal.invariant_of-self-2
invariant_of-self-2 c = (
  subst (λ (m : Slots). AreRegistered m c.fill.new.self.even c.fill.new.self.odd) (sym c.in_ok-put_formula.ensures.ok)
      (formed_registered c.self.inside.slots c.self.inside.banks.even c.self.inside.banks.odd c.fill.new.self.even
      c.fill.new.self.odd false c.args.cell c.fill.ensures.others c.self.invariant.0 c.args.node refl
      (c.in_ok-fill.ensures.is ∙ ap wide c.as_slice-2.ensures)),
  (
    subst (λ (m : Slots). AreInLists m c.add_all.new.lists) (sym c.in_ok-put_formula.ensures.ok)
        (formed_listed c.self.inside.slots c.add_all.new.lists
        (all_kept c.self.inside.slots c.self.inside.lists c.add_all.new.lists c.add_all.ensures.kept
        c.self.invariant.1.0)
        c.args.cell c.args.node
        (subst (IsListed c.add_all.new.lists c.args.cell) c.as_slice.ensures c.in_ok-add_all.ensures.listed)),
    c.none.ensures _,
  ),
)

pub returns-clause-ok : goal.returns-clause-ok
returns-clause-ok c =
    ap network_of c.in_ok-put_formula.ensures.ok ∙ viewed_formed c.self.inside.slots c.args.cell c.args.node
    ∙ ap (λ (g : Network). put g c.args.cell c.args.node) c.self.view_is
