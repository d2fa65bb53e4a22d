-- An offer is put where the earlier one was taken back.
use Rattle.std.specs.Prelude.{◌≡◌, Bool, cond, not, refl, Option, None, Some}
use Rattle.std.specs.FinMap.{get}
use Rattle.std.proofs.Common.{sym, ◌∙◌, ap, subst}
use Rattle.grid_address.proofs.Places.{same_place_itself}
use Rattle.grid_address.specs.Place.{Place}
use Rattle.range_index.specs.Owners.{Owners}
use Rattle.depend_graph.specs.inner.Banks.{spans_at, wide, AreOthersKept}
use Rattle.depend_graph.specs.inner.Slots.{filled, offering, placed, side, without, AreRegistered, Slots}
use Rattle.depend_graph.specs.declared.slots.Part.TheVariants.{Offer}
use Rattle.depend_graph.specs.declared.node.Node.{Node}
use Rattle.depend_graph.specs.declared.slots.Slot.{Slot}
use Rattle.depend_graph.proofs.Kept.{offering_registered, unoffered_registered}
use Rattle.depend_graph.proofs.Placed.{get_placed, placed_same}

unoffered_twice : (o : Option Slot) → without Offer (without Offer o) ≡ without Offer o
unoffered_twice None = refl
unoffered_twice (Some s) = with s.node
  where
    with : (n : Option Node) → without Offer (filled n (record s { node = n; offer = None }))
        ≡ filled n (record s { node = n; offer = None })
    with None = refl
    with (Some n) = refl

module _ (m m1 : Slots) (even odd : Owners) (c : Place) (is : m1 ≡ placed m c (without Offer (get m c)))
    (all : AreRegistered m even odd) where
  found : get m1 c ≡ without Offer (get m c)
  found = ap (λ (x : Slots). get x c) is ∙ get_placed m c (without Offer (get m c)) c
      ∙ ap (λ b. cond b (without Offer (get m c)) (get m c)) (same_place_itself c)

  -- with its offer taken back, each formula's spans are where the slots say
  pub unoffered : AreRegistered m1 even odd
  unoffered = subst (λ (x : Slots). AreRegistered x even odd) (sym is)
      (unoffered_registered m even odd even odd (not (side (get m c))) c (λ b d h. refl) all refl)

  module _ (even' odd' : Owners) (b : Bool) (kept : AreOthersKept even odd even' odd' b c)
      (other : b ≡ not (side (get m1 c))) where
    -- where no new offer came, the formulas' spans are where the slots say, in spite of the spans that were begun
    pub refused : AreRegistered m1 even' odd'
    refused = subst (λ (x : Slots). AreRegistered x even' odd') (ap (placed m1 c)
        (ap (without Offer) found ∙ unoffered_twice (get m c) ∙ sym found) ∙ placed_same m1 c (get m1 c) refl)
        (unoffered_registered m1 even odd even' odd' b c kept unoffered other)

    -- where a new offer came, its spans are where its slot says
    pub taken_up : (n : Node) → spans_at even' odd' b c ≡ wide n.reads
        → AreRegistered (placed m1 c (Some (offering (get m1 c) n))) even' odd'
    taken_up n reads = offering_registered m1 even odd even' odd' b c kept unoffered n other reads
