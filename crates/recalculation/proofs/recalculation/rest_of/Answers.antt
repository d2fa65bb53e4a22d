use Rattle.std.specs.List.{IsDistinct}
use Rattle.std.specs.Prelude.{◌≡◌, List, [], filter}
use Rattle.std.proofs.Common.{sym, ◌∙◌, ap, subst}
use Rattle.grid_address.specs.Place.{same_place, Place}
use Rattle.cell_maps.specs.Sets.{has}
use Rattle.natural_order.specs.Walk.{Precedes}
use Rattle.recalculation.specs.Reading.{pre}
use Rattle.recalculation.proofs.recalculation.rest_of.Goals as goal

pub of-requires : goal.of-requires
of-requires c = subst (IsDistinct same_place) (sym c.as_slice-cells.ensures.keys) c.as_slice-cells.ensures.unique

pub leave-requires-clause-order : goal.leave-requires-clause-order
leave-requires-clause-order c =
    let cells : List Place = c.as_slice-cells.result.now in
    subst (λ (ks : List Place). Precedes same_place (λ x. filter (has same_place ks) (pre c.args.store.now x)) [] cells)
    (sym c.in_ok-rest.ensures)
    (subst (λ (ks : List Place). Precedes same_place (λ x. filter (has same_place ks) (pre c.args.store.now x)) [] ks)
    (sym c.as_slice-cells.ensures.keys) c.requires.order)

pub leave-requires-clause-covers : goal.leave-requires-clause-covers
leave-requires-clause-covers c = λ x m. ap (λ ks. has same_place ks x) (sym c.in_ok-rest.ensures) ∙ m

pub leave-requires-clause-all : goal.leave-requires-clause-all
leave-requires-clause-all c =
    λ x m. ap (λ ks. has same_place ks x) (c.in_ok-rest.ensures ∙ c.as_slice-cells.ensures.keys) ∙ c.requires.all x m

pub returns-clause-cells : goal.returns-clause-cells
returns-clause-cells c =
    c.in_ok-again.ensures ∙ ap (filter (has same_place c.leave.new.dirty.keys)) c.as_slice-cells.ensures.keys
