use Rattle.std.specs.Prelude.{◌≡◌, Bool, [], filter}
use Rattle.std.proofs.Common.{sym, ◌∙◌, ap, subst}
use Rattle.grid_address.proofs.Places.{same_place_is}
use Rattle.grid_address.specs.Place.{same_place, Place}
use Rattle.natural_order.proofs.Cut.{filter_in}
use Rattle.natural_order.specs.Machine.{walked}
use Rattle.cell_maps.specs.Sets.{has}
use Rattle.natural_order.specs.Walk.{Precedes, Walked}
use Rattle.sheet_store.specs.Grid.{formulas, Grid}
use Rattle.recalculation.proofs.First.{dirty_circular, dirty_done, order_goes, order_same, walked_dirty}
use Rattle.recalculation.proofs.Graphs.{walk_told}
use Rattle.recalculation.specs.Reading.{pre}
use Rattle.recalculation.proofs.recalculation.dirty_order.Goals as goal

pub order_of-requires : goal.order_of-requires
order_of-requires c = record {
  known = λ x m. filter_in same_place same_place_is (has same_place c.args.dirty.now.keys) (formulas c.args.store.now) x
      (sym (ap (λ cs. has same_place cs x) (c.as_slice.ensures.value ∙ c.in_ok-roots.ensures)) ∙ m);
}

pub returns-clause-done : goal.returns-clause-done
returns-clause-done c =
    let g : Grid = c.args.store.now in
    let dirty : Place → Bool = has same_place c.args.dirty.now.keys in
    let w : walked c.in_ok-order.order.done c.in_ok-order.order.circular ≡ walked_dirty g dirty =
    c.in_ok-order.ensures.order ∙ walk_told c.args.graph.now g c.requires.matches dirty _
    (c.as_slice.ensures.value ∙ c.in_ok-roots.ensures) in
    ap (λ (s : Walked Place). s.done) w ∙ dirty_done g dirty c.requires.split c.requires.only

pub returns-clause-circular : goal.returns-clause-circular
returns-clause-circular c =
    let g : Grid = c.args.store.now in
    let dirty : Place → Bool = has same_place c.args.dirty.now.keys in
    let w : walked c.in_ok-order.order.done c.in_ok-order.order.circular ≡ walked_dirty g dirty =
    c.in_ok-order.ensures.order ∙ walk_told c.args.graph.now g c.requires.matches dirty _
    (c.as_slice.ensures.value ∙ c.in_ok-roots.ensures) in
    ap (λ (s : Walked Place). s.circular) w ∙ dirty_circular g dirty c.requires.split c.requires.only

pub returns-clause-precedes : goal.returns-clause-precedes
returns-clause-precedes c =
    let g : Grid = c.args.store.now in
    let dirty : Place → Bool = has same_place c.args.dirty.now.keys in
    let w : walked c.in_ok-order.order.done c.in_ok-order.order.circular ≡ walked_dirty g dirty =
    c.in_ok-order.ensures.order ∙ walk_told c.args.graph.now g c.requires.matches dirty _
    (c.as_slice.ensures.value ∙ c.in_ok-roots.ensures) in
    subst (λ (s : Walked Place). Precedes same_place (λ x. filter dirty (pre g x)) [] s.done) (sym w)
    (order_goes g dirty c.requires.split c.requires.only)

pub returns-clause-same : goal.returns-clause-same
returns-clause-same c =
    let g : Grid = c.args.store.now in
    let dirty : Place → Bool = has same_place c.args.dirty.now.keys in
    let w : walked c.in_ok-order.order.done c.in_ok-order.order.circular ≡ walked_dirty g dirty =
    c.in_ok-order.ensures.order ∙ walk_told c.args.graph.now g c.requires.matches dirty _
    (c.as_slice.ensures.value ∙ c.in_ok-roots.ensures) in
    λ x. ap (λ (s : Walked Place). has same_place s.done x) w ∙ ap (λ cs. has same_place cs x)
    (dirty_done g dirty c.requires.split c.requires.only) ∙ order_same g dirty c.requires.split c.requires.only x
