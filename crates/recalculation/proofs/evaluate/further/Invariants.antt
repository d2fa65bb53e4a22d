use Rattle.std.specs.Prelude.{Bool, ◌≡◌, ◌-◌, ◌*◌, length}
use Rattle.cell_maps.specs.Sets.{has}
use Rattle.grid_address.specs.Place.{same_place, Place}
use Rattle.recalculation.specs.Context.{seen_context}
use Rattle.recalculation.specs.Passes.{passes, raised_by, IsSound, SameContents, SameOutside}
use Rattle.recalculation.specs.Reading.{is_formula_at}
use Rattle.recalculation.proofs.evaluate.further.Given as goal

abbrev pub invariant-loop-turn : goal.invariant-loop-turn
invariant-loop-turn g l =
    let mean = g.E.Means.meaning in
    let ctx = seen_context l.context in
    record {
      values : passes mean ctx (l.times - l._turn) l.cells l.store ≡ passes mean ctx l.times l.cells l.fn.store;
      formulas : (c : Place) → is_formula_at l.store c ≡ is_formula_at l.fn.store c;
      sound : (dirty : Place → Bool) → IsSound mean ctx l.fn.store dirty → IsSound mean ctx l.store dirty;
      contents : SameContents l.fn.store l.store;
      outside : SameOutside (has same_place l.cells) l.fn.store l.store;
      count : g.E.Means.count l.tally ≡ raised_by (l._turn * length l.cells) (g.E.Means.count l.fn.tally);
    }
