use Rattle.std.specs.Prelude.{◌≡◌, drop, Bool}
use Rattle.cell_maps.specs.Sets.{has}
use Rattle.grid_address.specs.Place.{same_place, Place}
use Rattle.formula_parts.specs.inner.Kept.{IsKept}
use Rattle.recalculation.specs.Context.{seen_context}
use Rattle.sheet_store.specs.Grid.{value_at}
use Rattle.recalculation.specs.Passes.{pass, raised_by, IsSound, SameContents, SameOutside}
use Rattle.recalculation.specs.Reading.{is_formula_at}
use Rattle.recalculation.proofs.evaluate.pass_along.Given as goal

abbrev pub invariant-loop-cell : goal.invariant-loop-cell
invariant-loop-cell g l =
    let mean = g.E.Means.meaning in
    let ctx = seen_context l.context in
    record {
      values : pass mean ctx (drop l.cell-index l.cells) l.store ≡ pass mean ctx l.cells l.fn.store;
      formulas : (c : Place) → is_formula_at l.store c ≡ is_formula_at l.fn.store c;
      sound : (dirty : Place → Bool) → IsSound mean ctx l.fn.store dirty → IsSound mean ctx l.store dirty;
      contents : SameContents l.fn.store l.store;
      outside : SameOutside (has same_place l.cells) l.fn.store l.store;
      kept : IsKept l.kept (value_at l.store);
      count : g.E.Means.count l.tally ≡ raised_by l.cell-index (g.E.Means.count l.fn.tally);
    }
