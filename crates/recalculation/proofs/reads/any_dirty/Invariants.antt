use Rattle.std.specs.Prelude.{◌≡◌, drop}
use Rattle.std.specs.List.{list_any}
use Rattle.grid_address.specs.Place.{same_place}
use Rattle.cell_maps.specs.Sets.{has}
use Rattle.recalculation.specs.Reading.{formulas_in}
use Rattle.recalculation.proofs.reads.any_dirty.Given as goal

abbrev pub invariant-loop-span : goal.invariant-loop-span
invariant-loop-span l =
    list_any (has same_place l.dirty.keys) (formulas_in l.store (drop l.span-index l.spans))
    ≡ list_any (has same_place l.dirty.keys) (formulas_in l.store l.spans)
