use Rattle.std.specs.Prelude.{◌≡◌, ◌++◌, drop}
use Rattle.std.specs.List.{filter}
use Rattle.grid_address.specs.Place.{same_place}
use Rattle.cell_maps.specs.Sets.{has}
use Rattle.recalculation.specs.Reading.{formulas_in}
use Rattle.recalculation.proofs.reads.dirty_in.Given as goal

abbrev pub invariant-loop-span : goal.invariant-loop-span
invariant-loop-span l =
    l.list.items ++ filter (has same_place l.dirty.keys) (formulas_in l.store (drop l.span-index l.spans))
    ≡ filter (has same_place l.dirty.keys) (formulas_in l.store l.spans)
