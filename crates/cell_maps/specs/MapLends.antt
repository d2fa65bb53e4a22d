-- What a map ends as, where a `&mut` to an item is returned.
use Rattle.std.specs.Prelude.{Option}
use Rattle.std.specs.Borrow.{LendsIf, Fml, RattleType, MutBor}
use Rattle.std.specs.FinMap.{insert, FinMap}
use Rattle.grid_address.specs.Place.{place_cmp, Place}
use Rattle.cell_maps.specs.contracts.map.CellMap.{the_row}

-- once the borrow r ends, the cell has the last item written through r; at `None` the map stays as it is
abbrev pub lends_get : (T : RattleType) → MutBor (FinMap place_cmp T.Denot) → Place → Option (MutBor T.Denot) → Fml
lends_get T s c r = LendsIf (the_row T) T s r (λ w. insert s.now c w) s.now
