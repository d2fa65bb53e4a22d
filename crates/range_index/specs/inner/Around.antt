-- A hull around the spans of all owners.
use Rattle.std.specs.Prelude.{◌≡◌, true}
use Rattle.std.specs.FinMap.{get}
use Rattle.grid_address.specs.Place.{Place}
use Rattle.range_index.specs.Owners.{hold, spans_in, Owners}
use Rattle.range_index.specs.declared.hull.Hull.{Hull}
use Rattle.range_index.specs.Hulls.{in_hull}

-- it holds each cell that a span of an owner holds
abbrev pub IsAround : Hull → Owners → Type 0
IsAround h m = (o p : Place) → hold (spans_in (get m o)) p ≡ true → in_hull h p ≡ true
