-- A span around others.
use Rattle.std.specs.Prelude.{Bool, false, Option, None, Some}
use Rattle.grid_address.specs.Place.{is_within, Extent, Place}
use Rattle.range_index.specs.declared.hull.Hull.{Hull}

-- whether a span holds a cell, where there is one
abbrev pub holds : Option Extent → Place → Bool
holds None p = false
holds (Some s) p = is_within s p

-- whether it holds a cell
abbrev pub in_hull : Hull → Place → Bool
in_hull h p = holds h.around p
