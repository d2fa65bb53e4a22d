-- Where places are after a span was moved.
use Rattle.std.specs.Prelude.{◌+◌, ◌-◌, Option, Some, None, if◌then◌else◌}
use Rattle.grid_address.specs.Place.{is_within, spanned, Extent, InSheet, Place}

-- where a place of the span comes: as far from `to` as it was from the span's first corner
abbrev pub carried : Extent → Place → Place → Place
carried from to p = record { row = p.row - from.first.row + to.row; col = p.col - from.first.col + to.col }

-- the span of the same size whose first corner is `to`
abbrev pub target : Extent → Place → Extent
target from to = record { first = to; last = carried from to from.last }

-- the target lies in the sheet
abbrev pub FitsAt : Extent → Place → Type 0
FitsAt from to = InSheet (carried from to from.last)

-- a moved place follows, an overwritten one is lost, and any other stays
abbrev pub place_moved : Extent → Place → Place → Option Place
place_moved from to p =
    if is_within from p then Some (carried from to p)
    else (if is_within (target from to) p then None else Some p)

-- a span by its corners, put in order; none where a corner is lost
abbrev pub span_of_corners : Option Place → Option Place → Option Extent
span_of_corners (Some a) (Some b) = Some (spanned a b)
span_of_corners (Some a) None = None
span_of_corners None b = None

-- where a span comes to when a block is moved, by its two corners; none where one of them is lost
abbrev pub span_moved : Extent → Place → Extent → Option Extent
span_moved from to s = span_of_corners (place_moved from to s.first) (place_moved from to s.last)
