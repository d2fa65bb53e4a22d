-- Spans as they are typed.
use Rattle.std.specs.Prelude.{ℕ, nat_eq, List, drop, take, position, Option, None, Some}
use Rattle.lics_text.specs.Ascii as ascii
use Rattle.grid_address.specs.Place.{spanned, Extent, Place}
use Rattle.grid_address.specs.Progress.{address_in, count_dots}

-- the span between two corners, where both are addresses
abbrev pub both_corners : Option Place → Option Place → Option Extent
both_corners None b = None
both_corners (Some a) None = None
both_corners (Some a) (Some b) = Some (spanned a b)

-- the bytes behind one dot or two
abbrev pub behind_dots : List ℕ → List ℕ
behind_dots bytes = drop (count_dots bytes) bytes

-- an address, or two parted where the first dot stands
abbrev pub parted_at : Option ℕ → List ℕ → Option Extent
parted_at None bytes = both_corners (address_in bytes) (address_in bytes)
parted_at (Some at) bytes = both_corners (address_in (take at bytes)) (address_in (behind_dots (drop at bytes)))

-- an address, or two in any order with one or two dots between them
abbrev pub span_in : List ℕ → Option Extent
span_in bytes = parted_at (position (nat_eq ascii.dot) bytes) bytes
