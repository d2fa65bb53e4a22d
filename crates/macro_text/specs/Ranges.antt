-- Places and ranges as arguments spell them.
use Rattle.std.specs.Prelude.{ℕ, List, Option, None, Some}
use Rattle.formula_text.specs.Words.{named_span}
use Rattle.grid_address.specs.Place.{Extent, Place}
use Rattle.grid_address.specs.Progress.{address_in}
use Rattle.grid_address.specs.TypedSpans.{span_in}
use Rattle.range_names.specs.Names.{NameMap}

-- a cell, or else the first one of a span
abbrev pub cell_or_first : Option Place → Option Extent → Option Place
cell_or_first (Some c) s = Some c
cell_or_first None None = None
cell_or_first None (Some s) = Some s.first

-- a place: an address, or a name of which the first cell counts
abbrev pub place_of : NameMap → List ℕ → Option Place
place_of names text = cell_or_first (address_in text) (named_span names text)

-- a span, or else that of a name
abbrev pub span_or_named : Option Extent → Option Extent → Option Extent
span_or_named (Some s) named = Some s
span_or_named None named = named

-- a range: an address, a span or a name
abbrev pub range_of : NameMap → List ℕ → Option Extent
range_of names text = span_or_named (span_in text) (named_span names text)
