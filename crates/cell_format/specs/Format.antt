-- What a format byte asks for.
use Rattle.std.specs.Prelude.{ℕ, ◌==◌, ◌<◌, ⊤, if◌then◌else◌}
use Rattle.grid_address.specs.Formats.{kind_of, places_of}
use Rattle.cell_format.specs.declared.shape.DateForm.TheVariants.{DayMonthYear, DayMonth, MonthYear}
use Rattle.cell_format.specs.declared.shape.Shape.{Shape}
use Rattle.cell_format.specs.declared.shape.Shape.TheVariants.{Fixed, Scientific, Currency, Percent, Comma, Bar, General, Date, Text, Hidden, Default, Unnamed}

-- the details of kind 7
abbrev pub special : ℕ → Shape
special detail =
    if detail == 0 then Bar
    else if detail == 1 then General
    else if detail == 2 then Date DayMonthYear
    else if detail == 3 then Date DayMonth
    else if detail == 4 then Date MonthYear
    else if detail == 5 then Text
    else if detail == 6 then Hidden
    else if detail == 15 then Default
    else Unnamed

-- what a format's kind and its decimals or detail ask for
abbrev pub shape_by : ℕ → ℕ → Shape
shape_by kind detail =
    if kind == 0 then Fixed detail
    else if kind == 1 then Scientific detail
    else if kind == 2 then Currency detail
    else if kind == 3 then Percent detail
    else if kind == 4 then Comma detail
    else if kind == 7 then special detail
    else Unnamed

-- what a format byte asks for
unfoldable pub shape_of : ℕ → Shape
shape_of format = shape_by (kind_of format) (places_of format)

-- at most 15 decimals
abbrev pub HasFewPlaces : Shape → Type 0
HasFewPlaces (Fixed places) = places < 16
HasFewPlaces (Scientific places) = places < 16
HasFewPlaces (Currency places) = places < 16
HasFewPlaces (Percent places) = places < 16
HasFewPlaces (Comma places) = places < 16
HasFewPlaces Bar = ⊤
HasFewPlaces General = ⊤
HasFewPlaces (Date form) = ⊤
HasFewPlaces Text = ⊤
HasFewPlaces Hidden = ⊤
HasFewPlaces Default = ⊤
HasFewPlaces Unnamed = ⊤
