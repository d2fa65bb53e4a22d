-- Format indicators.
use Rattle.std.specs.Prelude.{ℕ, List, [], ◌∷◌, ◌++◌, codes}
use Rattle.lics_text.specs.Ascii as ascii
use Rattle.grid_address.specs.Address.{decimal}
use Rattle.cell_format.specs.declared.shape.DateForm.{DateForm}
use Rattle.cell_format.specs.declared.shape.DateForm.TheVariants.{DayMonthYear, DayMonth, MonthYear}
use Rattle.cell_format.specs.declared.shape.Shape.{Shape}
use Rattle.cell_format.specs.declared.shape.Shape.TheVariants.{Fixed, Scientific, Currency, Percent, Comma, Bar, General, Date, Text, Hidden, Default, Unnamed}
use Rattle.cell_format.specs.Format.{shape_of}

-- the digit of a date's format
abbrev pub date_digit : DateForm → ℕ
date_digit DayMonthYear = ascii.one
date_digit DayMonth = ascii.two
date_digit MonthYear = ascii.three

-- a letter and its decimals, in brackets
abbrev pub lettered : ℕ → ℕ → List ℕ
lettered letter places = ascii.opening_parenthesis ∷ letter ∷ (decimal places ++ ascii.closing_parenthesis ∷ [])

-- (F2) and its like, and nothing for the default format
abbrev pub indicated : Shape → List ℕ
indicated (Fixed places) = lettered ascii.capital_f places
indicated (Scientific places) = lettered ascii.capital_s places
indicated (Currency places) = lettered ascii.capital_c places
indicated (Percent places) = lettered ascii.capital_p places
indicated (Comma places) = lettered ascii.comma places
indicated Bar = codes "(+)"
indicated General = codes "(G)"
indicated (Date form) = ascii.opening_parenthesis ∷ ascii.capital_d ∷ date_digit form ∷ ascii.closing_parenthesis ∷ []
indicated Text = codes "(T)"
indicated Hidden = codes "(H)"
indicated Default = []
indicated Unnamed = codes "(?)"

-- the indicator of a format byte
abbrev pub indicator_of : ℕ → List ℕ
indicator_of format = indicated (shape_of format)
