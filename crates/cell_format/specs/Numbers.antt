-- Numbers as they are shown.
use Rattle.std.specs.Prelude.{ℕ, zero, suc, ◌+◌, ◌-◌, ◌/◌, ◌%◌, ℤ, pos, nat_abs, int_lt, unsigned_abs, not, ◌&&◌, ◌==◌, nat_le, nat_lt, Option, Some, None, List, [], ◌∷◌, ◌++◌, length, replicate, if◌then◌else◌, codes}
use Rattle.lics_text.specs.Ascii as ascii
use Rattle.fixed_value.specs.Decimals.{behind_digits, whole_digits}
use Rattle.fixed_value.specs.Written.{hundredfold, scaled, short, written}
use Rattle.serial_date.specs.declared.calendar.Civil.{Civil}
use Rattle.serial_date.specs.Calendar.{date_of}
use Rattle.serial_date.specs.Fractions.{whole_day}
use Rattle.cell_format.specs.declared.shape.DateForm.{DateForm}
use Rattle.cell_format.specs.declared.shape.DateForm.TheVariants.{DayMonthYear, DayMonth, MonthYear}
use Rattle.cell_format.specs.declared.shape.Shape.{Shape}
use Rattle.cell_format.specs.declared.shape.Shape.TheVariants.{Fixed, Scientific, Currency, Percent, Comma, Bar, General, Date, Text, Hidden, Default, Unnamed}
use Rattle.cell_format.specs.Format.{shape_of}

-- so many spaces
abbrev pub spaces : ℕ → List ℕ
spaces n = replicate n ascii.space

-- so many stars
abbrev pub stars : ℕ → List ℕ
stars n = replicate n ascii.star

-- a comma stands where three, six or nine digits follow
abbrev pub grouped : List ℕ → List ℕ
grouped [] = []
grouped (d ∷ ds) = if not (length ds == 0) && (length ds % 3 == 0) then d ∷ ascii.comma ∷ grouped ds else d ∷ grouped ds

-- the size with so many places, its whole digits in groups of three
abbrev pub size_text : ℤ → ℕ → List ℕ
size_text v places =
    grouped (whole_digits (written (pos (nat_abs v)) places)) ++ behind_digits (written (pos (nat_abs v)) places)

-- a number below zero stands in brackets, unless all its digits are zero
abbrev pub bracketed : ℤ → ℕ → List ℕ → List ℕ
bracketed v places text =
    if int_lt v (pos 0) && not (scaled v places == 0)
    then ascii.opening_parenthesis ∷ (text ++ ascii.closing_parenthesis ∷ []) else text

-- as many decimals as fit, at most so many, without zeros at the end
unfoldable pub fitting : ℕ → ℤ → ℕ → Option (List ℕ)
fitting zero v room = if nat_le (length (written v 0)) room then Some (short v 0) else None
fitting (suc places) v room =
    if nat_le (length (written v (suc places))) room then Some (short v (suc places)) else fitting places v room

-- the last two digits
abbrev pub two_digits : ℕ → List ℕ
two_digits n = (ascii.zero + n / 10 % 10) ∷ (ascii.zero + n % 10) ∷ []

-- Jan to Dec
unfoldable pub month_name : ℕ → List ℕ
month_name m =
    if m == 1 then codes "Jan"
    else if m == 2 then codes "Feb"
    else if m == 3 then codes "Mar"
    else if m == 4 then codes "Apr"
    else if m == 5 then codes "May"
    else if m == 6 then codes "Jun"
    else if m == 7 then codes "Jul"
    else if m == 8 then codes "Aug"
    else if m == 9 then codes "Sep"
    else if m == 10 then codes "Oct"
    else if m == 11 then codes "Nov"
    else codes "Dec"

-- 01-Jun-87, 01-Jun or Jun-87
abbrev pub date_text : DateForm → ℕ → ℕ → ℕ → List ℕ
date_text DayMonthYear y m d = two_digits d ++ (ascii.minus ∷ month_name m ++ ascii.minus ∷ two_digits y)
date_text DayMonth y m d = two_digits d ++ ascii.minus ∷ month_name m
date_text MonthYear y m d = month_name m ++ ascii.minus ∷ two_digits y

-- a date's text, and none for a number that is no day
abbrev pub dated : DateForm → Option Civil → Option (List ℕ)
dated form None = None
dated form (Some c) = Some (date_text form (unsigned_abs c.year) (unsigned_abs c.month) (unsigned_abs c.day))

-- the text of a number in at most so many bytes where it can be shortened; none where all bytes are stars
abbrev pub number_text : Shape → ℤ → ℕ → Option (List ℕ)
number_text (Fixed places) v room = Some (written v places)
number_text (Currency places) v room = Some (bracketed v places (ascii.dollar ∷ size_text v places))
number_text (Comma places) v room = Some (bracketed v places (size_text v places))
number_text (Percent places) v room = Some (hundredfold v places ++ ascii.percent ∷ [])
number_text (Date form) v room = dated form (date_of (whole_day v))
number_text (Scientific places) v room = fitting 6 v room
number_text Bar v room = fitting 6 v room
number_text General v room = fitting 6 v room
number_text Text v room = fitting 6 v room
number_text Hidden v room = Some []
number_text Default v room = fitting 6 v room
number_text Unnamed v room = fitting 6 v room

-- it ends one byte before the right edge
abbrev pub at_right : List ℕ → ℕ → List ℕ
at_right text width = spaces (width - 1 - length text) ++ (text ++ ascii.space ∷ [])

-- a text at the right, and stars where there is none or it is too wide
abbrev pub placed : Option (List ℕ) → ℕ → List ℕ
placed None width = stars width
placed (Some text) width = if nat_lt (length text) width then at_right text width else stars width

-- a number in a cell of that width
unfoldable pub shown_number : ℤ → ℕ → ℕ → List ℕ
shown_number v format width = placed (number_text (shape_of format) v (width - 1)) width
