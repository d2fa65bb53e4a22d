-- How far an address is read.
use Rattle.std.specs.Char.{is_ascii_digit, is_ascii_uppercase, to_ascii_uppercase}
use Rattle.std.specs.Prelude.{ℕ, ◌+◌, ◌-◌, ◌*◌, ◌&&◌, ◌==◌, nat_le, nat_lt, get_or, Option, Some, None, List, [], ◌∷◌, if◌then◌else◌, fold}
use Rattle.lics_text.specs.Ascii as ascii
use Rattle.grid_address.specs.Limits.{COLUMNS, ROWS}
use Rattle.grid_address.specs.declared.reading.Progress.{Progress}
use Rattle.grid_address.specs.declared.reading.Progress.TheVariants.{Nothing, Letter, Column, Row}
use Rattle.grid_address.specs.Place.{Place}

-- a row's number begins with 1 to 9
abbrev pub first_digit : ℕ → ℕ → Option Progress
first_digit c b = if nat_le ascii.one b && nat_le b ascii.nine then Some (Row c (b - ascii.zero)) else None

-- a column behind its second letter; none past the last column
abbrev pub second_letter : ℕ → ℕ → Option Progress
second_letter c b =
    if nat_lt ((c + 1) * 26 + (b - ascii.capital_a)) COLUMNS
    then Some (Column ((c + 1) * 26 + (b - ascii.capital_a))) else None

-- a row behind a further digit; none past the last row
abbrev pub later_digit : ℕ → ℕ → Option Progress
later_digit c n = if nat_le n ROWS then Some (Row c n) else None

-- how far it is read with one byte more; none where no address goes on with it
abbrev pub next_of : Progress → ℕ → Option Progress
next_of Nothing b =
    if is_ascii_uppercase (to_ascii_uppercase b)
    then Some (Letter (to_ascii_uppercase b - ascii.capital_a)) else None
next_of (Letter c) b =
    if is_ascii_uppercase (to_ascii_uppercase b) then second_letter c (to_ascii_uppercase b) else first_digit c b
next_of (Column c) b = first_digit c b
next_of (Row c n) b = if is_ascii_digit b then later_digit c (n * 10 + (b - ascii.zero)) else None

-- the cell, where its row is read
abbrev pub whole_cell : Progress → Option Place
whole_cell Nothing = None
whole_cell (Letter c) = None
whole_cell (Column c) = None
whole_cell (Row c n) = Some (record { row = n - 1; col = c })

-- how many dots stand in front, at most two
abbrev pub count_dots : List ℕ → ℕ
count_dots [] = 0
count_dots (x ∷ rest) = if x == ascii.dot then (if get_or rest 0 0 == ascii.dot then 2 else 1) else 0

-- how far an address is read behind one more byte; none where it can be none any more
abbrev pub step_on : Option Progress → ℕ → Option Progress
step_on None b = None
step_on (Some s) b = next_of s b

-- the cell of what was read; none where it is no whole address
abbrev pub end_of : Option Progress → Option Place
end_of None = None
end_of (Some s) = whole_cell s

-- the address that is read from there on
abbrev pub read_by : Progress → List ℕ → Option Place
read_by s bytes = end_of (fold step_on (Some s) bytes)

-- the address that bytes are, as a function
abbrev pub address_in : List ℕ → Option Place
address_in bytes = read_by Nothing bytes
