-- How addresses are written.
use Rattle.std.specs.Prelude.{ℕ, ◌+◌, ◌/◌, ◌%◌, List, [], ◌∷◌, ◌++◌, map, nat_lt, ◌==◌, if◌then◌else◌}
use Rattle.std.specs.Int.Digits.{digits_of}
use Rattle.lics_text.specs.Ascii as ascii
use Rattle.grid_address.specs.Place.{Place}

-- a number in decimal digits, without leading zeros
abbrev pub decimal : ℕ → List ℕ
decimal n = if n == 0 then ascii.zero ∷ [] else map (λ d. ascii.zero + d) (digits_of 10 n)

-- the byte before A: the first of two letters is counted from 1
abbrev pub before_a : ℕ
before_a = 64

-- a column's letters: A to Z for the first 26, then AA, AB and so on
abbrev pub column_name : ℕ → List ℕ
column_name col =
    if nat_lt col 26 then (ascii.capital_a + col) ∷ []
    else (before_a + col / 26) ∷ (ascii.capital_a + col % 26) ∷ []

-- the column's letters and then the row's number, counted from 1
abbrev pub address_of : Place → List ℕ
address_of p = column_name p.col ++ decimal (p.row + 1)
