-- Which bytes are read how far.
use Rattle.std.specs.Char.{to_ascii_uppercase}
use Rattle.std.specs.Prelude.{ℕ, ◌≡◌, ◌≤◌, ◌<◌, ◌+◌, ◌/◌, ◌%◌, get_or, length, take, None, List, [], ◌∷◌, ◌++◌, map, ⊤}
use Rattle.lics_text.specs.Ascii as ascii
use Rattle.grid_address.specs.Limits.{COLUMNS, ROWS}
use Rattle.grid_address.specs.declared.reading.Progress.{Progress}
use Rattle.grid_address.specs.declared.reading.Progress.TheVariants.{Nothing, Letter, Column, Row}
use Rattle.grid_address.specs.Address.{before_a, column_name, decimal}
use Rattle.grid_address.specs.Progress.{next_of}

-- these bytes are read that far: one letter, the two letters of a column, or a column and the first digits of a row's
-- number
abbrev pub IsRead : Progress → List ℕ → Type 0
IsRead Nothing bytes = bytes ≡ []
IsRead (Letter c) bytes = (map to_ascii_uppercase bytes ≡ (ascii.capital_a + c) ∷ []) × (c < 26)
IsRead (Column c) bytes =
    (map to_ascii_uppercase bytes ≡ (before_a + c / 26) ∷ (ascii.capital_a + c % 26) ∷ []) × (26 ≤ c) × (c < COLUMNS)
IsRead (Row c n) bytes =
    (map to_ascii_uppercase bytes ≡ column_name c ++ decimal n) × (c < COLUMNS) × (1 ≤ n) × (n ≤ ROWS)

-- a column and a row that are read are the sheet's
abbrev pub IsRowOfSheet : Progress → Type 0
IsRowOfSheet Nothing = ⊤
IsRowOfSheet (Letter c) = ⊤
IsRowOfSheet (Column c) = ⊤
IsRowOfSheet (Row c n) = (c < COLUMNS) × (1 ≤ n) × (n ≤ ROWS)

-- the front of the bytes is read that far, and the byte behind it can't go on
pub record IsFront (bytes : List ℕ) (s : Progress) (end : ℕ) : Type 0 where
  pub within : end ≤ length bytes
  pub read : IsRead s (take end bytes)
  pub sheet : IsRowOfSheet s
  pub ends : end < length bytes → next_of s (get_or bytes end 0) ≡ None
