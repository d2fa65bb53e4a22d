-- Lines with the cursor at the end.
use Rattle.std.specs.Prelude.{ℕ, ◌-◌, Bool, ◌&&◌, nat_le, List, ◌++◌, length, take, get_or}
use Rattle.std.specs.List.{list_all}
use Rattle.lics_text.specs.Ascii as ascii
use Rattle.entry_line.specs.Line.{Entry}
use Rattle.lics_text.specs.Limits.{MAX_LEN}

-- a text with the cursor behind it
abbrev pub line_of : List ℕ → Entry
line_of text = record { text = text; cursor = length text }

-- more bytes at the end; those that would stand past 240 are passed over
abbrev pub extended : Entry → List ℕ → Entry
extended e bytes = line_of (take MAX_LEN (e.text ++ bytes))

-- the byte at a text's end, and 0 where it is empty
abbrev pub last_byte : List ℕ → ℕ
last_byte text = get_or text (length text - 1) 0

-- at most 240 bytes, none below a space
abbrev pub fits_line : List ℕ → Bool
fits_line text = nat_le (length text) MAX_LEN && list_all (nat_le ascii.space) text
