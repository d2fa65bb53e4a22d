-- Lines of 80 bytes.
use Rattle.std.specs.Prelude.{ℕ, ◌-◌, List, ◌++◌, length, replicate, map}
use Rattle.lics_text.specs.Ascii as ascii
use Rattle.shown_cells.specs.Cells.{padded, shown_byte}

-- a text filled with blanks to a width
abbrev pub filled : ℕ → List ℕ → List ℕ
filled width text = text ++ replicate (width - length text) ascii.space

-- a line as it is shown
abbrev pub shown_line : List ℕ → List ℕ
shown_line text = map shown_byte (padded 80 text)
