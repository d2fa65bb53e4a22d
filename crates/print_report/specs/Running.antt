-- The lines at the head and the foot of each page.
use Rattle.std.specs.Prelude.{ℕ, ◌+◌, ◌-◌, ◌*◌, ◌/◌, ◌==◌, pos, List, [], ◌∷◌, ◌++◌, length, take, drop, replicate, position, Option, Some, None, if◌then◌else◌}
use Rattle.lics_text.specs.Ascii as ascii
use Rattle.cell_format.specs.Numbers.{shown_number}
use Rattle.grid_address.specs.Address.{decimal}
use Rattle.grid_address.specs.Formats.{date_format}

-- the place of the first `|`
abbrev pub bar_in : List ℕ → Option ℕ
bar_in text = position (λ b. b == ascii.bar) text

-- what stands before a place, or all
abbrev pub before : Option ℕ → List ℕ → List ℕ
before None text = text
before (Some at) text = take at text

-- what stands behind a place, or nothing
abbrev pub behind : Option ℕ → List ℕ → List ℕ
behind None text = []
behind (Some at) text = drop (at + 1) text

-- what stands before the first `|`, or all
abbrev pub before_bar : List ℕ → List ℕ
before_bar text = before (bar_in text) text

-- what stands behind the first `|`, or nothing
abbrev pub behind_bar : List ℕ → List ℕ
behind_bar text = behind (bar_in text) text

-- the day as 01-Jun-87, and nothing where there is none
abbrev pub day_text : Option ℕ → List ℕ
day_text None = []
day_text (Some day) = take 9 (shown_number (pos (day * 1000000)) date_format 10)

-- `#` is the page's number, and `@` the day
abbrev pub filled : ℕ → Option ℕ → ℕ → List ℕ
filled number day b = if b == ascii.hash then decimal number else if b == ascii.at_sign then day_text day else b ∷ []

-- the text with what its bytes stand for
abbrev pub filled_in : ℕ → Option ℕ → List ℕ → List ℕ
filled_in number day [] = []
filled_in number day (b ∷ bs) = filled number day b ++ filled_in number day bs

-- a part, cut at the width of the page
abbrev pub part : ℕ → ℕ → Option ℕ → List ℕ → List ℕ
part width number day text = take width (filled_in number day text)

-- a part laid over a line
abbrev pub laid : ℕ → List ℕ → List ℕ → List ℕ
laid at text over = take at over ++ text ++ drop (at + length text) over

-- a part at the left of a line; each part is cut at the line's width
abbrev pub left_laid : ℕ → Option ℕ → List ℕ → List ℕ → List ℕ
left_laid number day text over = laid 0 (part (length over) number day text) over

-- a part in the middle, with half of the free bytes, rounded down, on its left
abbrev pub middle_laid : ℕ → Option ℕ → List ℕ → List ℕ → List ℕ
middle_laid number day text over =
    laid ((length over - length (part (length over) number day text)) / 2) (part (length over) number day text) over

-- a part at the right
abbrev pub right_laid : ℕ → Option ℕ → List ℕ → List ℕ → List ℕ
right_laid number day text over =
    laid (length over - length (part (length over) number day text)) (part (length over) number day text) over

-- three parts, cut at the first two `|`, laid over a line from left to right
abbrev pub overlaid : ℕ → Option ℕ → List ℕ → List ℕ → List ℕ
overlaid number day text over =
    right_laid number day (behind_bar (behind_bar text))
    (middle_laid number day (before_bar (behind_bar text)) (left_laid number day (before_bar text) over))

-- laid over blanks
abbrev pub running : ℕ → ℕ → Option ℕ → List ℕ → List ℕ
running width number day text = overlaid number day text (replicate width ascii.space)
