-- Lines as they are written.
use Rattle.std.specs.Prelude.{ℕ, zero, suc, ◌==◌, List, [], ◌∷◌, ◌++◌, replicate, if◌then◌else◌}
use Rattle.lics_text.specs.Ascii as ascii

-- CR LF
abbrev pub line_end : List ℕ
line_end = ascii.carriage_return ∷ ascii.line_feed ∷ []

-- so many empty lines
abbrev pub empty_lines : ℕ → List ℕ
empty_lines zero = []
empty_lines (suc n) = line_end ++ empty_lines n

-- a byte in front of what is left behind it; a blank with nothing behind it is dropped
abbrev pub in_front : ℕ → List ℕ → List ℕ
in_front b [] = if b == ascii.space then [] else b ∷ []
in_front b (c ∷ cs) = b ∷ c ∷ cs

-- without the blanks at its end
abbrev pub trimmed : List ℕ → List ℕ
trimmed [] = []
trimmed (b ∷ bs) = in_front b (trimmed bs)

-- so many blanks before what isn't empty
abbrev pub with_margin : ℕ → List ℕ → List ℕ
with_margin left [] = []
with_margin left (b ∷ bs) = replicate left ascii.space ++ b ∷ bs

-- a text behind its margin, and the line's end
abbrev pub line : ℕ → List ℕ → List ℕ
line left text = with_margin left (trimmed text) ++ line_end
