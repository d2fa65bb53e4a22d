-- Labels as they are shown.
use Rattle.std.specs.Prelude.{ℕ, zero, suc, ◌-◌, ◌/◌, ◌%◌, nat_le, nat_lt, List, [], ◌∷◌, ◌++◌, length, get_or, map, take, if◌then◌else◌}
use Rattle.lics_text.specs.Ascii as ascii
use Rattle.lics_text.specs.declared.prefix.LabelPrefix.{LabelPrefix}
use Rattle.lics_text.specs.declared.prefix.LabelPrefix.TheVariants.{Left, Right, Center, Repeat, Unprinted}
use Rattle.cell_format.specs.Numbers.{at_right, spaces}

-- bytes from 127 on are shown as a question mark
abbrev pub masked : ℕ → ℕ
masked b = if nat_le ascii.delete b then ascii.question_mark else b

-- at the left, cut at the width
abbrev pub at_left : List ℕ → ℕ → List ℕ
at_left text width = take width text ++ spaces (width - length text)

-- half of the free bytes, rounded down, on its left
abbrev pub centred : List ℕ → ℕ → List ℕ
centred text width =
    spaces ((width - length text) / 2) ++ (text ++ spaces (width - length text - (width - length text) / 2))

-- again and again through the width
unfoldable pub repeated : List ℕ → ℕ → List ℕ
repeated text zero = []
repeated text (suc width) = repeated text width ++ get_or text (width % length text) ascii.space ∷ []

-- by the prefix: \ repeats, " stands at the right and ^ in the middle where the text isn't too long
abbrev pub aligned : LabelPrefix → List ℕ → ℕ → List ℕ
aligned Repeat text width = repeated text width
aligned Right text width = if nat_lt (length text) width then at_right text width else at_left text width
aligned Center text width = if nat_le (length text) width then centred text width else at_left text width
aligned Left text width = at_left text width
aligned Unprinted text width = at_left text width

-- a label in a cell of that width
unfoldable pub shown_label : LabelPrefix → List ℕ → ℕ → List ℕ
shown_label prefix bytes width = aligned prefix (map masked bytes) width
