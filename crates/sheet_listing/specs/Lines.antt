-- Lines of fields (this project's own).
use Rattle.std.specs.Prelude.{ℕ, Bool, true, false, List, [], ◌∷◌, ◌++◌, if◌then◌else◌}
use Rattle.lics_text.specs.Ascii as ascii

-- stands between two fields of a line
abbrev pub TAB : ℕ
TAB = 9

-- no bytes
abbrev pub is_empty : List ℕ → Bool
is_empty [] = true
is_empty (b ∷ bs) = false

-- a tab, a field and what comes behind it; nothing where both are empty
abbrev pub field : List ℕ → List ℕ → List ℕ
field text behind = if is_empty (text ++ behind) then [] else TAB ∷ (text ++ behind)

-- the fields behind the first; empty ones at the end are left out
abbrev pub fields : List (List ℕ) → List ℕ
fields [] = []
fields (text ∷ texts) = field text (fields texts)

-- a line: its first field, the others, and its end
abbrev pub line : List ℕ → List (List ℕ) → List ℕ
line first others = first ++ (fields others ++ ascii.line_feed ∷ [])
