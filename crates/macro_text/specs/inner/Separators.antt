-- How far a separator is.
use Rattle.std.specs.Prelude.{ℕ, ◌+◌, ◌==◌, ◌&&◌, not, Bool, true, false, Option, None, Some, List, [], ◌∷◌, if◌then◌else◌}
use Rattle.macro_text.specs.Listed.{depth_behind, is_quote, is_separator}

-- the first separator outside quotes and brackets; the first byte has this place
abbrev pub separator_from : ℕ → Bool → ℕ → List ℕ → Option ℕ
separator_from place quoted depth [] = None
separator_from place true depth (b ∷ bs) = separator_from (place + 1) (not (is_quote b)) depth bs
separator_from place false depth (b ∷ bs) =
    if is_separator b && depth == 0 then Some place
    else separator_from (place + 1) (is_quote b) (depth_behind depth b) bs
