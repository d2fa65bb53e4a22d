-- Which bytes a text may hold.
use Rattle.std.specs.Prelude.{ℕ, ◌≤◌, List, length}
use Rattle.std.specs.List.{All}
use Rattle.lics_text.specs.Ascii as ascii
use Rattle.lics_text.specs.Limits.{MAX_LEN}

-- at most 240 bytes, none below a space
abbrev pub IsText : List ℕ → Type 0
IsText bytes = (length bytes ≤ MAX_LEN) × All (λ b. ascii.space ≤ b) bytes
