-- The cells that are kept of arguments.
use Rattle.std.specs.Prelude.{◌≡◌, ℕ, [], get_or, List, Some}
use Rattle.std.specs.List.{All}
use Rattle.grid_address.specs.Progress.{address_in}
use Rattle.macro_text.specs.declared.arguments.PlacedCell.{PlacedCell}

-- each is the cell whose address the text at its place is
abbrev pub AreCellsOf : List (List ℕ) → List PlacedCell → Type 0
AreCellsOf texts cells = All (λ (p : PlacedCell). address_in (get_or texts p.place []) ≡ Some p.cell) cells
