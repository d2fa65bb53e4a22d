-- Formulas that were read from texts.
use Rattle.std.specs.Prelude.{◌≡◌, ℕ, List, Ok}
use Rattle.formula_text.specs.Reading.{reading}
use Rattle.formula_tree.specs.Tree.{Tree}
use Rattle.grid_address.specs.Place.{Place}
use Rattle.range_names.specs.Names.{NameMap}

-- a text spells this formula where it stands in a cell, whatever names there are
abbrev pub IsRead : Place → List ℕ → Tree → Type 0
IsRead cell text t = (names : NameMap) → reading names cell text ≡ Ok t
