-- What a cell holds, as it would be typed.
use Rattle.std.specs.Prelude.{ℕ, List, [], ◌∷◌, Option, None, Some}
use Rattle.std.specs.FinMap as map
use Rattle.grid_address.specs.Place.{Place}
use Rattle.fixed_value.specs.Written.{short}
use Rattle.formula_text.specs.Printed.{printed}
use Rattle.formula_tree.specs.declared.value.Content.{Content}
use Rattle.formula_tree.specs.declared.value.Content.TheVariants as content
use Rattle.lics_text.specs.Prefixes.{prefix_byte}
use Rattle.range_names.specs.Names.{NameMap}
use Rattle.sheet_store.specs.Grid.{Grid}
use Rattle.sheet_store.specs.State.{CellState}

-- a label with its prefix, a number with the places that it needs, a formula with the names of the sheet
abbrev pub typed_content : NameMap → Place → Content → List ℕ
typed_content names c content.Blank = []
typed_content names c (content.Number x) = short x 6
typed_content names c (content.Label p t) = prefix_byte p ∷ t
typed_content names c (content.Formula f) = printed names c f

-- what is held of a cell, as it would be typed
abbrev pub typed_state : NameMap → Place → Option CellState → List ℕ
typed_state names c None = []
typed_state names c (Some s) = typed_content names c s.content

-- what a cell holds, as it would be typed
abbrev pub typed : NameMap → Grid → Place → List ℕ
typed names g c = typed_state names c (map.get g.cells c)
