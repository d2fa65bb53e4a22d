-- What a cell shows in a width that is given.
use Rattle.std.specs.Prelude.{ℕ, List, [], map, Option, Some, None}
use Rattle.formula_parts.specs.Outlook.{Sight}
use Rattle.formula_tree.specs.declared.value.Content.{Content}
use Rattle.formula_tree.specs.declared.value.Value.{Value}
use Rattle.grid_address.specs.Place.{Place}
use Rattle.range_names.specs.Names.{NameMap}
use Rattle.shown_cells.specs.Cells.{format_in, padded, shown_byte, visible_text}

-- what a cell shows of its content and value, which may be longer than its width: nothing where nothing is kept of it
abbrev pub held_text : NameMap → Place → Option Content → Value → ℕ → ℕ → List ℕ
held_text names c None v format width = []
held_text names c (Some x) v format width = visible_text names c x v format width

-- what a cell shows in a width and by a format byte: cut or filled with blanks, each byte as it is shown
abbrev pub shown_cell : Sight → ℕ → Place → ℕ → ℕ → List ℕ
shown_cell s global c width byte =
    map shown_byte (padded width (held_text s.names c (s.contents c) (s.values c) (format_in global byte) width))
