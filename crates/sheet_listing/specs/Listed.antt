-- A worksheet as lines of text (this project's own).
use Rattle.std.specs.Prelude.{ℕ, Bool, true, false, Option, Some, None, List, [], ◌∷◌, ◌++◌, codes, flat_map}
use Rattle.std.specs.FinMap as map
use Rattle.lics_text.specs.Ascii as ascii
use Rattle.lics_text.specs.Prefixes.{prefix_byte}
use Rattle.grid_address.specs.Address.{address_of, column_name, decimal}
use Rattle.grid_address.specs.Formats.{has_protection}
use Rattle.grid_address.specs.Place.{Extent, Place}
use Rattle.fixed_value.specs.Written.{short}
use Rattle.cell_format.specs.Indicator.{indicator_of}
use Rattle.range_names.specs.Names.{name_in, NameMap}
use Rattle.formula_tree.specs.declared.value.Content.{Content}
use Rattle.formula_tree.specs.declared.value.Content.TheVariants as content
use Rattle.formula_tree.specs.declared.value.Value.{Value}
use Rattle.formula_tree.specs.declared.value.Value.TheVariants as value
use Rattle.formula_text.specs.Printed.{printed}
use Rattle.sheet_store.specs.Choices.{Choices}
use Rattle.sheet_store.specs.Grid.{is_hidden, width_of, Grid}
use Rattle.sheet_store.specs.State.{CellState}
use Rattle.sheet_store.specs.declared.order.Order.{Order}
use Rattle.sheet_store.specs.declared.order.Order.TheVariants.{Natural, Columnwise, Rowwise}
use Rattle.sheet_store.specs.declared.writes.SavedSheet.{SavedSheet}
use Rattle.wk1_file.specs.Saved.{columns}
use Rattle.sheet_listing.specs.Lines.{line}

-- the order of a recalculation
abbrev pub order_word : Order → List ℕ
order_word Natural = codes "Natural"
order_word Columnwise = codes "Columnwise"
order_word Rowwise = codes "Rowwise"

-- whether a sheet recalculates by itself
abbrev pub mode_word : Bool → List ℕ
mode_word true = codes "Automatic"
mode_word false = codes "Manual"

-- whether a sheet is protected
abbrev pub protection_word : Bool → List ℕ
protection_word true = codes "On"
protection_word false = codes "Off"

-- the settings, a line each: the cell that the pointer is on; the order, the mode and the passes of a recalculation;
-- the prefix of new labels; and the format and the width where a cell or a column has none of its own
abbrev pub settings_lines : Choices → List ℕ
settings_lines c =
    line (codes "pointer") (address_of c.pointer ∷ [])
    ++ (line (codes "recalculation") (order_word c.order ∷ mode_word c.automatic ∷ decimal c.passes ∷ [])
    ++ (line (codes "prefix") ((prefix_byte c.prefix ∷ []) ∷ [])
    ++ (line (codes "format") (indicator_of c.format ∷ [])
    ++ (line (codes "width") (decimal c.width ∷ [])
    ++ line (codes "protection") (protection_word c.protection ∷ [])))))

-- the word of a hidden column
abbrev pub hidden_word : Bool → List ℕ
hidden_word true = codes "Hidden"
hidden_word false = []

-- a column by its own width, where it has one, and by whether it is hidden; none where nothing is its own
abbrev pub column_line : ℕ → Option ℕ → Bool → List ℕ
column_line col None false = []
column_line col None true = line (codes "column") (column_name col ∷ [] ∷ hidden_word true ∷ [])
column_line col (Some width) hidden =
    line (codes "column") (column_name col ∷ decimal width ∷ hidden_word hidden ∷ [])

-- the columns that have a width of their own or are hidden, in their order
abbrev pub column_lines : Grid → List ℕ
column_lines g = flat_map (λ col. column_line col (width_of g col) (is_hidden g col)) columns

-- the corners of a span
abbrev pub corners : Extent → List ℕ
corners span = address_of span.first ++ (codes ".." ++ address_of span.last)

-- a name and its span
abbrev pub name_line : List ℕ × Extent → List ℕ
name_line e = line (codes "name") (name_in e.0 ∷ corners e.1 ∷ [])

-- what a cell holds, as it would be typed: a label with its prefix, a number with the decimals that it needs, and the
-- whole of a formula, with the names of the sheet
abbrev pub content_text : NameMap → Place → Content → List ℕ
content_text names p content.Blank = []
content_text names p (content.Number x) = short x 6
content_text names p (content.Label prefix text) = prefix_byte prefix ∷ text
content_text names p (content.Formula formula) = printed names p formula

-- a value; a text stands between quotes
abbrev pub value_text : Value → List ℕ
value_text value.Blank = []
value_text (value.Num x) = short x 6
value_text (value.Str text) = ascii.quote ∷ (text ++ ascii.quote ∷ [])
value_text value.Err = codes "ERR"
value_text value.Na = codes "NA"

-- the saved value of a formula; other contents have none
abbrev pub saved_text : Content → Value → List ℕ
saved_text content.Blank v = []
saved_text (content.Number x) v = []
saved_text (content.Label prefix text) v = []
saved_text (content.Formula formula) v = value_text v

-- the mark of a cell that isn't protected
abbrev pub unprotected_mark : Bool → List ℕ
unprotected_mark true = []
unprotected_mark false = codes "U"

-- a cell: its address, what it holds, a formula's value, its format, and whether it is unprotected
abbrev pub cell_line : NameMap → Place × CellState → List ℕ
cell_line names e =
    line (address_of e.0)
    (content_text names e.0 e.1.content
    ∷ saved_text e.1.content e.1.value
    ∷ indicator_of e.1.format.0
    ∷ unprotected_mark (has_protection e.1.format.0)
    ∷ [])

-- the names, in byte order
abbrev pub name_lines : NameMap → List ℕ
name_lines names = flat_map name_line (map.entries names)

-- the cells of which something is kept, in row order
abbrev pub cell_lines : NameMap → Grid → List ℕ
cell_lines names g = flat_map (cell_line names) (map.entries g.cells)

-- all lines of a sheet
abbrev pub listed : SavedSheet → List ℕ
listed s = settings_lines s.settings ++ (column_lines s.store ++ (name_lines s.names ++ cell_lines s.names s.store))
