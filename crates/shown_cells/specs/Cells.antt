-- What a cell shows in a column's width.
use Rattle.std.specs.Prelude.{ℕ, ◌-◌, Bool, true, false, not, ◌&&◌, nat_le, nat_lt, if◌then◌else◌, List, [], ◌++◌, length, take, Option, Some, None, codes}
use Rattle.lics_text.specs.Ascii as ascii
use Rattle.cell_format.specs.Labels.{shown_label}
use Rattle.cell_format.specs.Numbers.{placed, shown_number, spaces}
use Rattle.formula_text.specs.Printed.{printed}
use Rattle.formula_tree.specs.declared.value.Content.{Content}
use Rattle.formula_tree.specs.declared.value.Content.TheVariants as content
use Rattle.formula_tree.specs.declared.value.Value.{Value}
use Rattle.formula_tree.specs.declared.value.Value.TheVariants as value
use Rattle.lics_text.specs.declared.prefix.LabelPrefix.{LabelPrefix}
use Rattle.lics_text.specs.declared.prefix.LabelPrefix.TheVariants.{Left, Right, Center, Repeat, Unprinted}
use Rattle.grid_address.specs.Formats.{default_format, hidden_format, is_shown_as, text_format}
use Rattle.grid_address.specs.Place.{Place}
use Rattle.range_names.specs.Names.{NameMap}
use Rattle.sheet_store.specs.State.{CellState}

-- a text cut or filled with blanks to a width
abbrev pub padded : ℕ → List ℕ → List ℕ
padded width text = take width text ++ spaces (width - length text)

-- a byte as it is shown: those outside 32 to 126 as a question mark
abbrev pub shown_byte : ℕ → ℕ
shown_byte b = if nat_le ascii.space b && nat_lt b ascii.delete then b else ascii.question_mark

-- the sheet's format stands in for the default one
abbrev pub format_in : ℕ → ℕ → ℕ
format_in global own = if is_shown_as own default_format then global else own

-- a label that goes on through its cell
abbrev pub is_repeated : LabelPrefix → Bool
is_repeated Repeat = true
is_repeated _ = false

-- a label fills its cell; one that stands at the left and is longer is told whole
abbrev pub label_text : LabelPrefix → List ℕ → ℕ → List ℕ
label_text prefix text width =
    if not (is_repeated prefix) && nat_lt width (length text) then text else shown_label prefix text width

-- A number, ERR and NA fill the cell, and so does a text that isn't longer, which stands at the left.
abbrev pub value_text : Value → ℕ → ℕ → List ℕ
value_text value.Blank format width = []
value_text (value.Num v) format width = shown_number v format width
value_text (value.Str text) format width = label_text Left text width
value_text value.Err format width = placed (Some (codes "ERR")) width
value_text value.Na format width = placed (Some (codes "NA")) width

-- the format Text shows a formula as it is printed, cut at the width
abbrev pub formula_text : List ℕ → Value → ℕ → ℕ → List ℕ
formula_text text v format width = if is_shown_as format text_format then take width text else value_text v format width

-- what a content shows in a format that isn't Hidden: nothing where it is blank
abbrev pub content_text : NameMap → Place → Content → Value → ℕ → ℕ → List ℕ
content_text names c content.Blank v format width = []
content_text names c (content.Number x) v format width = value_text v format width
content_text names c (content.Label prefix text) v format width = label_text prefix text width
content_text names c (content.Formula t) v format width = formula_text (printed names c t) v format width

-- what a content lets see of itself: nothing where its format is Hidden
abbrev pub visible_text : NameMap → Place → Content → Value → ℕ → ℕ → List ℕ
visible_text names c x v format width =
    if is_shown_as format hidden_format then [] else content_text names c x v format width

-- what a cell shows from its left edge on, which may be longer than its width; a blank cell shows nothing of its own
abbrev pub own_text : NameMap → Place → Content → Value → ℕ → ℕ → Option (List ℕ)
own_text names c content.Blank v format width = None
own_text names c (content.Number x) v format width = Some (visible_text names c (content.Number x) v format width)
own_text names c (content.Label prefix text) v format width =
    Some (visible_text names c (content.Label prefix text) v format width)
own_text names c (content.Formula t) v format width = Some (visible_text names c (content.Formula t) v format width)

-- the same of what is kept of a cell, with the sheet's names and format
abbrev pub state_text : NameMap → ℕ → Place → Option CellState → ℕ → Option (List ℕ)
state_text names global c None width = None
state_text names global c (Some x) width = own_text names c x.content x.value (format_in global x.format.0) width
