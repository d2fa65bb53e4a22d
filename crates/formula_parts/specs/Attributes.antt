-- What CELL and CELLPOINTER tell of a cell.
use Rattle.std.specs.Prelude.{ℕ, ◌+◌, ◌-◌, Option, Some, None, List, [], ◌∷◌, ◌++◌, length, take, codes, if◌then◌else◌}
use Rattle.std.specs.Str.{str_eq_ignore_ascii_case}
use Rattle.cell_format.specs.Indicator.{indicator_of}
use Rattle.grid_address.specs.Address.{column_name, decimal}
use Rattle.grid_address.specs.Formats.{has_protection}
use Rattle.grid_address.specs.Place.{Place}
use Rattle.lics_text.specs.Prefixes.{prefix_byte}
use Rattle.formula_tree.specs.declared.value.Content.{Content}
use Rattle.formula_tree.specs.declared.value.Content.TheVariants as content
use Rattle.formula_tree.specs.declared.value.Value.{Value}
use Rattle.formula_tree.specs.declared.value.Value.TheVariants as value
use Rattle.formula_parts.specs.declared.argument.Operand.{Operand}
use Rattle.formula_parts.specs.declared.attributes.Attribute.{Attribute}
use Rattle.formula_parts.specs.declared.attributes.Attribute.TheVariants.{Address, Col, Row, Contents, Format, Prefix, Protect, CellType, Width}
use Rattle.formula_parts.specs.Lookups.{on_range, range_of}
use Rattle.value_functions.specs.Values.{counted, on_text, stop_one, text_in, texted, truth, unless_stopped}
use Rattle.formula_parts.specs.Outlook.{Sight}

-- letters of either case are the same
unfoldable pub attribute_named : List ℕ → Option Attribute
attribute_named t =
    if str_eq_ignore_ascii_case t (codes "ADDRESS") then Some Address
    else if str_eq_ignore_ascii_case t (codes "COL") then Some Col
    else if str_eq_ignore_ascii_case t (codes "ROW") then Some Row
    else if str_eq_ignore_ascii_case t (codes "CONTENTS") then Some Contents
    else if str_eq_ignore_ascii_case t (codes "FORMAT") then Some Format
    else if str_eq_ignore_ascii_case t (codes "PREFIX") then Some Prefix
    else if str_eq_ignore_ascii_case t (codes "PROTECT") then Some Protect
    else if str_eq_ignore_ascii_case t (codes "TYPE") then Some CellType
    else if str_eq_ignore_ascii_case t (codes "WIDTH") then Some Width
    else None

-- the first and the last byte are left out
abbrev pub without_brackets : List ℕ → List ℕ
without_brackets [] = []
without_brackets (b ∷ bs) = take (length bs - 1) bs

-- the prefix of a label; anything else has none
abbrev pub prefix_in : Content → List ℕ
prefix_in (content.Label prefix t) = prefix_byte prefix ∷ []
prefix_in _ = []

-- the prefix of what may be in a cell
abbrev pub prefix_of : Option Content → List ℕ
prefix_of None = []
prefix_of (Some c) = prefix_in c

-- blank, label or value
abbrev pub type_in : Content → List ℕ
type_in content.Blank = codes "b"
type_in (content.Label prefix t) = codes "l"
type_in _ = codes "v"

-- the type of what may be in a cell
abbrev pub type_of : Option Content → List ℕ
type_of None = codes "b"
type_of (Some c) = type_in c

-- what is told of a cell, one row for each attribute
abbrev pub attribute_value : Sight → Place → Attribute → Value
attribute_value sight p Address = texted (codes "$" ++ (column_name p.col ++ (codes "$" ++ decimal (p.row + 1))))
attribute_value sight p Col = counted (p.col + 1)
attribute_value sight p Row = counted (p.row + 1)
attribute_value sight p Contents = sight.values p
attribute_value sight p Format = texted (without_brackets (indicator_of (sight.formats p)))
attribute_value sight p Prefix = texted (prefix_of (sight.contents p))
attribute_value sight p Protect = truth (has_protection (sight.formats p))
attribute_value sight p CellType = texted (type_of (sight.contents p))
attribute_value sight p Width = counted (sight.widths p.col)

-- an attribute is wanted
abbrev pub on_attribute : Sight → Place → Option Attribute → Value
on_attribute sight p None = value.Err
on_attribute sight p (Some a) = attribute_value sight p a

-- CELLPOINTER, of the cell of the pointer: what a text asks of a cell
abbrev pub told_value : Sight → Place → Value → Value
told_value sight p a = unless_stopped (stop_one a) (on_text (text_in a) (λ t. on_attribute sight p (attribute_named t)))

-- CELL, of the first cell of a range
abbrev pub cell_value : Sight → Value → Operand → Value
cell_value sight a place = on_range (range_of place) (λ s. told_value sight s.first a)
