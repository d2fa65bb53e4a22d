-- What is put into cells.
use Rattle.std.specs.Prelude.{ℕ, ◌-◌, List, codes, length, drop, take, Bool, Option, None, Some, if◌then◌else◌}
use Rattle.std.specs.Str.{str_eq_ignore_ascii_case}
use Rattle.formula_parts.specs.Outlook.{Outlook}
use Rattle.formula_tree.specs.declared.value.Content.{Content}
use Rattle.formula_tree.specs.declared.value.Content.TheVariants as content
use Rattle.formula_tree.specs.declared.value.Value.{Value}
use Rattle.formula_tree.specs.declared.value.Value.TheVariants as value
use Rattle.grid_address.specs.Place.{Place}
use Rattle.lics_text.specs.declared.prefix.LabelPrefix.TheVariants.{Left}
use Rattle.macro_text.specs.Arguments.{expression_value}

-- a text that a word writes is a label with '
abbrev pub label : List ℕ → Content
label text = content.Label Left text

-- a text ends so, in letters of either case
abbrev pub ends_in : List ℕ → List ℕ → Bool
ends_in ending text = str_eq_ignore_ascii_case (drop (length text - length ending) text) ending

-- without so many bytes at the end
abbrev pub without : List ℕ → List ℕ → List ℕ
without ending text = take (length text - length ending) text

-- behind it an argument is an expression
abbrev pub as_value : List ℕ
as_value = codes ":VALUE"

-- behind it an argument is a text
abbrev pub as_string : List ℕ
as_string = codes ":STRING"

-- the value of a formula, or else the bytes
abbrev pub value_or_bytes : List ℕ → Option Value → Value
value_or_bytes text None = value.Str text
value_or_bytes text (Some v) = v

-- behind :string, or where it is no formula, a text is its bytes
abbrev pub typed_value : Outlook → Place → List ℕ → Value
typed_value w at text =
    if ends_in as_string text then value.Str (without as_string text)
    else value_or_bytes text (expression_value w at text)

-- What LET puts: an ending :value is dropped first; behind it :string, or no formula, gives the bytes.
abbrev pub let_value : Outlook → Place → List ℕ → Value
let_value w at text = typed_value w at (if ends_in as_value text then without as_value text else text)
