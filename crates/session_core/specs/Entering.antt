-- What a finished line means.
use Rattle.std.specs.Prelude.{ℕ, List, [], ◌∷◌, length, Result, Ok, Err, if◌then◌else◌}
use Rattle.fixed_value.specs.Decimals.{decimal_of}
use Rattle.fixed_value.specs.declared.decimal.Decimal.{Decimal}
use Rattle.fixed_value.specs.declared.decimal.Decimal.TheVariants as decimal
use Rattle.formula_text.specs.Reading.{reading}
use Rattle.formula_text.specs.declared.fault.ParseFault.{ParseFault}
use Rattle.formula_text.specs.declared.fault.ParseFault.TheVariants as parse
use Rattle.formula_tree.specs.Tree.{Tree}
use Rattle.formula_tree.specs.declared.value.Content.TheVariants as content
use Rattle.grid_address.specs.Place.{Place}
use Rattle.session_rooms.specs.Bytes.{begins_value}
use Rattle.session_core.specs.declared.entering.Meant.{Meant}
use Rattle.session_core.specs.declared.entering.Meant.TheVariants.{Means, Faulty}
use Rattle.work_sheet.specs.Lines.{label_content}
use Rattle.work_sheet.specs.Seen.{Sheet}

-- the place of a fault; the end where the text ends too early or is too long
abbrev pub fault_place : ParseFault → List ℕ → ℕ
fault_place (parse.Unexpected at) line = at
fault_place (parse.UnknownFunction at) line = at
fault_place (parse.FunctionOutside at) line = at
fault_place (parse.ArgCount at) line = at
fault_place (parse.BadNumber at) line = at
fault_place (parse.UnknownName at) line = at
fault_place _ line = length line

-- a formula, or the place of the fault
abbrev pub formula_meant : Result Tree ParseFault → List ℕ → Meant
formula_meant (Ok t) line = Means (content.Formula t)
formula_meant (Err f) line = Faulty (fault_place f line)

-- a decimal is a number, one that is too large is a fault, and any other value is read as a formula
abbrev pub value_meant : Decimal → Result Tree ParseFault → List ℕ → Meant
value_meant (decimal.Num v) read line = Means (content.Number v)
value_meant decimal.TooLarge read line = Faulty 0
value_meant decimal.NotNumber read line = formula_meant read line

-- what a line means as a value in a cell of a sheet
abbrev pub value_in : List ℕ → Sheet → Place → Meant
value_in line s c = value_meant (decimal_of line) (reading s.names c line) line

-- what a line means in a cell of a sheet: a value or a label by its first byte
abbrev pub meaning_of : List ℕ → Sheet → Place → Meant
meaning_of [] s c = Means (label_content s.settings.prefix [])
meaning_of (b ∷ bs) s c =
    if begins_value b
    then value_in (b ∷ bs) s c
    else Means (label_content s.settings.prefix (b ∷ bs))
