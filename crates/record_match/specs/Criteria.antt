-- When a record matches a criterion.
use Rattle.std.specs.Prelude.{ℕ, ◌+◌, ◌-◌, ◌&&◌, nat_eq, Bool, true, false, Option, None, Some, List, map, if◌then◌else◌}
use Rattle.std.specs.List.{find, list_all, list_any}
use Rattle.grid_address.specs.Place.{Extent, Place}
use Rattle.grid_address.specs.Lines.{at, columns_of, rows_below, rows_down}
use Rattle.formula_tree.specs.declared.value.Content.{Content}
use Rattle.formula_tree.specs.declared.value.Content.TheVariants as content
use Rattle.formula_tree.specs.declared.value.Value.{Value}
use Rattle.formula_tree.specs.declared.value.Value.TheVariants as value
use Rattle.value_functions.specs.Numbers.{equals_number, is_true}
use Rattle.value_functions.specs.Patterns.{fits}
use Rattle.record_match.specs.Fields.{field_named, has_fields, is_no_field}
use Rattle.formula_parts.specs.Outlook.{Outlook, Sight}
use Rattle.formula_parts.specs.Parts.{mean_within}
use Rattle.record_match.specs.declared.record_match.Match.{Match}
use Rattle.record_match.specs.declared.record_match.Match.TheVariants as match

-- A condition holds of a field's value; a formula is taken as if it were copied down to the record, and its functions
-- of records are ERR.
abbrev pub content_holds : Outlook → Content → Place → Value → Bool
content_holds w content.Blank place v = true
content_holds w (content.Number x) place v = equals_number x v
content_holds w (content.Label p t) place v = fits t v
content_holds w (content.Formula f) place v = is_true (mean_within f place w)

-- where a cell of the criterion holds nothing, no condition is made
abbrev pub condition_holds : Outlook → Option Content → Place → Value → Bool
condition_holds w None place v = true
condition_holds w (Some c) place v = content_holds w c place v

-- the value of a record's field; a header that names none has a blank one
abbrev pub value_of_field : Sight → Option ℕ → ℕ → Value
value_of_field sight None row = value.Blank
value_of_field sight (Some col) row = sight.values (at row col)

-- the condition in a cell of the criterion, for the record in a row of the input
abbrev pub holds_at : Outlook → Extent → Extent → ℕ → Place → Bool
holds_at w input criterion row p =
    condition_holds w (w.sight.contents p) (rows_down (row - (input.first.row + 1)) p)
    (value_of_field w.sight (field_named w.sight input (at criterion.first.row p.col)) row)

-- all conditions of one criterion row
abbrev pub row_holds : Outlook → Extent → Extent → ℕ → ℕ → Bool
row_holds w input criterion row r = list_all (λ col. holds_at w input criterion row (at r col)) (columns_of criterion)

-- some criterion row
abbrev pub record_matches : Outlook → Extent → Extent → ℕ → Bool
record_matches w input criterion row = list_any (row_holds w input criterion row) (rows_below criterion)

-- a condition that speaks of its field: a number or a label
abbrev pub asks_field : Option Content → Bool
asks_field (Some (content.Number x)) = true
asks_field (Some (content.Label p t)) = true
asks_field _ = false

-- the first header that names no field, above a condition that speaks of it
abbrev pub is_missing : Sight → Extent → Extent → ℕ → Bool
is_missing sight input criterion col =
    is_no_field sight input (at criterion.first.row col)
    && list_any (λ row. asks_field (sight.contents (at row col))) (rows_below criterion)

-- the first such header
abbrev pub missing : Sight → Extent → Extent → Option ℕ
missing sight input criterion = find (is_missing sight input criterion) (columns_of criterion)

-- the first row is no record
abbrev pub match_of : Outlook → Extent → Extent → ℕ → Option ℕ → Match
match_of w input criterion row (Some col) = match.FieldAbsent (at criterion.first.row col)
match_of w input criterion row None =
    if nat_eq row input.first.row then match.No
    else (if record_matches w input criterion row then match.Yes else match.No)

-- where the input names its fields and no header is missing, a record matches or it does not
abbrev pub matching : Outlook → Extent → Extent → ℕ → Match
matching w input criterion row =
    if has_fields w.sight input then match_of w input criterion row (missing w.sight input criterion)
    else match.NoFieldRow

-- the field that each header of a criterion names
abbrev pub fields_of : Sight → Extent → Extent → List (Option ℕ)
fields_of sight input criterion =
    map (λ col. field_named sight input (at criterion.first.row col)) (columns_of criterion)
