-- The functions of records: DSUM, DAVG, DCOUNT, DMIN and DMAX.
use Rattle.std.specs.Prelude.{ℕ, ◌+◌, ◌&&◌, Bool, true, false, Option, None, Some, List, [], ◌∷◌, map, if◌then◌else◌}
use Rattle.std.specs.List.{filter}
use Rattle.grid_address.specs.Place.{width_of, Extent}
use Rattle.grid_address.specs.Lines.{at, rows_below}
use Rattle.formula_tree.specs.declared.function.Function.{Function}
use Rattle.formula_tree.specs.declared.function.Function.TheVariants as function
use Rattle.formula_tree.specs.declared.value.Value.{Value}
use Rattle.formula_tree.specs.declared.value.Value.TheVariants as value
use Rattle.value_functions.specs.Values.{number_in, on_number, stop_one, unless_stopped}
use Rattle.formula_parts.specs.declared.argument.Argument.{Argument}
use Rattle.formula_parts.specs.declared.items.Item.{Item}
use Rattle.record_match.specs.Criteria.{missing, record_matches}
use Rattle.record_match.specs.Fields.{has_fields}
use Rattle.formula_parts.specs.Lists.{items_in, list_value}
use Rattle.formula_parts.specs.Lookups.{on_place, on_range, place_in, range_of}
use Rattle.formula_parts.specs.Outlook.{Outlook, Sight}

-- the function of a list that each is
abbrev pub list_function : Function → Function
list_function function.DSum = function.Sum
list_function function.DAvg = function.Avg
list_function function.DCount = function.Count
list_function function.DMin = function.Min
list_function f = function.Max

-- no header of the criterion is missing
abbrev pub none_missing : Option ℕ → Bool
none_missing None = true
none_missing (Some col) = false

-- the input names its fields, and the criterion speaks of these alone
abbrev pub is_asked : Sight → Extent → Extent → Bool
is_asked sight input criterion = has_fields sight input && none_missing (missing sight input criterion)

-- the cells of a column in the records that match, taken as those of a range
abbrev pub record_items : Outlook → Extent → Extent → ℕ → List Item
record_items w input criterion col =
    items_in w.sight.values (map (λ row. at row col) (filter (record_matches w input criterion) (rows_below input)))

-- over a column, counted from the first
abbrev pub over_column : Function → Outlook → Extent → Extent → ℕ → Value
over_column f w input criterion k =
    if is_asked w.sight input criterion
    then list_value (list_function f) (record_items w input criterion (input.first.col + k))
    else value.Err

-- the second argument is the column's number
abbrev pub by_column : Function → Outlook → Extent → Extent → Value → Value
by_column f w input criterion n =
    unless_stopped (stop_one n) (on_number (number_in n) (λ x.
    on_place (place_in x (width_of input)) (over_column f w input criterion)))

-- of an input, a column and a criterion
abbrev pub database_value : Function → Outlook → List Argument → Value
database_value f w (a ∷ b ∷ c ∷ []) =
    on_range (range_of a.operand) (λ input. on_range (range_of c.operand) (λ criterion.
    by_column f w input criterion b.value))
database_value f w _ = value.Err
