-- Functions of lists.
use Rattle.std.specs.Prelude.{◌+ℤ◌, ℕ, ℤ, pos, Bool, true, false, Option, Some, None, List, [], ◌∷◌, ◌++◌, fold, length, if◌then◌else◌}
use Rattle.std.specs.List.{list_any}
use Rattle.std.specs.Int.RustNames.{int_lt}
use Rattle.fixed_value.specs.Numbers.{within}
use Rattle.grid_address.specs.Place.{Place}
use Rattle.formula_tree.specs.declared.ast.Op.TheVariants.{Div}
use Rattle.formula_tree.specs.declared.function.Function.{Function}
use Rattle.formula_tree.specs.declared.function.Function.TheVariants as function
use Rattle.formula_tree.specs.declared.value.Value.{Value}
use Rattle.formula_tree.specs.declared.value.Value.TheVariants as value
use Rattle.formula_parts.specs.declared.argument.Operand.{Operand}
use Rattle.formula_parts.specs.declared.argument.Operand.TheVariants as operand
use Rattle.formula_parts.specs.declared.argument.Argument.{Argument}
use Rattle.formula_parts.specs.declared.items.Item.{Item}
use Rattle.formula_parts.specs.declared.items.Item.TheVariants as item
use Rattle.value_functions.specs.Operators.{binary_value}
use Rattle.value_functions.specs.Values.{answer, counted, stop, unless_stopped}
use Rattle.formula_parts.specs.Outlook.{filled}

-- a cell of a range: a blank one is passed over, and a label counts as 0
abbrev pub in_range : Value → List Item
in_range value.Blank = []
in_range (value.Num x) = item.Is x ∷ []
in_range (value.Str t) = item.Is (pos 0) ∷ []
in_range value.Err = item.Err ∷ []
in_range value.Na = item.Na ∷ []

-- a cell that is given alone: a blank one and a label count as 0
abbrev pub alone : Value → Item
alone value.Blank = item.Is (pos 0)
alone (value.Num x) = item.Is x
alone (value.Str t) = item.Is (pos 0)
alone value.Err = item.Err
alone value.Na = item.Na

-- any other value: a text is ERR
abbrev pub scalar : Value → Item
scalar value.Blank = item.Is (pos 0)
scalar (value.Num x) = item.Is x
scalar (value.Str t) = item.Err
scalar value.Err = item.Err
scalar value.Na = item.Na

-- the items of cells, one behind another
abbrev pub items_in : (Place → Value) → List Place → List Item
items_in values [] = []
items_in values (p ∷ ps) = in_range (values p) ++ items_in values ps

-- the items of an argument
abbrev pub items_by : (Place → Value) → Operand → Value → List Item
items_by values operand.Other v = scalar v ∷ []
items_by values (operand.Cell p) v = alone (values p) ∷ []
items_by values (operand.Span s) v = items_in values (filled values s)

-- the items of the arguments, one behind another
abbrev pub items_of : (Place → Value) → List Argument → List Item
items_of values [] = []
items_of values (a ∷ more) = items_by values a.operand a.value ++ items_of values more

-- an item that can't be had
abbrev pub is_err : Item → Bool
is_err item.Err = true
is_err _ = false

-- an item that isn't available
abbrev pub is_na : Item → Bool
is_na item.Na = true
is_na _ = false

-- an item in a sum and beside others; ERR and NA stop the function before
abbrev pub size_of : Item → ℤ
size_of (item.Is x) = x
size_of item.Err = pos 0
size_of item.Na = pos 0

-- exact, and rounded never
abbrev pub sum : List Item → ℤ
sum items = fold (λ total i. total +ℤ size_of i) (pos 0) items

-- the least so far, with an item more
abbrev pub smaller : Option ℤ → Item → Option ℤ
smaller None i = Some (size_of i)
smaller (Some x) i = if int_lt (size_of i) x then Some (size_of i) else Some x

-- the greatest so far, with an item more
abbrev pub larger : Option ℤ → Item → Option ℤ
larger None i = Some (size_of i)
larger (Some x) i = if int_lt x (size_of i) then Some (size_of i) else Some x

-- SUM, AVG, COUNT, MIN and MAX, by how many items there are, their sum, the least and the greatest; AVG is SUM divided
-- by COUNT
abbrev pub told_by : Function → ℕ → ℤ → Option ℤ → Option ℤ → Value
told_by function.Sum count sum least greatest = answer (within sum)
told_by function.Avg count sum least greatest = binary_value Div (answer (within sum)) (counted count)
told_by function.Count count sum least greatest = counted count
told_by function.Min count sum least greatest = answer least
told_by f count sum least greatest = answer greatest

-- these of a list
abbrev pub list_row : Function → List Item → Value
list_row f items = told_by f (length items) (sum items) (fold smaller None items) (fold larger None items)

-- a function of a list; ERR and NA among its items pass through it
abbrev pub list_value : Function → List Item → Value
list_value f items = unless_stopped (stop (list_any is_err items) (list_any is_na items)) (list_row f items)
