-- Functions of arguments.
use Rattle.std.specs.Prelude.{ℕ, zero, suc, ◌+◌, nat_lt, ℤ, true, false, Option, Some, None, Result, Ok, Err, List, [], ◌∷◌, length, if◌then◌else◌}
use Rattle.at_functions.specs.Numbers.{count_of}
use Rattle.formula_tree.specs.declared.function.Function.{Function}
use Rattle.formula_tree.specs.declared.function.Function.TheVariants as function
use Rattle.formula_tree.specs.declared.value.Value.{Value}
use Rattle.formula_tree.specs.declared.value.Value.TheVariants as value
use Rattle.formula_parts.specs.declared.argument.Argument.{Argument}
use Rattle.formula_parts.specs.Attributes.{cell_value, told_value}
use Rattle.formula_parts.specs.Lookups.{extent_value, index_value, lookup_value, on_range, pointed_value, range_of}
use Rattle.value_functions.specs.Operators.{is_zero}
use Rattle.value_functions.specs.Scalars.{changed, char_value, constant_value, cut_value, exact_value, find_value, mid_value, of_number, of_numbers, of_parts, of_text, replace_value, string_value, test_value}
use Rattle.value_functions.specs.Values.{number_in, stop_one}
use Rattle.formula_parts.specs.Outlook.{Outlook}

-- functions of one argument
abbrev pub one_value : Function → Outlook → Argument → Value
one_value function.Abs w a = of_number function.Abs a.value
one_value function.Int w a = of_number function.Int a.value
one_value function.Day w a = of_number function.Day a.value
one_value function.Month w a = of_number function.Month a.value
one_value function.Year w a = of_number function.Year a.value
one_value function.Hour w a = of_number function.Hour a.value
one_value function.Minute w a = of_number function.Minute a.value
one_value function.Second w a = of_number function.Second a.value
one_value function.Length w a = of_text function.Length a.value
one_value function.Value w a = of_text function.Value a.value
one_value function.Code w a = of_text function.Code a.value
one_value function.DateValue w a = of_text function.DateValue a.value
one_value function.TimeValue w a = of_text function.TimeValue a.value
one_value function.Upper w a = changed function.Upper a.value
one_value function.Lower w a = changed function.Lower a.value
one_value function.Proper w a = changed function.Proper a.value
one_value function.Trim w a = changed function.Trim a.value
one_value function.Clean w a = changed function.Clean a.value
one_value function.Char w a = char_value a.value
one_value function.CellPointer w a = told_value w.sight w.cursor a.value
one_value function.Pointed w a = pointed_value w.sight.values w.sight.names a.value
one_value function.Cols w a = on_range (range_of a.operand) (extent_value function.Cols)
one_value function.Rows w a = on_range (range_of a.operand) (extent_value function.Rows)
one_value f w a = test_value f a.value

-- functions of two arguments
abbrev pub two_value : Function → Outlook → Argument → Argument → Value
two_value function.Repeat w a b = cut_value function.Repeat a.value b.value
two_value function.Left w a b = cut_value function.Left a.value b.value
two_value function.Right w a b = cut_value function.Right a.value b.value
two_value function.String w a b = string_value a.value b.value
two_value function.Exact w a b = exact_value a.value b.value
two_value function.Cell w a b = cell_value w.sight a.value b.operand
two_value f w a b = of_numbers f a.value b.value

-- functions of three arguments
abbrev pub three_value : Function → Outlook → Argument → Argument → Argument → Value
three_value function.Mid w a b c = mid_value a.value b.value c.value
three_value function.Find w a b c = find_value a.value b.value c.value
three_value function.VLookup w a b c = lookup_value w.sight.values false a.value b.operand c.value
three_value function.HLookup w a b c = lookup_value w.sight.values true a.value b.operand c.value
three_value function.Index w a b c = index_value w.sight.values a.operand b.value c.value
three_value f w a b c = of_parts f a.value b.value c.value

-- functions by the number of their arguments
abbrev pub called : Function → Outlook → List Argument → Value
called f w [] = constant_value f w.day w.second
called f w (a ∷ []) = one_value f w a
called f w (a ∷ b ∷ []) = two_value f w a b
called f w (a ∷ b ∷ c ∷ []) = three_value f w a b c
called f w (a ∷ b ∷ c ∷ d ∷ []) = replace_value a.value b.value c.value d.value
called f w (a ∷ b ∷ c ∷ d ∷ e ∷ more) = value.Err

-- the place of the argument that IF or CHOOSE takes: IF the second or the third, CHOOSE the n-th behind the first
abbrev pub behind_first : ℕ → Option ℕ → Option ℕ
behind_first count None = None
behind_first count (Some n) = if nat_lt (n + 1) count then Some (n + 1) else None

-- the place of the argument that a number takes, where there are so many
abbrev pub place_for : Function → ℕ → ℤ → Option ℕ
place_for function.If count x = if is_zero x then Some 2 else Some 1
place_for f count x = behind_first count (count_of x)

-- ERR where no argument has that place
abbrev pub place_or_err : Option ℕ → Result ℕ Value
place_or_err (Some k) = Ok k
place_or_err None = Err value.Err

-- by what stops the function and by the number of its first argument
abbrev pub choice_by : Option Value → Option ℤ → Function → ℕ → Result ℕ Value
choice_by (Some stopped) x f count = Err stopped
choice_by None None f count = Err value.Err
choice_by None (Some x) f count = place_or_err (place_for f count x)

-- by the first argument, where there are so many: the place of the argument that decides, or the value
abbrev pub choice : Function → ℕ → Value → Result ℕ Value
choice f count v = choice_by (stop_one v) (number_in v) f count

-- the value of an argument, counted from 0
abbrev pub nth_value : List Argument → ℕ → Value
nth_value [] k = value.Err
nth_value (a ∷ more) zero = a.value
nth_value (a ∷ more) (suc k) = nth_value more k

-- the argument of that place, or the value in its stead
abbrev pub chosen_one : Result ℕ Value → List Argument → Value
chosen_one (Ok k) args = nth_value args k
chosen_one (Err v) args = v

-- IF and CHOOSE
abbrev pub chosen : Function → List Argument → Value
chosen f [] = value.Err
chosen f (a ∷ more) = chosen_one (choice f (suc (length more)) a.value) (a ∷ more)
