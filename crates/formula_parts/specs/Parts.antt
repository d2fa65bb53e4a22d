-- What the parts of a formula are worth, by what the functions of records answer.
use Rattle.std.specs.Prelude.{pos, List, [], ◌∷◌}
use Rattle.grid_address.specs.Leads.{resolve}
use Rattle.grid_address.specs.Place.{spanned, Place}
use Rattle.formula_tree.specs.Tree.{Tree, num, str, cell, span, group, neg, not, binary, call, Trees, no_trees, trees}
use Rattle.formula_tree.specs.declared.function.Function.{Function}
use Rattle.formula_tree.specs.declared.function.Function.TheVariants as function
use Rattle.formula_tree.specs.declared.value.Value.{Value}
use Rattle.formula_tree.specs.declared.value.Value.TheVariants as value
use Rattle.formula_parts.specs.declared.argument.Argument.{Argument}
use Rattle.formula_parts.specs.declared.argument.Operand.{Operand}
use Rattle.formula_parts.specs.declared.argument.Operand.TheVariants as operand
use Rattle.formula_parts.specs.Calls.{called, chosen}
use Rattle.formula_parts.specs.Lists.{items_of, list_value}
use Rattle.value_functions.specs.Operators.{binary_value, denied, negated}
use Rattle.formula_parts.specs.Outlook.{Outlook}

-- what the functions of records answer, by their arguments
abbrev pub Database : Type 0
Database = Function → Outlook → List Argument → Value

-- within a criterion they are ERR
abbrev pub refused : Database
refused f w args = value.Err

-- one of the arguments alone is wanted beside the first, a list of all cells, records, or the arguments
abbrev pub call_value : Database → Function → Outlook → List Argument → Value
call_value d function.Choose w args = chosen function.Choose args
call_value d function.If w args = chosen function.If args
call_value d function.Sum w args = list_value function.Sum (items_of w.sight.values args)
call_value d function.Avg w args = list_value function.Avg (items_of w.sight.values args)
call_value d function.Count w args = list_value function.Count (items_of w.sight.values args)
call_value d function.Min w args = list_value function.Min (items_of w.sight.values args)
call_value d function.Max w args = list_value function.Max (items_of w.sight.values args)
call_value d function.DSum w args = d function.DSum w args
call_value d function.DAvg w args = d function.DAvg w args
call_value d function.DCount w args = d function.DCount w args
call_value d function.DMin w args = d function.DMin w args
call_value d function.DMax w args = d function.DMax w args
call_value d f w args = called f w args

-- what an argument is as a range
abbrev pub operand_of : Tree → Place → Operand
operand_of (cell r) at = operand.Cell (resolve r at)
operand_of (span a b) at = operand.Span (spanned (resolve a at) (resolve b at))
operand_of _ at = operand.Other

-- the value of a part, which may be Blank, by what the functions of records answer
abbrev mutual
  pub value_by : Database → Tree → Place → Outlook → Value
  value_by d (num v) at w = value.Num v
  value_by d (str t) at w = value.Str t
  value_by d (cell r) at w = w.sight.values (resolve r at)
  value_by d (span a b) at w = value.Err
  value_by d (group a) at w = value_by d a at w
  value_by d (neg a) at w = negated (value_by d a at w)
  value_by d (not a) at w = denied (value_by d a at w)
  value_by d (binary op a b) at w = binary_value op (value_by d a at w) (value_by d b at w)
  value_by d (call f ts) at w = call_value d f w (arguments_by d ts at w)

  pub arguments_by : Database → Trees → Place → Outlook → List Argument
  arguments_by d no_trees at w = []
  arguments_by d (trees a ts) at w =
      record { value = value_by d a at w; operand = operand_of a at } ∷ arguments_by d ts at w

-- at the top Blank is 0
abbrev pub filled_in : Value → Value
filled_in value.Blank = value.Num (pos 0)
filled_in (value.Num x) = value.Num x
filled_in (value.Str t) = value.Str t
filled_in value.Err = value.Err
filled_in value.Na = value.Na

-- what a formula means within a criterion, where its functions of records are ERR
unfoldable pub mean_within : Tree → Place → Outlook → Value
mean_within t at w = filled_in (value_by refused t at w)
