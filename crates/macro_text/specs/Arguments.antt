-- What an argument tells that is an expression.
use Rattle.std.specs.Prelude.{ℕ, ℤ, List, Option, Some, None, Result, Ok, Err}
use Rattle.formula_eval.specs.Mean.{mean}
use Rattle.formula_parts.specs.Outlook.{Outlook}
use Rattle.formula_text.specs.declared.fault.ParseFault.{ParseFault}
use Rattle.formula_text.specs.Reading.{reading}
use Rattle.formula_tree.specs.Tree.{Tree}
use Rattle.formula_tree.specs.declared.value.Value.{Value}
use Rattle.formula_tree.specs.declared.value.Value.TheVariants as value
use Rattle.grid_address.specs.Place.{Place}

-- the tree that was read, if any
abbrev pub tree_in : Result Tree ParseFault → Option Tree
tree_in (Ok t) = Some t
tree_in (Err f) = None

-- the formula that a text spells where it stands in a cell; none where it spells none
abbrev pub formula_in : Outlook → Place → List ℕ → Option Tree
formula_in w at text = tree_in (reading w.sight.names at text)

-- the value of a formula that stands in a cell, if there is one
abbrev pub meaning_of : Outlook → Place → Option Tree → Option Value
meaning_of w at None = None
meaning_of w at (Some t) = Some (mean t at w)

-- the value of an expression that stands in a cell; none where it is no formula
abbrev pub expression_value : Outlook → Place → List ℕ → Option Value
expression_value w at text = meaning_of w at (formula_in w at text)

-- the number that a value is, if it is one
abbrev pub number_or_none : Option Value → Option ℤ
number_or_none None = None
number_or_none (Some value.Blank) = None
number_or_none (Some (value.Num n)) = Some n
number_or_none (Some (value.Str t)) = None
number_or_none (Some value.Err) = None
number_or_none (Some value.Na) = None

-- the number that an expression has as its value
abbrev pub number_of : Outlook → Place → List ℕ → Option ℤ
number_of w at text = number_or_none (expression_value w at text)
