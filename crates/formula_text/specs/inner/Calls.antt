-- The text of a call, argument by argument.
use Rattle.std.specs.Prelude.{ℕ, List, [], ◌∷◌, ◌++◌, codes}
use Rattle.formula_tree.specs.declared.function.Function.{Function as AtFunction}
use Rattle.formula_tree.specs.Tree.{Tree}
use Rattle.grid_address.specs.Place.{Place}
use Rattle.range_names.specs.Names.{NameMap}
use Rattle.formula_text.specs.Functions.{name_of}
use Rattle.formula_text.specs.Printed.{text_of}

-- the texts of further arguments
abbrev pub commaed : NameMap → Place → List Tree → List ℕ
commaed names at [] = []
commaed names at (t ∷ ts) = codes "," ++ (text_of names at t ++ commaed names at ts)

-- arguments behind their opening bracket, where there are any
abbrev pub opened : NameMap → Place → List Tree → List ℕ
opened names at [] = []
opened names at (t ∷ ts) = codes "(" ++ (text_of names at t ++ commaed names at ts)

-- what stands before one more argument
abbrev pub mark_before : List Tree → List ℕ
mark_before [] = codes "("
mark_before (t ∷ ts) = codes ","

-- the closing bracket of arguments, where there are any
abbrev pub end_of : List Tree → List ℕ
end_of [] = []
end_of (t ∷ ts) = codes ")"

-- a function's call: @, its name, and its arguments in brackets
abbrev pub call_text : NameMap → Place → AtFunction → List Tree → List ℕ
call_text names at f ts = codes "@" ++ (name_of f ++ (opened names at ts ++ end_of ts))
