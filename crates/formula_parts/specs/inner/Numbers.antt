-- Parts of formulas that are made of numbers alone.
use Rattle.std.specs.Prelude.{◌≡◌, ℤ, List, [], ◌∷◌}
use Rattle.grid_address.specs.Place.{Extent, Place}
use Rattle.formula_tree.specs.Tree.{Tree, Trees}
use Rattle.formula_tree.specs.declared.function.Function.{Function}
use Rattle.formula_tree.specs.declared.value.Value.TheVariants as value
use Rattle.formula_parts.specs.Outlook.{Sight}
use Rattle.formula_parts.specs.declared.argument.Argument.{Argument}
use Rattle.formula_parts.specs.declared.argument.Operand.TheVariants as operand
use Rattle.formula_parts.specs.declared.look.Scene.{Scene}
use Rattle.formula_parts.specs.Parts.{arguments_by, call_value, value_by, Database}
use Rattle.formula_parts.specs.Scenes.{outlook_of}

-- a part has that number in every scene and whatever functions of records answer
abbrev pub IsNumber : Tree → Place → Sight → ℤ → Type 0
IsNumber t at sight n = (d : Database) (s : Scene) → value_by d t at (outlook_of sight s) ≡ value.Num n

-- so has a function of those arguments
abbrev pub IsCallNumber : Function → Trees → Place → Sight → ℤ → Type 0
IsCallNumber f ts at sight n =
    (d : Database) (s : Scene) →
    call_value d f (outlook_of sight s) (arguments_by d ts at (outlook_of sight s)) ≡ value.Num n

-- a range as the only argument of a function
abbrev pub ranged : Extent → List Argument
ranged s = record { value = value.Err; operand = operand.Span s } ∷ []
