-- From where the parts of a formula are seen.
use Rattle.std.specs.Prelude.{List, map}
use Rattle.formula_tree.specs.View.{listed, tree_of}
use Rattle.formula_tree.specs.declared.ast.Expr.{Expr}
use Rattle.formula_tree.specs.declared.value.Value.{Value}
use Rattle.formula_parts.specs.Outlook.{Outlook}
use Rattle.formula_parts.specs.Parts.{arguments_by, value_by, Database}
use Rattle.formula_parts.specs.Scenes.{outlook_of}
use Rattle.formula_parts.specs.declared.argument.Argument.{Argument}
use Rattle.formula_parts.specs.declared.look.Look
use Rattle.formula_parts.specs.declared.standpoint.Standpoint.{Standpoint}

-- what formulas look at from there
abbrev pub outlook_from : {K : Type 0} → Look.Ghosts K → Standpoint K → Outlook
outlook_from look s = outlook_of (look.sight s.look.now) s.scene.now

-- the value of a part, which may be Blank, as it is seen from there
abbrev pub value_from : {K : Type 0} → Look.Ghosts K → Standpoint K → Database → Expr → Value
value_from look s d e = value_by d (tree_of e) s.at (outlook_from look s)

-- the arguments of a function, as they are seen from there
abbrev pub arguments_from : {K : Type 0} → Look.Ghosts K → Standpoint K → Database → List Expr → List Argument
arguments_from look s d es = arguments_by d (listed (map tree_of es)) s.at (outlook_from look s)
