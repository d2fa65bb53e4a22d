-- How strongly operators bind.
use Rattle.std.proofs.Common.{◌<◌, arith}
use Rattle.formula_tree.specs.Shape.{level}
use Rattle.formula_tree.specs.declared.ast.Op.{Op}
use Rattle.formula_tree.specs.declared.ast.Op.TheVariants.{Pow, Mul, Div, Add, Sub, Eq, Ne, Lt, Gt, Le, Ge, And, Or}
use Rattle.formula_tree.specs.declared.ast.Op.TheVariants.{Join}

-- a bracket binds more strongly than each operator between operands
pub level_below : (op : Op) → level op < 8
level_below Pow = omega arith
level_below Mul = omega arith
level_below Div = omega arith
level_below Add = omega arith
level_below Sub = omega arith
level_below Eq = omega arith
level_below Ne = omega arith
level_below Lt = omega arith
level_below Gt = omega arith
level_below Le = omega arith
level_below Ge = omega arith
level_below And = omega arith
level_below Or = omega arith
level_below Join = omega arith
