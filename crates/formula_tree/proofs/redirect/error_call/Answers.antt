use Rattle.std.proofs.Common.{ap}
use Rattle.formula_tree.specs.Ranges.{is_ranged}
use Rattle.formula_tree.specs.Shape.{every}
use Rattle.formula_tree.specs.declared.function.Function.TheVariants as function
use Rattle.formula_tree.proofs.Redirected.{no_arguments}
use Rattle.formula_tree.proofs.redirect.error_call.Goals as goal

pub returns-clause-tree : goal.returns-clause-tree
returns-clause-tree c = no_arguments _ c.new.result c.new.ensures

pub returns-clause-ranged : goal.returns-clause-ranged
returns-clause-ranged c = ap (every is_ranged) (no_arguments function.Err c.new.result c.new.ensures)
