use Rattle.std.proofs.Common.{◌≡◌, ◌+◌, ◌*◌, map, take}
use Rattle.formula_tree.specs.inner.Nodes.{all_nodes, nodes}
use Rattle.formula_tree.specs.View.{listed, tree_of}
use Rattle.formula_parts.specs.Parts.{arguments_by}
use Rattle.formula_parts.specs.Standpoints.{outlook_from}
use Rattle.formula_parts.proofs.meaning.+value.Given as goal

abbrev pub decreases-value_of : goal.decreases-value_of
decreases-value_of g l = 5 * nodes (tree_of l.expr.now)

abbrev pub decreases-composed : goal.decreases-composed
decreases-composed g l = 5 * nodes (tree_of l.expr.now) + 1

abbrev pub decreases-call_value : goal.decreases-call_value
decreases-call_value g l = 5 * all_nodes (listed (map tree_of l.exprs.now)) + 4

abbrev pub decreases-listed_value : goal.decreases-listed_value
decreases-listed_value g l = 5 * all_nodes (listed (map tree_of l.exprs.now)) + 3

abbrev pub decreases-arguments_of : goal.decreases-arguments_of
decreases-arguments_of g l = 5 * all_nodes (listed (map tree_of l.exprs.now)) + 2

abbrev pub decreases-chosen : goal.decreases-chosen
decreases-chosen g l = 5 * all_nodes (listed (map tree_of l.exprs.now)) + 2

abbrev pub decreases-binary_value : goal.decreases-binary_value
decreases-binary_value g l = 5 * (nodes (tree_of l.left.now) + nodes (tree_of l.right.now)) + 1

abbrev pub invariant-arguments_of-loop-expr : goal.invariant-arguments_of-loop-expr
invariant-arguments_of-loop-expr g l =
    l.arguments.items
    ≡ arguments_by g.D.Databases.answers (listed (map tree_of (take l.expr-index l.exprs))) l.from.at
    (outlook_from g.K.Look l.from)
