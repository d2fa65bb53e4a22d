use Rattle.std.proofs.Common.{◌≡◌, nat_le}
use Rattle.formula_tree.specs.inner.Nodes.{nodes}
use Rattle.formula_tree.specs.Shape.{lowest}
use Rattle.formula_tree.specs.View.{tree_of}
use Rattle.formula_tree.proofs.shape.is_right_edge.Given as goal

abbrev pub invariant-loop-edge : goal.invariant-loop-edge
invariant-loop-edge l = nat_le l.least (lowest (tree_of l.edge)) ≡ nat_le l.least (lowest (tree_of l.expr))

abbrev pub decreases-loop-edge : goal.decreases-loop-edge
decreases-loop-edge l = nodes (tree_of l.edge)
