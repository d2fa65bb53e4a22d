use Rattle.std.proofs.Common.{◌≡◌, ◌≤◌, map}
use Rattle.std.specs.Prelude.{sum_by}
use Rattle.formula_tree.specs.View.{tree_of}
use Rattle.formula_tree.specs.inner.Nodes.{nodes}
use Rattle.formula_tree.specs.Ranges.{is_ranged}
use Rattle.formula_tree.specs.Shape.{code_size, every, is_fine}
use Rattle.formula_tree.proofs.Parts.{all_fine, all_pass, left_size}
use Rattle.formula_tree.proofs.walk.has_shape.Given as goal

abbrev pub invariant-loop-next : goal.invariant-loop-next
invariant-loop-next l =
    (all_fine (map (λ e. tree_of e.now) l.stack.items) ≡ every is_fine (tree_of l.expr))
    × (left_size l.code (map (λ e. tree_of e.now) l.stack.items) ≡ code_size (tree_of l.expr))
    × (l.code ≤ 65520)
    × (all_pass is_ranged (map (λ e. tree_of e.now) l.stack.items) ≡ every is_ranged (tree_of l.expr))

abbrev pub decreases-loop-next : goal.decreases-loop-next
decreases-loop-next l = sum_by nodes (map (λ e. tree_of e.now) l.stack.items)
