use Rattle.std.proofs.Common.{◌≡◌, true, take, nat_le}
use Rattle.std.specs.List.{list_all}
use Rattle.formula_tree.specs.View.{tree_of}
use Rattle.formula_tree.specs.Shape.{depth}
use Rattle.formula_tree.proofs.depth.+depth_within.Given as goal

abbrev pub invariant-are_within-loop-arg : goal.invariant-are_within-loop-arg
invariant-are_within-loop-arg l = list_all (λ e. nat_le (depth (tree_of e)) l.limit) (take l.arg-index l.args) ≡ true
