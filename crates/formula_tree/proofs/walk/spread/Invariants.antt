use Rattle.std.proofs.Common.{◌≡◌, ◌++◌, map, take}
use Rattle.formula_tree.specs.View.{tree_of}
use Rattle.formula_tree.proofs.walk.spread.Given as goal

abbrev pub invariant-loop-arg : goal.invariant-loop-arg
invariant-loop-arg l =
    map (λ e. tree_of e.now) l.stack.items
    ≡ map (λ e. tree_of e.now) l.fn.stack.items ++ map tree_of (take l.arg-index l.arg-items)
