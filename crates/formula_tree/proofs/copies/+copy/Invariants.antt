use Rattle.std.proofs.Common.{◌≡◌, take, map}
use Rattle.formula_tree.specs.View.{tree_of}
use Rattle.formula_tree.proofs.copies.+copy.Given as goal

abbrev pub invariant-copy_all-loop-arg : goal.invariant-copy_all-loop-arg
invariant-copy_all-loop-arg l = map tree_of l.copies.items ≡ map tree_of (take l.arg-index l.args)
