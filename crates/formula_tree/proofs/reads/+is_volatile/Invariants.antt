use Rattle.std.proofs.Common.{◌≡◌, false, take}
use Rattle.std.specs.List.{list_any}
use Rattle.formula_tree.specs.Spans.{is_volatile}
use Rattle.formula_tree.specs.View.{tree_of}
use Rattle.formula_tree.proofs.reads.+is_volatile.Given as goal

abbrev pub invariant-any_volatile-loop-arg : goal.invariant-any_volatile-loop-arg
invariant-any_volatile-loop-arg l = list_any (λ e. is_volatile (tree_of e)) (take l.arg-index l.args) ≡ false
