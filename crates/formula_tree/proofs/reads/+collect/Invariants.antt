use Rattle.std.proofs.Common.{◌≡◌, ◌++◌, take}
use Rattle.std.specs.Prelude.{flat_map}
use Rattle.formula_tree.specs.View.{tree_of}
use Rattle.formula_tree.specs.Spans.{spans_of}
use Rattle.formula_tree.proofs.reads.+collect.Given as goal

abbrev pub invariant-collect_all-loop-arg : goal.invariant-collect_all-loop-arg
invariant-collect_all-loop-arg l =
    l.into.items ≡ l.fn.into.items ++ flat_map (λ e. spans_of (tree_of e) l.at) (take l.arg-index l.args)
