use Rattle.std.proofs.Common.{◌≡◌, ◌+◌, ◌*◌, ◌++◌, codes, map, take}
use Rattle.formula_tree.specs.inner.Nodes.{all_nodes, nodes}
use Rattle.formula_tree.specs.View.{listed, tree_of}
use Rattle.formula_text.specs.Functions.{name_of}
use Rattle.formula_text.specs.inner.Calls.{mark_before, opened}
use Rattle.formula_text.specs.inner.Puts.{Puts}
use Rattle.formula_text.proofs.printing.+print.Given as goal

abbrev pub decreases-put_tree : goal.decreases-put_tree
decreases-put_tree g l = 2 * nodes (tree_of l.expr.now)

abbrev pub decreases-put_call : goal.decreases-put_call
decreases-put_call g l = 2 * all_nodes (listed (map tree_of l.arguments.now)) + 1

abbrev pub invariant-put_call-loop-argument : goal.invariant-put_call-loop-argument
invariant-put_call-loop-argument g l =
    Puts g.S.Sink.has_put l.fn.out
    (codes "@" ++ (name_of l.fn.function ++ opened l.names l.at (map tree_of (take l.argument-index l.arguments))))
    l.out × (l.mark ≡ mark_before (map tree_of (take l.argument-index l.arguments)))
