use Rattle.std.proofs.Common.{◌≡◌, take, map}
use Rattle.formula_tree.specs.Redirected.{redirected}
use Rattle.formula_tree.specs.View.{tree_of}
use Rattle.formula_tree.proofs.redirect.+keeps_references.Given as goal

abbrev pub invariant-all_keep-loop-arg : goal.invariant-all_keep-loop-arg
invariant-all_keep-loop-arg g l =
    map (λ e. redirected (g.R.Redirect.new_reference l.by) (tree_of e)) (take l.arg-index l.args)
    ≡ map tree_of (take l.arg-index l.args)
