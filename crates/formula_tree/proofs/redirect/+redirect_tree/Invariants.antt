use Rattle.std.proofs.Common.{◌≡◌, true, take, map}
use Rattle.std.specs.List.{list_all}
use Rattle.formula_tree.specs.Ranges.{is_ranged}
use Rattle.formula_tree.specs.Redirected.{redirected}
use Rattle.formula_tree.specs.Shape.{every}
use Rattle.formula_tree.specs.View.{tree_of}
use Rattle.formula_tree.proofs.redirect.+redirect_tree.Given as goal

abbrev pub invariant-redirect_all-loop-i : goal.invariant-redirect_all-loop-i
invariant-redirect_all-loop-i g l =
    goal.unvisited-redirect_all-loop-i g l
    × (map tree_of (take l.i l.args.items.items)
    ≡ map (λ e. redirected (g.R.Redirect.new_reference l.by) (tree_of e)) (take l.i l.fn.args.items.items))
    × (list_all (λ e. every is_ranged (tree_of e)) l.fn.args.items.items ≡ true
    → list_all (λ e. every is_ranged (tree_of e)) (take l.i l.args.items.items) ≡ true)
