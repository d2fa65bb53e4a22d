use Rattle.std.proofs.Common.{subst, sym, ap, ◌∙◌}
use Rattle.formula_tree.specs.declared.ast.Expr.{Expr}
use Rattle.formula_tree.specs.Ranges.{is_ranged}
use Rattle.formula_tree.specs.Redirected.{redirected}
use Rattle.formula_tree.specs.Shape.{every, IsFormula}
use Rattle.formula_tree.specs.View.{tree_of}
use Rattle.formula_tree.proofs.Redirected.{formula_kept}
use Rattle.formula_tree.proofs.formula.Formula.redirected.Goals as goal

pub invariant_of-result : goal.invariant_of-result
invariant_of-result g c =
    let new = g.R.Redirect.new_reference c.args.by.now in
    let same = c.deref-2.ensures in
    let tree = c.in_ok-expr.ensures.tree ∙ ap (λ (e : Expr). redirected new (tree_of e)) same in (
      subst IsFormula (sym tree) (formula_kept _ (tree_of c.self.inside.expr.value) c.self.invariant.0),
      c.in_ok-expr.ensures.ranged (ap (λ (e : Expr). every is_ranged (tree_of e)) same ∙ c.self.invariant.1),
    )
