use Rattle.std.proofs.Common.{◌≡◌, map, ap, sym, ◌∙◌}
use Rattle.formula_tree.specs.declared.ast.ExprList.{ExprList}
use Rattle.formula_tree.specs.declared.ast.Expr.{Expr}
use Rattle.formula_tree.specs.declared.ast.Expr.TheVariants.{Call}
use Rattle.formula_tree.specs.declared.function.Function.{Function}
use Rattle.formula_tree.specs.Ranges.{is_ranged}
use Rattle.formula_tree.specs.Redirected.{redirected}
use Rattle.formula_tree.specs.Shape.{every}
use Rattle.formula_tree.specs.View.{tree_of}
use Rattle.formula_tree.proofs.Redirected.{call_ranged, call_redirected}
use Rattle.formula_tree.proofs.redirect.+redirect_tree.Goals as goal

pub redirect_tree-returns-in-Call-clause-tree : goal.redirect_tree-returns-in-Call-clause-tree
redirect_tree-returns-in-Call-clause-tree g t c =
    let new = g.R.Redirect.new_reference c.args.by.now in
    let same : c.replace-args.result ≡ c.in-Call.args = c.replace-args.ensures.value ∙ c.in-Call.args-is in
    ap (λ (f : Function). tree_of (Call f c.redirect_all.new.args)) c.in-Call.function-is
    ∙ call_redirected new c.in-Call.function c.in-Call.args c.redirect_all.new.args
    (c.redirect_all.ensures.trees ∙ ap (λ (l : ExprList). map (λ e. redirected new (tree_of e)) l.items.items) same)
    ∙ ap (λ (e : Expr). redirected new (tree_of e)) (sym c.in-Call.is)

pub redirect_tree-returns-in-Call-clause-ranged : goal.redirect_tree-returns-in-Call-clause-ranged
redirect_tree-returns-in-Call-clause-ranged g t c before =
    let same : c.replace-args.result ≡ c.in-Call.args = c.replace-args.ensures.value ∙ c.in-Call.args-is in
    call_ranged c.in-Call.function c.in-Call.function c.replace-args.result c.redirect_all.new.args
    c.redirect_all.ensures.ranged
    (ap (λ (l : ExprList). every is_ranged (tree_of (Call c.in-Call.function l))) same
    ∙ ap (λ (e : Expr). every is_ranged (tree_of e)) (sym c.in-Call.is) ∙ before)
