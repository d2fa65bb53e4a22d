use Rattle.std.proofs.Common.{sym, ap, ◌∙◌, map}
use Rattle.formula_tree.specs.declared.ast.Expr.{Expr}
use Rattle.formula_tree.specs.Redirected.{redirected}
use Rattle.formula_tree.specs.View.{tree_of}
use Rattle.formula_tree.proofs.Redirected.{call_redirected}
use Rattle.formula_tree.proofs.redirect.+keeps_references.Goals as goal

pub keeps_references-returns-in-Call : goal.keeps_references-returns-in-Call
keeps_references-returns-in-Call g t c same =
    let new = g.R.Redirect.new_reference c.args.by.now in
    let kept =
    ap (map (λ (e : Expr). redirected new (tree_of e))) (sym c.deref-in-Call.ensures.value) ∙ c.all_keep.ensures same
    ∙ ap (map tree_of) c.deref-in-Call.ensures.value in
    ap (λ (e : Expr). redirected new (tree_of e)) c.in-Call.is
    ∙ sym (call_redirected new c.in-Call.field-0 c.in-Call.args c.in-Call.args (sym kept))
    ∙ ap tree_of (sym c.in-Call.is)
