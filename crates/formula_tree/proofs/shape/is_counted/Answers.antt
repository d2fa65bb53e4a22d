use Rattle.std.proofs.Common.{sym, ap, ◌∙◌, List, length}
use Rattle.formula_tree.specs.Shape.{is_counted}
use Rattle.formula_tree.specs.Table.{counts_of, takes}
use Rattle.formula_tree.specs.View.{tree_of}
use Rattle.formula_tree.specs.declared.ast.Expr.{Expr}
use Rattle.formula_tree.proofs.Rows.{count_listed, tree_of-Call}
use Rattle.formula_tree.proofs.shape.is_counted.Goals as goal

pub returns-in-Call : goal.returns-in-Call
returns-in-Call c =
    c.takes.ensures ∙ ap (λ (es : List Expr). takes (counts_of c.in-Call.function) (length es)) c.items.ensures
    ∙ ap (takes (counts_of c.in-Call.function)) (count_listed c.in-Call.args.items.items)
    ∙ ap is_counted (sym (tree_of-Call c.in-Call.function c.in-Call.args))
    ∙ ap (λ e. is_counted (tree_of e)) (sym c.in-Call.is)
