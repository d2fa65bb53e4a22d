use Rattle.std.proofs.Common.{sym, ap, ◌∙◌, map}
use Rattle.formula_tree.specs.Tree.{call}
use Rattle.formula_tree.specs.View.{tree_of, listed}
use Rattle.formula_tree.proofs.Rows.{tree_of-Call}
use Rattle.formula_tree.proofs.copies.+copy.Goals as goal

pub copy_expr-returns-in_ok-items-in-Call : goal.copy_expr-returns-in_ok-items-in-Call
copy_expr-returns-in_ok-items-in-Call t c =
    tree_of-Call c.in-Call.function (record { items = c.in_ok-items-in-Call.items })
    ∙ ap (λ ts. call c.in-Call.function (listed ts))
    (c.in_ok-items-in-Call.ensures ∙ ap (map tree_of) c.deref-in-Call.ensures.value)
    ∙ sym (tree_of-Call c.in-Call.function c.in-Call.args) ∙ ap tree_of (sym c.in-Call.is)
