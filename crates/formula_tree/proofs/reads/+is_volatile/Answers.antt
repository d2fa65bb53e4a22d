use Rattle.std.proofs.Common.{◌≡◌, false, sym, ap, ◌∙◌, List, map}
use Rattle.std.specs.Prelude.{◌||◌}
use Rattle.formula_tree.specs.Spans.{any_volatile, is_volatile}
use Rattle.formula_tree.specs.Table.{is_volatile_function}
use Rattle.formula_tree.specs.View.{listed, tree_of}
use Rattle.formula_tree.specs.declared.ast.Expr.{Expr}
use Rattle.formula_tree.proofs.Rows.{tree_of-Call, volatile_listed}
use Rattle.formula_tree.proofs.reads.+is_volatile.Goals as goal

pub is_volatile-returns-else-is_volatile_function : goal.is_volatile-returns-else-is_volatile_function
is_volatile-returns-else-is_volatile_function t c =
    let other : is_volatile_function c.in-Call.function ≡ false =
    sym c.is_volatile_function.ensures ∙ c.if-is_volatile_function.false in
    c.any_volatile.ensures ∙ volatile_listed c.deref-else-is_volatile_function.result.now
    ∙ ap (λ (es : List Expr). any_volatile (listed (map tree_of es))) c.deref-else-is_volatile_function.ensures.value
    ∙ ap (λ b. b || any_volatile (listed (map tree_of c.in-Call.args.items.items))) (sym other)
    ∙ ap is_volatile (sym (tree_of-Call c.in-Call.function c.in-Call.args))
    ∙ ap (λ e. is_volatile (tree_of e)) (sym c.in-Call.is)
