use Rattle.std.proofs.Common.{◌≡◌, ◌++◌, map, sym, ap, ◌∙◌, subst, OnOk}
use Rattle.formula_tree.specs.View.{tree_of, listed}
use Rattle.formula_tree.specs.Spans.{spans_of, spans_of_all}
use Rattle.formula_tree.proofs.Rows.{tree_of-Call, spans_listed}
use Rattle.formula_tree.proofs.reads.+collect.Goals as goal

pub collect-returns-in-Call : goal.collect-returns-in-Call
collect-returns-in-Call t c =
    let at = c.args.at in
    subst (λ l. OnOk c.collect_all.result (c.collect_all.new.into.items ≡ c.args.into.now.items ++ l))
    (spans_listed at c.deref-in-Call.result.now
    ∙ ap (λ es. spans_of_all (listed (map tree_of es)) at) c.deref-in-Call.ensures.value
    ∙ ap (λ x. spans_of x at) (sym (tree_of-Call c.in-Call.field-0 c.in-Call.args))
    ∙ ap (λ e. spans_of (tree_of e) at) (sym c.in-Call.is))
    c.collect_all.ensures
