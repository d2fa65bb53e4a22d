use Rattle.std.proofs.Common.{◌++◌, map, sym, ap, ◌∙◌, Bor}
use Rattle.std.proofs.lemmas.List.{take_all}
use Rattle.formula_tree.specs.declared.ast.Expr.{Expr}
use Rattle.formula_tree.specs.Tree.{Tree}
use Rattle.formula_tree.specs.View.{tree_of}
use Rattle.formula_tree.specs.inner.Nodes.{parts}
use Rattle.formula_tree.proofs.Rows.{tree_of-Call}
use Rattle.formula_tree.proofs.Parts.{parts_listed}
use Rattle.formula_tree.proofs.walk.spread.Goals as goal

abbrev seen : Bor Expr → Tree
seen e = tree_of e.now

pub returns-after-loop-arg : goal.returns-after-loop-arg
returns-after-loop-arg c =
    let items = c.deref-arg-items.result.now in
    c.loop-arg.invariant
    ∙ ap (λ l. map seen c.args.stack.now.items ++ l) (
    ap (map tree_of) (take_all c.loop-arg.arg-index items c.loop-arg-test.false ∙ c.deref-arg-items.ensures.value)
    ∙ sym (parts_listed (map tree_of c.in-Call.args.items.items))
    ∙ ap parts (sym (tree_of-Call c.in-Call.field-0 c.in-Call.args)) ∙ ap (λ e. parts (tree_of e)) (sym c.in-Call.is)
    )
