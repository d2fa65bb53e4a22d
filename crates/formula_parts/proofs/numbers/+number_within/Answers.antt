use Rattle.std.proofs.Common.{◌≡◌, rules, sym, ap, ◌∙◌}
use Rattle.formula_tree.specs.Tree.{neg}
use Rattle.formula_tree.specs.View.{tree_of}
use Rattle.formula_tree.specs.declared.value.Value.TheVariants as value
use Rattle.formula_parts.proofs.Composing.{in_call, in_neg}
use Rattle.formula_parts.proofs.numbers.+number_within.Goals as goal

pub returns-in_ok-number-in-Neg-clause-number : goal.returns-in_ok-number-in-Neg-clause-number
returns-in_ok-number-in-Neg-clause-number g t c =
    let sight = g.K.Look.sight c.args.look.now in
    let inner = tree_of c.deref-in-Neg.result.now in
    let is : tree_of c.args.expr.now ≡ neg inner = search rules in
    λ d s. in_neg (tree_of c.args.expr.now) inner c.args.at sight c.in_ok-number-in-Neg.number is
    c.in_ok-number-in-Neg.ensures.number d s
    ∙ ap value.Num (sym c.neg.ensures)

pub returns-in-Call-clause-number : goal.returns-in-Call-clause-number
returns-in-Call-clause-number g t c =
    in_call c.args.expr.now c.in-Call.function c.in-Call.exprs c.items.result.now c.args.at
    (g.K.Look.sight c.args.look.now) c.call_number.result c.in-Call.is c.items.ensures c.call_number.ensures.number
