use Rattle.std.proofs.Common.{◌≡◌, ◌≤◌, ◌+◌, ◌++◌, ◌∷◌, [], ◌<◌, List, length, get_or, map, Ok, Err, sym, ap, ◌∙◌}
use Rattle.std.proofs.Common.{subst, arith}
use Rattle.std.specs.Prelude.{IfOk}
use Rattle.formula_tree.specs.inner.Nodes.{all_nodes, nodes}
use Rattle.formula_tree.specs.View.{listed, tree_of, trees_in}
use Rattle.formula_tree.proofs.Rows.{fewer_nodes, tree_of-Call}
use Rattle.formula_parts.specs.Calls.{choice}
use Rattle.formula_parts.specs.Parts.{arguments_by, call_value, value_by}
use Rattle.formula_parts.specs.declared.argument.Argument.{Argument}
use Rattle.formula_parts.specs.Standpoints.{outlook_from}
use Rattle.formula_parts.proofs.Places.{argument, nth_is, nth_past, one_more, stopped, taken}
use Rattle.formula_parts.proofs.meaning.+value.Goals as goal

pub arguments_of-composed-requires : goal.arguments_of-composed-requires
arguments_of-composed-requires g t c κs within =
    let few = fewer_nodes c.args.exprs.now c.loop-expr.expr-index c.expr-item.result c.loop-expr-test.true in
    let same = ap (λ e. nodes (tree_of e)) c.expr-item.is in
    (omega (arith, few, same, c.decreases), within)

pub arguments_of-loop-expr-preserved : goal.arguments_of-loop-expr-preserved
arguments_of-loop-expr-preserved g t c =
    let w = outlook_from g.K.Look c.args.from.now in
    let at = c.args.from.now.at in
    let es = c.args.exprs.now in
    let item = c.expr-item.result in
    let before = c.loop-expr.arguments.items in
    c.in_ok-push.ensures.items
    ∙ ap (λ v. before ++ record { value = v; operand = c.operand_of-operand.result } ∷ []) c.in_ok-value.ensures
    ∙ ap (λ o. before ++ record { value = value_by g.D.Databases.answers (tree_of item) at w; operand = o } ∷ [])
    c.operand_of-operand.ensures
    ∙ ap (λ e. before ++ argument g.D.Databases.answers at w (tree_of e) ∷ []) c.expr-item.is
    ∙ ap (λ (l : List Argument). l
    ++ argument g.D.Databases.answers at w (tree_of (get_or es c.loop-expr.expr-index item)) ∷ []) c.loop-expr.invariant
    ∙ sym (one_more g.D.Databases.answers at w es c.loop-expr.expr-index item c.loop-expr-test.true)

pub chosen-composed-requires-then-place-exprs : goal.chosen-composed-requires-then-place-exprs
chosen-composed-requires-then-place-exprs g t c κs within =
    let few = fewer_nodes c.args.exprs.now c.in-Ok.place c.index-exprs-place.result c.if-place-exprs.true in
    let same = ap (λ e. nodes (tree_of e)) c.index-exprs-place.is in
    (omega (arith, few, same, c.decreases), within)

pub chosen-returns-then-place-exprs : goal.chosen-returns-then-place-exprs
chosen-returns-then-place-exprs g t c =
    let w = outlook_from g.K.Look c.args.from.now in
    let at = c.args.from.now.at in
    let es = c.args.exprs.now in
    let f = c.args.function in
    let place = c.in-Ok.place in
    let item = c.index-exprs-place.result in
    let zeroth = c.index-exprs-0.result in
    let some : 0 < length es = omega (arith, c.if-exprs-eq0.false) in
    let first : c.in_ok-first.first ≡ value_by g.D.Databases.answers (tree_of (get_or es 0 zeroth)) at w =
    c.in_ok-first.ensures ∙ ap (λ e. value_by g.D.Databases.answers (tree_of e) at w) c.index-exprs-0.is in
    let told : choice f (length es) (value_by g.D.Databases.answers (tree_of (get_or es 0 zeroth)) at w) ≡ Ok place =
    ap (choice f (length es)) (sym first) ∙ sym c.choice.ensures ∙ c.in-Ok.is in
    let is =
    ap (λ e. value_by g.D.Databases.answers (tree_of e) at w) c.index-exprs-place.is
    ∙ sym (nth_is g.D.Databases.answers at w es place item c.if-place-exprs.true)
    ∙ sym (taken g.D.Databases.answers f at w es zeroth place some told) in
    subst (λ x. IfOk c.composed-then-place-exprs.result (λ v. v ≡ x)) is c.composed-then-place-exprs.ensures

pub chosen-returns-in-Ok : goal.chosen-returns-in-Ok
chosen-returns-in-Ok g t c =
    let w = outlook_from g.K.Look c.args.from.now in
    let at = c.args.from.now.at in
    let es = c.args.exprs.now in
    let f = c.args.function in
    let place = c.in-Ok.place in
    let zeroth = c.index-exprs-0.result in
    let some : 0 < length es = omega (arith, c.if-exprs-eq0.false) in
    let past : length es ≤ place = omega (arith, c.if-place-exprs.false) in
    let first : c.in_ok-first.first ≡ value_by g.D.Databases.answers (tree_of (get_or es 0 zeroth)) at w =
    c.in_ok-first.ensures ∙ ap (λ e. value_by g.D.Databases.answers (tree_of e) at w) c.index-exprs-0.is in
    let told : choice f (length es) (value_by g.D.Databases.answers (tree_of (get_or es 0 zeroth)) at w) ≡ Ok place =
    ap (choice f (length es)) (sym first) ∙ sym c.choice.ensures ∙ c.in-Ok.is in
    sym (taken g.D.Databases.answers f at w es zeroth place some told
    ∙ nth_past g.D.Databases.answers at w es place past)

pub chosen-returns : goal.chosen-returns
chosen-returns g t c =
    let w = outlook_from g.K.Look c.args.from.now in
    let at = c.args.from.now.at in
    let es = c.args.exprs.now in
    let f = c.args.function in
    let zeroth = c.index-exprs-0.result in
    let some : 0 < length es = omega (arith, c.if-exprs-eq0.false) in
    let first : c.in_ok-first.first ≡ value_by g.D.Databases.answers (tree_of (get_or es 0 zeroth)) at w =
    c.in_ok-first.ensures ∙ ap (λ e. value_by g.D.Databases.answers (tree_of e) at w) c.index-exprs-0.is in
    let told : choice f (length es) (value_by g.D.Databases.answers (tree_of (get_or es 0 zeroth)) at w)
    ≡ Err c.in-Err.value =
    ap (choice f (length es)) (sym first) ∙ sym c.choice.ensures ∙ c.in-Err.is in
    sym (stopped g.D.Databases.answers f at w es zeroth c.in-Err.value some told)

pub value_of-call_value-requires : goal.value_of-call_value-requires
value_of-call_value-requires g t c κs within =
    let f = c.in-Call.function in
    let args = c.in-Call.exprs in
    let n : nodes (tree_of c.args.expr.now) ≡ 1 + all_nodes (listed (trees_in args)) =
    ap (λ e. nodes (tree_of e)) c.in-Call.is ∙ ap nodes (tree_of-Call f args) in
    let m : all_nodes (listed (map tree_of c.items.result.now)) ≡ all_nodes (listed (trees_in args)) =
    ap (λ es. all_nodes (listed (map tree_of es))) c.items.ensures in
    (omega (arith, n, m, c.decreases), within)

pub value_of-returns-in-Call : goal.value_of-returns-in-Call
value_of-returns-in-Call g t c =
    let w = outlook_from g.K.Look c.args.from.now in
    let at = c.args.from.now.at in
    let f = c.in-Call.function in
    let args = c.in-Call.exprs in
    let is =
    ap (λ es. call_value g.D.Databases.answers f w (arguments_by g.D.Databases.answers (listed (map tree_of es)) at w))
    c.items.ensures
    ∙ ap (λ x. value_by g.D.Databases.answers x at w) (sym (tree_of-Call f args))
    ∙ ap (λ e. value_by g.D.Databases.answers (tree_of e) at w) (sym c.in-Call.is) in
    subst (λ x. IfOk c.call_value.result (λ v. v ≡ x)) is c.call_value.ensures
