use Rattle.std.proofs.Common.{◌+◌, ap, ◌∙◌, refl, arith}
use Rattle.std.specs.Prelude.{min}
use Rattle.formula_tree.specs.Tree.{call}
use Rattle.formula_tree.specs.View.{listed, tree_of}
use Rattle.formula_tree.specs.declared.ast.Expr.TheVariants.{Call}
use Rattle.formula_tree.proofs.Rows.{tree_of-Call}
use Rattle.wk1_formula.proofs.Gatherings.{call_made, for_none, for_some, some_gone}
use Rattle.wk1_formula.proofs.gather.called.Goals as goal

pub returns-then-depth-gt256 : goal.returns-then-depth-gt256
returns-then-depth-gt256 c ts p taken =
    call_made c.args.function c.args.gathered ts _ p taken c.deeper-depth.ensures
    (c.larger-size.ensures ∙ ap (λ n. min (c.args.gathered.size + n) 65520) c.call_size.ensures) refl refl (for_none _)
    (λ _. omega (arith, c.if-depth-gt256.true, c.deeper-depth.ensures, p.depth_is))

pub returns-else-depth-gt256 : goal.returns-else-depth-gt256
returns-else-depth-gt256 c ts p taken =
    let a = p.there c.in-Some.exprs c.in-Some.is in
    let one = tree_of-Call c.args.function c.in-Some.exprs in
    let two = ap (λ l. call c.args.function (listed l)) a in
    call_made c.args.function c.args.gathered ts _ p taken c.deeper-depth.ensures
    (c.larger-size.ensures ∙ ap (λ n. min (c.args.gathered.size + n) 65520) c.call_size.ensures) refl refl
    (for_some _ _ (ap tree_of (ap (Call c.args.function) c.in-Some.exprs-is) ∙ one ∙ two))
    (λ e. some_gone _ _ e)

pub returns-in-None : goal.returns-in-None
returns-in-None c ts p taken =
    call_made c.args.function c.args.gathered ts _ p taken c.deeper-depth.ensures
    (c.larger-size.ensures ∙ ap (λ n. min (c.args.gathered.size + n) 65520) c.call_size.ensures) refl refl (for_none _)
    (λ _. omega (arith, p.gone c.in-None.is))
