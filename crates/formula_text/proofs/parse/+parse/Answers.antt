use Rattle.std.proofs.Common.{rules, ◌≡◌, ◌+◌, ◌≤◌, ◌∷◌, drop, sym, ap, ◌∙◌, subst, arith}
use Rattle.formula_tree.specs.Shape.{level}
use Rattle.formula_tree.specs.Tree.{call}
use Rattle.formula_tree.specs.View.{listed, tree_of, trees_in}
use Rattle.formula_tree.proofs.Rows.{tree_of-Call}
use Rattle.formula_text.specs.inner.Reads.{Grown, Listed, Reads, ReadsCall, ReadsOperand}
use Rattle.formula_text.proofs.Arguments.{call_is_read, constant_is_read, more_are_listed}
use Rattle.formula_text.proofs.Grows.{grown}
use Rattle.formula_text.proofs.parse.+parse.Goals as goal

pub expression-loop-op-preserved : goal.expression-loop-op-preserved
expression-loop-op-preserved t c =
    let low : c.args.least ≤ level c.in-Some.op = omega arith in
    let r : Reads (drop 1 c.loop-op.rest.now) (level c.in-Some.op + 1)
    (tree_of c.in_ok-right.right) c.in_ok-right.after.now =
    rw (← c.others.ensures, ← c.level-in-Some.ensures) c.in_ok-right.ensures.ok in
    subst (λ x. Grown c.args.lexemes.now c.args.least x c.in_ok-right.after.now) (sym c.in_ok-left-2.ensures.ok)
    (grown c.args.lexemes.now c.args.least (tree_of c.loop-op.left) (tree_of c.in_ok-right.right) c.loop-op.rest.now
    c.in_ok-right.after.now c.in-Some.op c.loop-op.invariant (sym c.in-Some.ensures) low r)

pub call-loop-next-preserved : goal.call-loop-next-preserved
call-loop-next-preserved t c =
    let behind = c.in_ok-argument.after.now in
    subst (λ ts. Listed c.args.lexemes.now c.args.function (c.loop-next.count + 1) ts behind)
    (sym c.in_ok-add-2.ensures.ok)
    (more_are_listed c.args.lexemes.now c.args.function c.loop-next.count
    (trees_in c.loop-next.arguments) c.loop-next.rest.now c.in-Some.next.now (tree_of c.in_ok-argument.argument)
    behind c.loop-next.invariant c.in-Some.ensures.some c.in_ok-argument.ensures.ok)

pub call-returns-clause-ok : goal.call-returns-clause-ok
call-returns-clause-ok t c =
    let behind = c.in_ok-rest.rest.now in
    subst (λ e. ReadsCall c.args.lexemes.now c.args.function e behind)
    (sym (tree_of-Call c.args.function c.loop-next.arguments))
    (call_is_read c.args.lexemes.now c.args.function c.loop-next.count
    (trees_in c.loop-next.arguments) c.loop-next.rest.now behind c.loop-next.invariant c.in_ok-rest.ensures.ok)

pub operand-returns-in-Constant-clause-ok : goal.operand-returns-in-Constant-clause-ok
operand-returns-in-Constant-clause-ok t c =
    let f = c.in-Constant.function in
    let first : c.args.lexemes.now ≡ c.in-Some.first.now ∷ c.in-Some.rest.now = search rules in
    subst (λ e. ReadsOperand c.args.lexemes.now e c.in-Some.rest.now)
    (sym (tree_of-Call f c.new.result ∙ ap (λ ts. call f (listed ts)) c.new.ensures))
    (constant_is_read c.args.lexemes.now c.in-Some.first.now f c.in-Some.rest.now first c.in-Constant.is)
