use Rattle.std.proofs.lemmas.Result.{IfOk-weaker}
use Rattle.wk1_formula.proofs.Operands.{left_held}
use Rattle.wk1_formula.proofs.item.left_operand.Goals as goal

pub returns : goal.returns
returns c =
    IfOk-weaker c.bracketed.result _ _ (λ i h t p. left_held c.args.op _ c.args.item i t c.level.ensures p (h t p))
    c.bracketed.ensures
