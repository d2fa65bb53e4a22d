use Rattle.std.proofs.lemmas.Result.{IfOk-weaker}
use Rattle.wk1_formula.proofs.Operands.{front_held}
use Rattle.wk1_formula.proofs.item.front_operand.Goals as goal

pub returns : goal.returns
returns c =
    IfOk-weaker c.bracketed.result _ _ (λ i h t p. front_held c.args.least c.args.item i t p (h t p))
    c.bracketed.ensures
