use Rattle.std.proofs.lemmas.Result.{IfOk-weaker}
use Rattle.wk1_formula.specs.inner.Steps.{held}
use Rattle.wk1_formula.proofs.Bracketed.{held_fits}
use Rattle.wk1_formula.proofs.stack.held_over.Goals as goal

pub returns : goal.returns
returns c =
    IfOk-weaker c.over.result _ _ (λ i h t p. h (held c.args.one t) (c.in_ok-item.ensures t p) (held_fits c.args.one t))
    c.over.ensures
