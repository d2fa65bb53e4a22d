use Rattle.std.proofs.Common.{ap, ◌∙◌}
use Rattle.formula_tree.specs.Tree.{call}
use Rattle.formula_tree.specs.View.{listed}
use Rattle.formula_tree.proofs.Rows.{tree_of-Call}
use Rattle.formula_tree.proofs.Formulas.{made_is}
use Rattle.wk1_records.proofs.said.constant.Goals as goal

pub returns-in-Ok : goal.returns-in-Ok
returns-in-Ok c =
    made_is _ c.in-Ok.formula c.in-Ok.ensures ∙ tree_of-Call c.args.function c.new.result
    ∙ ap (λ ts. call c.args.function (listed ts)) c.new.ensures
