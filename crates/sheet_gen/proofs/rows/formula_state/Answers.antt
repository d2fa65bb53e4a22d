use Rattle.std.specs.Prelude.{◌≡◌, IfOk}
use Rattle.std.proofs.Common.{subst}
use Rattle.formula_tree.specs.View.{tree_of}
use Rattle.formula_tree.proofs.Formulas.{made_is}
use Rattle.sheet_gen.specs.Rows.{formula_state}
use Rattle.sheet_gen.proofs.rows.formula_state.Goals as goal

pub returns-in-Ok : goal.returns-in-Ok
returns-in-Ok c =
    subst (λ t. IfOk c.formula.result (λ s. s ≡ formula_state t))
    (made_is (tree_of c.args.expr) c.in-Ok.formula c.in-Ok.ensures) c.formula.ensures
