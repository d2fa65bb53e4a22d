use Rattle.std.proofs.Common.{List, ℕ, ◌++◌, ap, ◌∙◌}
use Rattle.formula_tree.specs.View.{tree_of}
use Rattle.formula_text.specs.Printed.{text_of}
use Rattle.formula_text.proofs.Pieces.{as_lengthened}
use Rattle.formula_text.proofs.whole.whole_text.Goals as goal

pub returns-then-out : goal.returns-then-out
returns-then-out c =
    let text = text_of c.args.names.now c.args.at (tree_of c.args.expr.now) in
    (as_lengthened c.put_tree.ensures c.if-out.true).1 ∙ ap (λ (l : List ℕ). l ++ text) c.clear.ensures.items
