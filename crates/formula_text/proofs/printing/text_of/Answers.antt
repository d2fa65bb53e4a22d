use Rattle.std.proofs.Common.{ap}
use Rattle.formula_tree.specs.View.{tree_of}
use Rattle.formula_text.specs.Printed.{text_of}
use Rattle.formula_text.proofs.Outputs.{from_nothing}
use Rattle.formula_text.proofs.Pieces.{as_written}
use Rattle.formula_text.proofs.printing.text_of.Goals as goal

pub returns-clause-line : goal.returns-clause-line
returns-clause-line c =
    let text = text_of c.args.names.now c.args.at (tree_of c.args.expr.now) in
    ap (λ o. o.line) (from_nothing c.nothing-out.result c.put_tree.new.out text c.nothing-out.ensures.line
    c.nothing-out.ensures.whole (as_written c.put_tree.ensures))

pub returns-clause-whole : goal.returns-clause-whole
returns-clause-whole c =
    let text = text_of c.args.names.now c.args.at (tree_of c.args.expr.now) in
    ap (λ o. o.whole) (from_nothing c.nothing-out.result c.put_tree.new.out text c.nothing-out.ensures.line
    c.nothing-out.ensures.whole (as_written c.put_tree.ensures))
