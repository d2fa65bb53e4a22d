use Rattle.std.proofs.Common.{codes}
use Rattle.formula_text.specs.Printed.{reference_text}
use Rattle.formula_text.proofs.Pieces.{three_put}
use Rattle.formula_text.proofs.printing.put_corners.Goals as goal

pub returns : goal.returns
returns g c =
    three_put c.args.out.now c.put_reference.new.out c.put.new.out c.put_reference-2.new.out
    (reference_text c.args.at c.args.one) (codes "..") (reference_text c.args.at c.args.other) c.put_reference.ensures
    c.put.ensures c.put_reference-2.ensures
