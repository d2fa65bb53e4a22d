use Rattle.std.proofs.Common.{rules, ◌≡◌, ◌+◌, ap}
use Rattle.grid_address.specs.Address.{column_name, decimal}
use Rattle.grid_address.specs.Axes.{is_fixed}
use Rattle.grid_address.specs.Leads.{resolve}
use Rattle.formula_text.specs.Printed.{mark}
use Rattle.formula_text.proofs.Pieces.{four_put, put_as}
use Rattle.formula_text.proofs.printing.put_reference.Goals as goal

pub returns : goal.returns
returns g c =
    let reference = c.args.reference in
    let cell = resolve reference c.args.at in
    let letters : c.bytes.result.now ≡ column_name cell.col = search rules in
    let digits : c.bytes-2.result.now ≡ decimal (cell.row + 1) = search rules in
    let col : c.is_fixed.result ≡ is_fixed reference.col = search rules in
    let row : c.is_fixed-2.result ≡ is_fixed reference.row = search rules in
    four_put c.args.out.now c.put_mark.new.out c.put.new.out c.put_mark-2.new.out c.put-2.new.out
    (mark (is_fixed reference.col)) (column_name cell.col) (mark (is_fixed reference.row)) (decimal (cell.row + 1))
    (put_as c.put_mark.ensures (ap mark col)) (put_as c.put.ensures letters) (put_as c.put_mark-2.ensures (ap mark row))
    (put_as c.put-2.ensures digits)
