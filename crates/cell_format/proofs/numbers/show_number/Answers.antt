use Rattle.std.proofs.Common.{ap, ◌∙◌, ◌++◌}
use Rattle.cell_format.specs.Numbers.{shown_number}
use Rattle.cell_format.proofs.Widths.{number_width}
use Rattle.cell_format.proofs.numbers.show_number.Goals as goal

pub returns-clause-size : goal.returns-clause-size
returns-clause-size c =
    number_width c.args.into.now c.put_number.new.into c.args.value c.args.format.0 c.args.width
    (c.put_number.ensures ∙ ap (λ k. c.args.into.now ++ shown_number c.args.value c.args.format.0 k) c.from.ensures)
