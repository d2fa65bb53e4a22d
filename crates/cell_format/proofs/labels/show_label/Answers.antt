use Rattle.std.proofs.Common.{ap, ◌∙◌, ◌++◌}
use Rattle.cell_format.specs.Labels.{shown_label}
use Rattle.cell_format.proofs.Widths.{label_width}
use Rattle.cell_format.proofs.labels.show_label.Goals as goal

pub returns-clause-size : goal.returns-clause-size
returns-clause-size c =
    label_width c.args.into.now c.put_label.new.into c.args.prefix c.args.bytes.now c.args.width
    (c.put_label.ensures ∙ ap (λ k. c.args.into.now ++ shown_label c.args.prefix c.args.bytes.now k) c.from.ensures)
