use Rattle.std.proofs.Common.{◌≡◌}
use Rattle.std.specs.List.{list_all}
use Rattle.grid_address.specs.Place.{width_of}
use Rattle.grid_address.specs.Lines.{at, columns_of}
use Rattle.record_match.specs.Fields.{is_label_at}
use Rattle.grid_address.proofs.Scans.{left}
use Rattle.record_match.proofs.fields.is_row_of_labels.Given as goal

abbrev pub invariant-loop-col : goal.invariant-loop-col
invariant-loop-col g l =
    list_all (λ col. is_label_at (g.K.Look.sight l.look) (at l.input.first.row col))
    (left l.input.first.col (width_of l.input) l.col)
    ≡ list_all (λ col. is_label_at (g.K.Look.sight l.look) (at l.input.first.row col)) (columns_of l.input)
