use Rattle.std.proofs.Common.{◌≡◌}
use Rattle.std.specs.List.{find}
use Rattle.grid_address.specs.Place.{width_of}
use Rattle.grid_address.specs.Lines.{at}
use Rattle.record_match.specs.Fields.{field_named, label_in, same_label}
use Rattle.grid_address.proofs.Scans.{left}
use Rattle.record_match.proofs.fields.field_named.Given as goal

abbrev pub invariant-loop-col : goal.invariant-loop-col
invariant-loop-col g l =
    find (λ col. same_label (label_in ((g.K.Look.sight l.look).contents l.name))
    (label_in ((g.K.Look.sight l.look).contents (at l.input.first.row col))))
    (left l.input.first.col (width_of l.input) l.col)
    ≡ field_named (g.K.Look.sight l.look) l.input l.name
