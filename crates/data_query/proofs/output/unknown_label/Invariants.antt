use Rattle.std.proofs.Common.{◌≡◌}
use Rattle.std.specs.List.{find}
use Rattle.grid_address.specs.Place.{width_of}
use Rattle.data_query.specs.Extraction.{is_unknown, unknown_label}
use Rattle.grid_address.proofs.Scans.{left}
use Rattle.data_query.proofs.output.unknown_label.Given as goal

abbrev pub invariant-loop-col : goal.invariant-loop-col
invariant-loop-col g l =
    find (is_unknown (g.K.Look.sight l.look) l.input l.output) (left l.output.first.col (width_of l.output) l.col)
    ≡ unknown_label (g.K.Look.sight l.look) l.input l.output
