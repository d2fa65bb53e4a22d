use Rattle.std.proofs.Common.{◌≡◌}
use Rattle.std.specs.List.{find}
use Rattle.grid_address.specs.Place.{width_of}
use Rattle.record_match.specs.Criteria.{is_missing, missing}
use Rattle.grid_address.proofs.Scans.{left}
use Rattle.record_match.proofs.headers.missing.Given as goal

abbrev pub invariant-loop-col : goal.invariant-loop-col
invariant-loop-col g l =
    find (is_missing (g.K.Look.sight l.look) l.input l.criterion)
    (left l.criterion.first.col (width_of l.criterion) l.col)
    ≡ missing (g.K.Look.sight l.look) l.input l.criterion
