use Rattle.std.proofs.Common.{◌≡◌}
use Rattle.std.specs.List.{list_all}
use Rattle.grid_address.specs.Place.{width_of}
use Rattle.formula_parts.specs.Scenes.{outlook_of}
use Rattle.grid_address.specs.Lines.{at}
use Rattle.record_match.specs.Criteria.{holds_at, row_holds}
use Rattle.grid_address.proofs.Scans.{left}
use Rattle.record_match.proofs.criteria.row_holds.Given as goal

abbrev pub invariant-loop-col : goal.invariant-loop-col
invariant-loop-col g l =
    list_all (λ col. holds_at (outlook_of (g.K.Look.sight l.look) l.scene) l.query.input l.query.criterion l.row
    (at l.conditions col)) (left l.query.criterion.first.col (width_of l.query.criterion) l.col)
    ≡ row_holds (outlook_of (g.K.Look.sight l.look) l.scene) l.query.input l.query.criterion l.row l.conditions
