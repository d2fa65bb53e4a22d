use Rattle.std.proofs.Common.{◌≡◌, ◌+◌, ◌-◌}
use Rattle.std.specs.List.{list_any}
use Rattle.formula_parts.specs.Scenes.{outlook_of}
use Rattle.record_match.specs.Criteria.{record_matches, row_holds}
use Rattle.grid_address.proofs.Scans.{left}
use Rattle.record_match.proofs.criteria.record_matches.Given as goal

abbrev pub invariant-loop-place : goal.invariant-loop-place
invariant-loop-place g l =
    list_any (row_holds (outlook_of (g.K.Look.sight l.look) l.scene) l.query.input l.query.criterion l.row)
    (left (l.query.criterion.first.row + 1) (l.query.criterion.last.row - l.query.criterion.first.row) l.place)
    ≡ record_matches (outlook_of (g.K.Look.sight l.look) l.scene) l.query.input l.query.criterion l.row
