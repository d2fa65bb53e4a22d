use Rattle.std.proofs.Common.{◌≡◌, ◌+◌, ◌-◌}
use Rattle.std.specs.List.{list_any}
use Rattle.grid_address.specs.Lines.{at, rows_below}
use Rattle.record_match.specs.Criteria.{asks_field}
use Rattle.grid_address.proofs.Scans.{left}
use Rattle.record_match.proofs.headers.is_asked_below.Given as goal

abbrev pub invariant-loop-place : goal.invariant-loop-place
invariant-loop-place g l =
    list_any (λ row. asks_field ((g.K.Look.sight l.look).contents (at row l.col)))
    (left (l.criterion.first.row + 1) (l.criterion.last.row - l.criterion.first.row) l.place)
    ≡ list_any (λ row. asks_field ((g.K.Look.sight l.look).contents (at row l.col))) (rows_below l.criterion)
