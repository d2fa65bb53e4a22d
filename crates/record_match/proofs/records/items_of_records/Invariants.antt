use Rattle.std.proofs.Common.{◌≡◌, ◌+◌, ◌-◌, ◌++◌}
use Rattle.record_match.specs.Criteria.{record_matches}
use Rattle.record_match.specs.Databases.{record_items}
use Rattle.formula_parts.specs.Standpoints.{outlook_from}
use Rattle.record_match.proofs.Columns.{behind}
use Rattle.record_match.proofs.records.items_of_records.Given as goal

abbrev pub invariant-loop-place : goal.invariant-loop-place
invariant-loop-place g l =
    l.items.items
    ++ behind (g.K.Look.sight l.from.look.now).values l.col
    (record_matches (outlook_from g.K.Look l.from) l.query.input l.query.criterion)
    (l.query.input.first.row + 1)
    (l.query.input.last.row - l.query.input.first.row) l.place
    ≡ record_items (outlook_from g.K.Look l.from) l.query.input l.query.criterion l.col
