use Rattle.std.proofs.Common.{◌≡◌, ◌+◌, ◌-◌, ◌++◌, map}
use Rattle.formula_parts.specs.Scenes.{outlook_of}
use Rattle.block_writes.specs.Writing.{at}
use Rattle.record_match.specs.Criteria.{record_matches}
use Rattle.data_query.specs.inner.Plans.{is_wanted, records}
use Rattle.grid_address.proofs.Scans.{passed}
use Rattle.data_query.proofs.plan.records_of.Given as goal

abbrev pub invariant-loop-place : goal.invariant-loop-place
invariant-loop-place g l =
    l.cells ++ passed (λ row. at row l.query.input.first.col)
    (λ row. is_wanted l.wanted
    (record_matches (outlook_of (g.K.Look.sight l.look) l.scene) l.query.input l.query.criterion row))
    (l.query.input.first.row + 1) (l.query.input.last.row - l.query.input.first.row) l.place
    ≡ map (λ row. at row l.query.input.first.col)
    (records (outlook_of (g.K.Look.sight l.look) l.scene) l.query.input l.query.criterion l.wanted)
