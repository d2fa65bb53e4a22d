use Rattle.std.proofs.Common.{◌≡◌, ◌++◌, drop}
use Rattle.data_query.specs.Extraction.{record_written}
use Rattle.data_query.proofs.extracting.push_record.Given as goal

abbrev pub invariant-loop-field : goal.invariant-loop-field
invariant-loop-field g l =
    l.writes ++ record_written (g.K.Look.sight l.look) (drop l.field-index l.fields) l.fn.from.row l.fn.to
    ≡ l.fn.writes ++ record_written (g.K.Look.sight l.look) l.fields l.fn.from.row l.fn.to
