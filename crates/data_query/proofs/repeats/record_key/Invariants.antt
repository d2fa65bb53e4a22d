use Rattle.std.proofs.Common.{◌≡◌, ◌++◌, drop}
use Rattle.data_query.specs.inner.Keys.{all_keyed, record_values}
use Rattle.data_query.proofs.repeats.record_key.Given as goal

abbrev pub invariant-loop-field : goal.invariant-loop-field
invariant-loop-field g l =
    all_keyed l.key.items ++ record_values (g.K.Look.sight l.look) (drop l.field-index l.fields) l.cell.row
    ≡ record_values (g.K.Look.sight l.look) l.fields l.cell.row
