use Rattle.std.proofs.Common.{◌≡◌, map}
use Rattle.grid_address.specs.Lines.{at, numbers_from}
use Rattle.record_match.specs.Fields.{field_named}
use Rattle.record_match.proofs.criteria.fields_of.Given as goal

abbrev pub invariant-loop-col : goal.invariant-loop-col
invariant-loop-col g l =
    l.fields.items
    ≡ map (λ col. field_named (g.K.Look.sight l.look) l.input (at l.criterion.first.row col))
    (numbers_from l.criterion.first.col l.col)
