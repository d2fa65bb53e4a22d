use Rattle.std.proofs.Common.{◌≡◌, ◌++◌}
use Rattle.std.specs.List.{filter_map}
use Rattle.grid_address.specs.Place.{width_of}
use Rattle.block_writes.specs.Writing.{at}
use Rattle.data_query.specs.Extraction.{output_field, taken_fields}
use Rattle.record_match.specs.Fields.{field_named}
use Rattle.grid_address.proofs.Scans.{taken_of}
use Rattle.data_query.proofs.output.taken_fields.Given as goal

abbrev pub invariant-loop-col : goal.invariant-loop-col
invariant-loop-col g l =
    l.fields.items ++ taken_of
    (λ col. output_field col (field_named (g.K.Look.sight l.look) l.input (at l.output.first.row col)))
    l.output.first.col (width_of l.output) l.col
    ≡ taken_fields (g.K.Look.sight l.look) l.input l.output
