use Rattle.std.proofs.Common.{◌++◌, refl, arith}
use Rattle.block_writes.specs.Writing.{at, value_copied}
use Rattle.data_query.specs.Extraction.{record_written}
use Rattle.data_query.specs.declared.output.OutputField.{OutputField}
use Rattle.data_query.proofs.Extracted.{made_all, made_next}
use Rattle.data_query.proofs.extracting.push_record.Goals as goal

pub loop-field-preserved : goal.loop-field-preserved
loop-field-preserved g c =
    let sight = g.K.Look.sight c.args.look.now in
    let fields = c.args.fields.now in
    let make = λ (f : OutputField). value_copied sight (at c.args.from.row f.field) (at c.args.to f.col) in
    made_next make fields c.loop-field.field-index (record { field = 0; col = 0 }) c.loop-field.writes
    c.push_value.new.writes (c.args.writes.now ++ record_written sight fields c.args.from.row c.args.to) _
    c.loop-field-test.true refl c.in_ok-push_value.ensures c.loop-field.invariant

pub returns : goal.returns
returns g c =
    let sight = g.K.Look.sight c.args.look.now in
    let fields = c.args.fields.now in
    let make = λ (f : OutputField). value_copied sight (at c.args.from.row f.field) (at c.args.to f.col) in
    made_all make fields c.loop-field.field-index c.loop-field.writes
    (c.args.writes.now ++ record_written sight fields c.args.from.row c.args.to)
    (omega (arith, c.loop-field-test.false)) c.loop-field.invariant
