use Rattle.std.proofs.Common.{◌∷◌, [], ap, ◌∙◌, arith}
use Rattle.std.proofs.lemmas.List.{map-append}
use Rattle.block_writes.specs.Writing.{at}
use Rattle.data_query.specs.inner.Keys.{all_keyed, keyed, record_values}
use Rattle.data_query.specs.declared.output.OutputField.{OutputField}
use Rattle.data_query.proofs.Extracted.{made_all, made_next}
use Rattle.data_query.proofs.repeats.record_key.Goals as goal

pub loop-field-preserved : goal.loop-field-preserved
loop-field-preserved g c =
    let sight = g.K.Look.sight c.args.look.now in
    let fields = c.args.fields.now in
    let value = λ (f : OutputField). sight.values (at c.args.cell.row f.field) in
    made_next value fields c.loop-field.field-index (record { field = 0; col = 0 }) (all_keyed c.loop-field.key.items)
    (all_keyed c.push.new.self.items) (record_values sight fields c.args.cell.row) (keyed c.in_ok-value.value)
    c.loop-field-test.true c.in_ok-value.ensures
    (ap all_keyed c.in_ok-push.ensures.items ∙ map-append keyed c.loop-field.key.items (c.in_ok-value.value ∷ []))
    c.loop-field.invariant

pub returns : goal.returns
returns g c =
    let sight = g.K.Look.sight c.args.look.now in
    let fields = c.args.fields.now in
    let value = λ (f : OutputField). sight.values (at c.args.cell.row f.field) in
    made_all value fields c.loop-field.field-index (all_keyed c.loop-field.key.items)
    (record_values sight fields c.args.cell.row) (omega (arith, c.loop-field-test.false)) c.loop-field.invariant
