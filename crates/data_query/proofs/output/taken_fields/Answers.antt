use Rattle.std.proofs.Common.{ℕ, ◌≡◌, ◌+◌, ◌++◌, List, sym, ap, ◌∙◌, refl, arith}
use Rattle.std.specs.Prelude.{Option}
use Rattle.std.specs.List.{filter_map}
use Rattle.grid_address.specs.Place.{width_of}
use Rattle.block_writes.specs.Writing.{at}
use Rattle.data_query.specs.Extraction.{output_field, taken_fields}
use Rattle.record_match.specs.Fields.{field_named}
use Rattle.data_query.specs.declared.output.OutputField.{OutputField}
use Rattle.grid_address.proofs.Scans.{left_first, taken_of, took_all, took_next}
use Rattle.data_query.proofs.output.taken_fields.Goals as goal

pub loop-col-init : goal.loop-col-init
loop-col-init g c =
    let h =
    λ (col : ℕ). output_field col (field_named (g.K.Look.sight c.args.look.now) c.args.input
    (at c.args.output.first.row col)) in
    let first = c.args.output.first.col in
    let width = width_of c.args.output in
    ap (λ (l : List OutputField). l ++ taken_of h first width 0) c.new-fields.ensures.items
    ∙ ap (filter_map h) (left_first first width)

pub loop-col-preserved : goal.loop-col-preserved
loop-col-preserved g c =
    let sight = g.K.Look.sight c.args.look.now in
    let h = λ (col : ℕ). output_field col (field_named sight c.args.input (at c.args.output.first.row col)) in
    let first = c.args.output.first.col in
    took_next h first (width_of c.args.output) c.loop-col.col c.loop-col.fields.items c.push_taken.new.fields.items
    (taken_fields sight c.args.input c.args.output) (h (first + c.loop-col.col))
    (omega (arith, c.loop-col-test.true, c.width-col-end.ensures.width)) refl c.in_ok-push_taken.ensures
    c.loop-col.invariant

pub returns : goal.returns
returns g c =
    let sight = g.K.Look.sight c.args.look.now in
    let h = λ (col : ℕ). output_field col (field_named sight c.args.input (at c.args.output.first.row col)) in
    took_all h c.args.output.first.col (width_of c.args.output) c.loop-col.col c.loop-col.fields.items
    (taken_fields sight c.args.input c.args.output)
    (omega (arith, c.loop-col-test.false, c.width-col-end.ensures.width)) c.loop-col.invariant
