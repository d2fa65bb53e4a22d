use Rattle.std.proofs.Common.{ℕ, [], ◌∷◌, ◌++◌, ap, ◌∙◌}
use Rattle.std.specs.Prelude.{Option}
use Rattle.grid_address.specs.Lines.{at}
use Rattle.grid_address.proofs.Numbers.{made_more}
use Rattle.record_match.specs.Fields.{field_named}
use Rattle.record_match.proofs.criteria.fields_of.Goals as goal

pub loop-col-preserved : goal.loop-col-preserved
loop-col-preserved g c =
    let sight = g.K.Look.sight c.args.look.now in
    let now = c.loop-col.fields.items in
    let f = λ (col : ℕ). field_named sight c.args.input (at c.args.criterion.first.row col) in
    made_more f [] now c.push.new.self.items c.args.criterion.first.col c.loop-col.col c.loop-col.invariant
    (c.in_ok-push.ensures.items
    ∙ ap (λ (o : Option ℕ). now ++ o ∷ [])
    (c.field_named.ensures ∙ ap (field_named sight c.args.input) c.header.ensures))
