use Rattle.std.proofs.Common.{◌<◌, ◌+◌, ◌-◌, ◌++◌, List, sym, ap, ◌∙◌, arith}
use Rattle.formula_tree.specs.Seen.{seen_value}
use Rattle.formula_parts.specs.declared.items.Item.{Item}
use Rattle.record_match.specs.Criteria.{record_matches}
use Rattle.record_match.specs.Databases.{record_items}
use Rattle.formula_parts.specs.Standpoints.{outlook_from}
use Rattle.record_match.proofs.Columns.{behind, behind_all, no_record, pass_record, put_record}
use Rattle.record_match.proofs.records.items_of_records.Goals as goal
use Rattle.record_match.proofs.records.items_of_records.Goals.{then-found+in_ok-put_cell, else-found}

pub loop-place-init : goal.loop-place-init
loop-place-init g c =
    let outlook = outlook_from g.K.Look c.args.from.now in
    let values = outlook.sight.values in
    let input = c.args.query.now.input in
    let test = record_matches outlook input c.args.query.now.criterion in
    ap (λ (l : List Item). l
    ++ behind values c.args.col test (input.first.row + 1) (input.last.row - input.first.row) 0)
    c.new-items.ensures.items
    ∙ behind_all values c.args.col test (input.first.row + 1) (input.last.row - input.first.row)

pub loop-place-preserved : goal.loop-place-preserved
loop-place-preserved g c =
    let outlook = outlook_from g.K.Look c.args.from.now in
    let values = outlook.sight.values in
    let input = c.args.query.now.input in
    let col = c.args.col in
    let test = record_matches outlook input c.args.query.now.criterion in
    let all = record_items outlook input c.args.query.now.criterion col in
    let n = input.first.row + 1 in
    let count = input.last.row - input.first.row in
    let place = c.loop-place.place in
    let row = c.row_below-row.result in
    let inside : place < count = omega (arith, c.loop-place-test.true, c.count_below-place-end.ensures.count) in
    elim c.if-found.branch [
      | then-found+in_ok-put_cell w ↦
          put_record values col test n count place row c.loop-place.items.items c.if-found.items.items all
          (seen_value w.value.result) inside c.row_below-row.ensures.row (sym c.in_ok-found.ensures ∙ w.if-found.true)
          w.value.ensures (ap (λ v. v.items) w.items-is ∙ w.in_ok-put_cell.ensures) c.loop-place.invariant
      | else-found w ↦
          ap (λ v. v.items ++ behind values col test n count (place + 1)) w.items-is
          ∙ pass_record values col test n count place row c.loop-place.items.items all inside
          c.row_below-row.ensures.row (sym c.in_ok-found.ensures ∙ w.if-found.false) c.loop-place.invariant
    ]

pub returns : goal.returns
returns g c =
    let outlook = outlook_from g.K.Look c.args.from.now in
    let input = c.args.query.now.input in
    let test = record_matches outlook input c.args.query.now.criterion in
    no_record outlook.sight.values c.args.col test (input.first.row + 1) (input.last.row - input.first.row)
    c.loop-place.place c.loop-place.items.items (record_items outlook input c.args.query.now.criterion c.args.col)
    (omega (arith, c.loop-place-test.false, c.count_below-place-end.ensures.count)) c.loop-place.invariant
