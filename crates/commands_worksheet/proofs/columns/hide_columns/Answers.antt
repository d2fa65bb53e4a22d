use Rattle.std.proofs.Common.{arith, rules, ◌≡◌, ◌∙◌, ◌+◌, ◌-◌}
use Rattle.commands_worksheet.proofs.Acts.{hidden_all, hidden_more}
use Rattle.commands_worksheet.proofs.columns.hide_columns.Goals as goal

pub loop-col-preserved : goal.loop-col-preserved
loop-col-preserved c =
    let last = c.args.span.last.col in
    let col = c.loop-col.col in
    let last_is : c.from-last.result ≡ last = search rules in
    hidden_more c.loop-col.sheet c.set_hidden.new.self col (last + 1 - (col + 1)) (last + 1 - col) c.args.hidden
    (omega (arith, c.loop-col-test.true, last_is)) c.set_hidden.ensures
    ∙ c.loop-col.invariant

pub returns : goal.returns
returns c =
    let last = c.args.span.last.col in
    let col = c.loop-col.col in
    let last_is : c.from-last.result ≡ last = search rules in
    hidden_all c.args.sheet.now c.loop-col.sheet c.args.span c.args.hidden col (last + 1 - col)
    (omega (arith, c.loop-col-test.false, last_is)) c.loop-col.invariant
