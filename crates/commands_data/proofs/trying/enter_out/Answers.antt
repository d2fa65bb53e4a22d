use Rattle.std.specs.Prelude.{◌≡◌}
use Rattle.std.proofs.lemmas.Result.{on_ok_weaker}
use Rattle.commands_data.proofs.Entered.{always, entered_holds, entered_same, recalculated_same, settings_kept}
use Rattle.formula_eval.specs.Mean.{mean}
use Rattle.sheet_edits.specs.Edits.{just}
use Rattle.work_sheet.proofs.Done.{did_both}
use Rattle.work_sheet.specs.Doing.{recalculated, with_content}
use Rattle.work_sheet.specs.Seen.{of_worksheet}
use Rattle.commands_data.proofs.trying.enter_out.Goals as goal

pub returns-in-Ok-clause-did : goal.returns-in-Ok-clause-did
returns-in-Ok-clause-did c =
    let m = c.args.tally.now.count in
    on_ok_weaker c.calc.result
    (did_both (with_content c.args.cell c.args.content (of_worksheet c.args.sheet.now))
    (recalculated mean c.args.scene.now)
    c.args.sheet.now c.enter.new.self c.calc.new.self m m c.calc.new.tally.count (c.in-Ok.ensures.did m))
    c.calc.ensures.did

pub returns-in-Ok-clause-entered : goal.returns-in-Ok-clause-entered
returns-in-Ok-clause-entered c =
    always c.calc.result (entered_holds c.args.cell c.args.content c.args.sheet.now c.enter.new.self c.calc.new.self
    c.in-Ok.ensures.did c.calc.ensures.contents)

pub returns-in-Ok-clause-same : goal.returns-in-Ok-clause-same
returns-in-Ok-clause-same c =
    let settings : c.calc.new.self.settings ≡ c.enter.new.self.settings =
    settings_kept c.calc.result c.args.scene.now c.enter.new.self c.calc.new.self c.args.tally.now.count
    c.calc.new.tally.count c.calc.ensures.did c.calc.ensures.err in
    recalculated_same (just c.args.cell) c.args.sheet.now c.enter.new.self c.calc.new.self
    (entered_same c.args.cell c.args.content c.args.sheet.now c.enter.new.self c.in-Ok.ensures.did)
    c.calc.ensures.contents settings
