use Rattle.std.specs.Prelude.{◌≡◌}
use Rattle.std.proofs.lemmas.Result.{on_ok_weaker}
use Rattle.commands_data.proofs.Entered.{always, recalculated_same, settings_kept, written_holds, written_same}
use Rattle.formula_eval.specs.Mean.{mean}
use Rattle.grid_address.specs.Place.{same_place}
use Rattle.cell_maps.specs.Sets.{has}
use Rattle.sheet_edits.specs.Spans.{written_cells}
use Rattle.work_sheet.proofs.Done.{did_both}
use Rattle.work_sheet.specs.Doing.{recalculated}
use Rattle.work_sheet.specs.Editing.{all_written}
use Rattle.work_sheet.specs.Seen.{of_worksheet}
use Rattle.commands_data.proofs.trying.write_out.Goals as goal

pub returns-in-Ok-clause-did : goal.returns-in-Ok-clause-did
returns-in-Ok-clause-did c =
    let m = c.args.tally.now.count in
    on_ok_weaker c.calc.result
    (did_both (all_written c.args.writes.now (of_worksheet c.args.sheet.now)) (recalculated mean c.args.scene.now)
    c.args.sheet.now c.write.new.self c.calc.new.self m m c.calc.new.tally.count (c.in-Ok.ensures.did m))
    c.calc.ensures.did

pub returns-in-Ok-clause-written : goal.returns-in-Ok-clause-written
returns-in-Ok-clause-written c =
    always c.calc.result (written_holds c.args.writes.now c.args.sheet.now c.write.new.self c.calc.new.self
    c.in-Ok.ensures.did c.calc.ensures.contents)

pub returns-in-Ok-clause-same : goal.returns-in-Ok-clause-same
returns-in-Ok-clause-same c = λ keep.
    let settings : c.calc.new.self.settings ≡ c.write.new.self.settings =
    settings_kept c.calc.result c.args.scene.now c.write.new.self c.calc.new.self c.args.tally.now.count
    c.calc.new.tally.count c.calc.ensures.did c.calc.ensures.err in
    recalculated_same (has same_place (written_cells c.args.writes.now)) c.args.sheet.now c.write.new.self
    c.calc.new.self
    (written_same c.args.writes.now c.args.sheet.now c.write.new.self c.in-Ok.ensures.did keep) c.calc.ensures.contents
    settings
