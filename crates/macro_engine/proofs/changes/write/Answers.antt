use Rattle.std.specs.Prelude.{refl}
use Rattle.std.proofs.lemmas.Result.{IfOk-weaker}
use Rattle.grid_address.specs.Place.{same_place}
use Rattle.macro_words.specs.declared.running.Change.TheVariants as change
use Rattle.cell_maps.specs.Sets.{has}
use Rattle.sheet_edits.specs.Spans.{written_cells}
use Rattle.work_sheet.specs.Editing.{all_written}
use Rattle.macro_engine.proofs.Carrying.{edit_carried}
use Rattle.macro_engine.proofs.Writing.{covered, told_of_writes}
use Rattle.macro_engine.proofs.changes.write.Goals as goal

pub returns-clause-carried : goal.returns-clause-carried
returns-clause-carried c = IfOk-weaker c.settled.result _ _
    (λ cell settles. edit_carried (change.Write c.args.writes.now) (written_cells c.args.writes.now)
    (has same_place (written_cells c.args.writes.now)) (λ x. refl)
    (all_written c.args.writes.now) c.args.scene.now c.args.sheet.now c.write-answer.new.self c.settled.new.sheet
    c.args.tally.now.count c.settled.new.tally.count refl refl c.write-answer.result cell c.write-answer.ensures.answer
    c.write-answer.ensures.did c.write-answer.ensures.err settles)
    c.settled.ensures

-- the rows that are told cover the writes
pub returns-clause-rows : goal.returns-clause-rows
returns-clause-rows c = IfOk-weaker c.settled.result _ _
    (λ cell settles. told_of_writes c.args.scene.now c.args.writes.now c.args.sheet.now c.write-answer.new.self
    c.settled.new.sheet c.args.tally.now.count c.settled.new.tally.count c.rows_behind.result c.write-answer.result cell
    (covered c.args.writes.now c.write-answer.new.self c.rows_behind.result c.rows_behind.ensures)
    c.write-answer.ensures.did c.write-answer.ensures.err settles)
    c.settled.ensures
