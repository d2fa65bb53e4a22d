use Rattle.std.specs.Prelude.{refl}
use Rattle.std.proofs.lemmas.Result.{IfOk-weaker}
use Rattle.grid_address.specs.Place.{is_within}
use Rattle.macro_words.specs.declared.running.Change.TheVariants as change
use Rattle.recalculation.proofs.Filled.{has_cells}
use Rattle.formula_parts.specs.Outlook.{cells_of}
use Rattle.work_sheet.specs.Editing.{erased}
use Rattle.macro_engine.proofs.Carrying.{edit_carried}
use Rattle.macro_engine.proofs.changes.erase.Goals as goal

pub returns : goal.returns
returns c = IfOk-weaker c.settled.result _ _
    (λ cell settles. edit_carried (change.Erase c.args.span) (cells_of c.args.span) (is_within c.args.span)
    (has_cells c.args.span)
    (erased c.args.span) c.args.scene.now c.args.sheet.now c.erase-answer.new.self c.settled.new.sheet
    c.args.tally.now.count c.settled.new.tally.count refl refl c.erase-answer.result cell c.erase-answer.ensures.answer
    c.erase-answer.ensures.did c.erase-answer.ensures.err settles)
    c.settled.ensures
