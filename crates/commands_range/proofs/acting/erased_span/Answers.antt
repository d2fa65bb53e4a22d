use Rattle.std.specs.Prelude.{refl}
use Rattle.std.proofs.lemmas.Result.{IfOk-weaker}
use Rattle.command_desk.proofs.Edited.{edit_acted}
use Rattle.grid_address.specs.Place.{is_within}
use Rattle.recalculation.proofs.Filled.{has_cells, span_ascends}
use Rattle.formula_parts.specs.Outlook.{cells_of}
use Rattle.work_sheet.specs.Editing.{erased}
use Rattle.commands_range.proofs.acting.erased_span.Goals as goal

pub returns : goal.returns
returns c =
    let span = c.args.span in
    IfOk-weaker c.settled.result _ _
    (λ end settles. record {
      same = record { sheet = refl; scene = refl; tally = refl };
      acted =
          edit_acted (cells_of span) (is_within span) (span_ascends span) (has_cells span) (erased span)
          c.args.work.now.scene.now
          c.args.work.now.sheet.now c.erase-answer.new.self c.settled.new.sheet c.args.work.now.tally.now.count
          c.settled.new.tally.count
          c.erase-answer.result end c.erase-answer.ensures.answer c.erase-answer.ensures.did c.erase-answer.ensures.err
          settles;
    })
    c.settled.ensures
