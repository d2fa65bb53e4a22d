use Rattle.std.specs.Prelude.{◌≡◌, refl, List}
use Rattle.std.proofs.Common.{ap, subst, sym, ◌∙◌}
use Rattle.std.proofs.lemmas.Result.{IfOk-weaker}
use Rattle.recalculation.specs.inner.Laws.{Ascends}
use Rattle.command_desk.proofs.Edited.{edit_acted}
use Rattle.command_desk.specs.Acting.{written, HasActed}
use Rattle.commands_range.proofs.Relabelled.{relabelled_ascend}
use Rattle.commands_range.specs.Commands.{relabelled}
use Rattle.grid_address.specs.Place.{same_place}
use Rattle.cell_maps.specs.Sets.{has}
use Rattle.sheet_edits.specs.Spans.{written_cells}
use Rattle.sheet_store.specs.Grid.{Grid}
use Rattle.sheet_store.specs.declared.writes.Write.{Write}
use Rattle.work_sheet.specs.Editing.{all_written}
use Rattle.work_sheet.specs.Seen.{of_worksheet, Sheet}
use Rattle.commands_range.proofs.labels.labelled_span.Goals as goal

pub returns : goal.returns
returns c =
    let grid : Grid = c.args.work.now.sheet.now.grid in
    let writes : List Write = c.in_ok-writes.writes in
    let s : Sheet = of_worksheet c.args.work.now.sheet.now in
    let is : writes ≡ relabelled c.args.prefix c.args.span grid =
    c.in_ok-writes.ensures ∙ ap (relabelled c.args.prefix c.args.span) c.cells.ensures in
    let ascends : Ascends (written_cells writes) =
    subst (λ (l : List Write). Ascends (written_cells l)) (sym is) (relabelled_ascend c.args.prefix c.args.span grid) in
    IfOk-weaker c.settled.result _ _
    (λ end settles. record {
      same = record { sheet = refl; scene = refl; tally = refl };
      acted = subst
          (λ (l : List Write). HasActed (written (written_cells l) (all_written l s) c.args.work.now.scene.now s) end
          c.args.work.now.sheet.now c.settled.new.sheet c.args.work.now.tally.now.count c.settled.new.tally.count) is
          (edit_acted (written_cells writes) (has same_place (written_cells writes)) ascends (λ x. refl)
          (all_written writes) c.args.work.now.scene.now
          c.args.work.now.sheet.now c.write-answer.new.self c.settled.new.sheet c.args.work.now.tally.now.count
          c.settled.new.tally.count
          c.write-answer.result end c.write-answer.ensures.answer c.write-answer.ensures.did c.write-answer.ensures.err
          settles);
    })
    c.settled.ensures
