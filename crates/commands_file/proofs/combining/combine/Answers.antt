use Rattle.std.specs.Prelude.{◌≡◌, false, refl, List}
use Rattle.std.specs.FinMap as map
use Rattle.std.specs.List.{list_any}
use Rattle.std.proofs.Common.{ap, rules, subst, sym, ◌∙◌}
use Rattle.recalculation.specs.inner.Laws.{Ascends}
use Rattle.std.proofs.lemmas.Result.{IfOk-weaker}
use Rattle.command_desk.proofs.Edited.{edit_acted}
use Rattle.command_desk.specs.Acting.{HasActed}
use Rattle.commands_file.proofs.Leaving.{written_acts}
use Rattle.commands_file.proofs.Placing.{combined_ascend}
use Rattle.commands_file.specs.Combined.{combined_writes, leaves_sheet, made}
use Rattle.grid_address.specs.Place.{same_place, Place}
use Rattle.cell_maps.specs.Sets.{has}
use Rattle.sheet_edits.specs.Spans.{written_cells}
use Rattle.sheet_store.specs.Grid.{Grid}
use Rattle.sheet_store.specs.declared.writes.Write.{Write}
use Rattle.work_sheet.specs.Editing.{all_written}
use Rattle.work_sheet.specs.Seen.{of_worksheet, Sheet}
use Rattle.commands_file.proofs.combining.combine.Goals as goal

pub returns-in-Some : goal.returns-in-Some
returns-in-Some c =
    let s : Sheet = of_worksheet c.args.sheet.now in
    let file : Grid = c.args.file.now in
    let kind = c.args.kind in
    let writes : List Write = c.in-Some.writes in
    let inside : list_any (leaves_sheet kind c.pointer_of-pointer.result) (map.entries file.cells) ≡ false =
    search rules in
    let made_of : writes ≡ combined_writes kind file c.cells.result.now c.pointer_of-pointer.result = search rules in
    let is : writes ≡ combined_writes kind file s.grid s.settings.pointer =
    made_of ∙ ap (λ (g : Grid). combined_writes kind file g c.pointer_of-pointer.result) c.cells.ensures
    ∙ ap (λ (x : Place). combined_writes kind file s.grid x) c.pointer_of-pointer.ensures in
    let ascends : Ascends (written_cells writes) =
    subst (λ (l : List Write). Ascends (written_cells l)) (sym is)
    (combined_ascend kind s.grid s.settings.pointer file) in
    IfOk-weaker c.settled.result _ _
    (λ end settles. written_acts kind file c.args.scene.now c.args.sheet.now _ _ _ end
    (sym inside
    ∙ ap (λ (x : Place). list_any (leaves_sheet kind x) (map.entries file.cells)) c.pointer_of-pointer.ensures)
    (subst
    (λ (l : List Write). HasActed (made l c.args.scene.now s) end
    c.args.sheet.now c.settled.new.sheet c.args.tally.now.count c.settled.new.tally.count) is
    (edit_acted (written_cells writes) (has same_place (written_cells writes)) ascends (λ x. refl) (all_written writes)
    c.args.scene.now
    c.args.sheet.now c.write-answer.new.self c.settled.new.sheet c.args.tally.now.count c.settled.new.tally.count
    c.write-answer.result end c.write-answer.ensures.answer c.write-answer.ensures.did c.write-answer.ensures.err
    settles)))
    c.settled.ensures
