use Rattle.std.specs.Prelude.{refl, ◌≡◌, List}
use Rattle.std.proofs.Common.{ap, subst, sym, ◌∙◌}
use Rattle.std.proofs.lemmas.Result.{IfOk-weaker}
use Rattle.recalculation.proofs.Filled.{span_ascends}
use Rattle.recalculation.specs.inner.Laws.{Ascends}
use Rattle.command_desk.proofs.Edited.{edit_acted}
use Rattle.command_desk.specs.Acting.{written, HasActed}
use Rattle.commands_range.proofs.Valued.{written_are}
use Rattle.command_desk.specs.Writing.{sight_in}
use Rattle.commands_range.specs.Valued.{values_of}
use Rattle.grid_address.specs.Place.{same_place, Place}
use Rattle.cell_maps.specs.Sets.{has}
use Rattle.sheet_edits.specs.Spans.{written_cells}
use Rattle.sheet_store.specs.declared.writes.Write.{Write}
use Rattle.formula_parts.specs.Outlook.{cells_of}
use Rattle.work_sheet.specs.Editing.{all_written}
use Rattle.work_sheet.specs.Seen.{of_worksheet, Sheet}
use Rattle.commands_range.proofs.values.valued_into.Goals as goal

pub returns : goal.returns
returns c =
    let s : Sheet = of_worksheet c.args.work.now.sheet.now in
    let writes : List Write = c.in_ok-writes.writes in
    let cells : List Place = cells_of c.args.copy.now.target in
    let are : List Write = values_of c.args.copy.now (sight_in s) in
    let is : writes ≡ are = c.in_ok-writes.ensures in
    let all : written_cells writes ≡ cells =
    ap (λ (l : List Write). written_cells l) is
    ∙ written_are c.args.copy.now (sight_in s) in
    let ascends : Ascends cells = span_ascends c.args.copy.now.target in
    IfOk-weaker c.settled.result _ _
    (λ end settles. record {
      same = record { sheet = refl; scene = refl; tally = refl };
      acted = subst
          (λ (l : List Write). HasActed (written cells (all_written l s) c.args.work.now.scene.now s) end
          c.args.work.now.sheet.now c.settled.new.sheet c.args.work.now.tally.now.count c.settled.new.tally.count) is
          (edit_acted cells (has same_place (written_cells writes)) ascends
          (λ x. ap (λ (l : List Place). has same_place l x) (sym all)) (all_written writes) c.args.work.now.scene.now
          c.args.work.now.sheet.now c.write-answer.new.self c.settled.new.sheet c.args.work.now.tally.now.count
          c.settled.new.tally.count
          c.write-answer.result end c.write-answer.ensures.answer c.write-answer.ensures.did c.write-answer.ensures.err
          settles);
    })
    c.settled.ensures
