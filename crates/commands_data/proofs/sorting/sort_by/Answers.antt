use Rattle.std.specs.Prelude.{◌≡◌, Bool, false, List, Ok, if◌then◌else◌}
use Rattle.std.proofs.Common.{rules, subst, sym, ◌∙◌}
use Rattle.std.proofs.lemmas.Result.{IfOk-weaker}
use Rattle.command_desk.specs.Acting.{refused, HasActed}
use Rattle.command_desk.specs.Writing.{sight_in}
use Rattle.commands_data.proofs.Made.{always_answered}
use Rattle.commands_data.specs.Commands.{put_in_order}
use Rattle.data_blocks.specs.Sorting.{rows_sorted}
use Rattle.data_blocks.specs.declared.fault.BlockFault.TheVariants as fault
use Rattle.desk_errors.specs.declared.error.CommandError.TheVariants as error
use Rattle.sheet_store.specs.declared.writes.Write.{Write}
use Rattle.work_sheet.specs.Seen.{of_worksheet, Sheet}
use Rattle.commands_data.proofs.sorting.sort_by.Goals as goal

pub returns : goal.returns
returns c =
    let s : Sheet = of_worksheet c.args.sheet.now in
    let rows : List Write = rows_sorted (sight_in s) c.args.range c.args.keys.now in
    let inside : c.any_outside.result ≡ false = search rules in
    IfOk-weaker c.make_block.result _ _
    (λ end acts. subst (λ (b : Bool). HasActed (if b then refused error.KeyOutside s
    else put_in_order c.args.range c.args.keys.now c.args.scene.now s) end
    c.args.sheet.now c.make_block.new.sheet c.args.tally.now.count c.make_block.new.tally.count)
    (sym inside ∙ c.any_outside.ensures)
    (acts (Ok rows)
    (always_answered fault.Memory rows c.sort_rows-answer.result c.sort_rows-answer.ensures.rows
    c.sort_rows-answer.ensures.fault)))
    c.make_block.ensures
