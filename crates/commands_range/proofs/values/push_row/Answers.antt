use Rattle.std.specs.Prelude.{ℕ, ◌+◌}
use Rattle.commands_range.proofs.Valued.{none_of_row, pushed}
use Rattle.command_desk.specs.Writing.{sight_in}
use Rattle.commands_range.specs.Valued.{value_of}
use Rattle.formula_parts.specs.Outlook.{Sight}
use Rattle.grid_address.specs.Place.{Place}
use Rattle.sheet_store.specs.declared.writes.Write.{Write}
use Rattle.work_sheet.specs.Seen.{of_worksheet}
use Rattle.commands_range.proofs.values.push_row.Goals as goal

pub loop-across-init : goal.loop-across-init
loop-across-init c =
    let sight : Sight = sight_in (of_worksheet c.args.sheet.now) in
    let f : Place → Write = value_of c.args.copy.now sight in (
      none_of_row f c.args.writes.now (c.args.copy.now.target.first.row + c.args.down) c.args.copy.now.target.first.col,
      c.width-width.ensures.width,
    )

pub loop-across-preserved : goal.loop-across-preserved
loop-across-preserved c =
    let sight : Sight = sight_in (of_worksheet c.args.sheet.now) in
    let f : Place → Write = value_of c.args.copy.now sight in
    let row : ℕ = c.args.copy.now.target.first.row + c.args.down in (
      pushed f c.args.writes.now c.loop-across.writes c.push_value.new.writes row c.args.copy.now.target.first.col
          c.loop-across.across
          c.loop-across.invariant.0 c.in_ok-push_value.ensures,
      c.loop-across.invariant.1,
    )
