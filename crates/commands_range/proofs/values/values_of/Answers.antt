use Rattle.std.specs.Prelude.{ℕ}
use Rattle.commands_range.proofs.Valued.{joined}
use Rattle.command_desk.specs.Writing.{sight_in}
use Rattle.commands_range.specs.Valued.{value_of}
use Rattle.formula_parts.specs.Outlook.{Sight}
use Rattle.grid_address.specs.Place.{width_of, Place}
use Rattle.sheet_store.specs.declared.writes.Write.{Write}
use Rattle.work_sheet.specs.Seen.{of_worksheet}
use Rattle.commands_range.proofs.values.values_of.Goals as goal

pub loop-down-init : goal.loop-down-init
loop-down-init c = (c.new-writes.ensures, c.height-height.ensures.height)

pub loop-down-preserved : goal.loop-down-preserved
loop-down-preserved c =
    let sight : Sight = sight_in (of_worksheet c.args.sheet.now) in
    let f : Place → Write = value_of c.args.copy.now sight in
    let cols : ℕ = width_of c.args.copy.now.target in (
      joined f c.loop-down.writes c.push_row.new.writes c.args.copy.now.target.first.row
          c.args.copy.now.target.first.col c.loop-down.down cols
          c.loop-down.invariant.0 c.in_ok-push_row.ensures,
      c.loop-down.invariant.1,
    )
