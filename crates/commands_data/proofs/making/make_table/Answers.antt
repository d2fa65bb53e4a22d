use Rattle.std.proofs.Common.{subst, sym, OnOk}
use Rattle.commands_data.specs.TableCommands.{tabled_by}
use Rattle.data_blocks.specs.declared.ranges.LastTable.{LastTable}
use Rattle.work_sheet.specs.Did.{Did}
use Rattle.work_sheet.specs.Seen.{of_worksheet}
use Rattle.commands_data.proofs.making.make_table.Goals as goal

pub returns-in-One : goal.returns-in-One
returns-in-One c =
    subst
    (λ (t : LastTable). OnOk c.make_one.result (Did (tabled_by t c.args.scene.now (of_worksheet c.args.sheet.now))
    c.args.sheet.now c.make_one.new.sheet c.args.tally.now.count c.make_one.new.tally.count)) (sym c.in-One.is)
    c.make_one.ensures

pub returns-in-Two : goal.returns-in-Two
returns-in-Two c =
    subst
    (λ (t : LastTable). OnOk c.make_two.result (Did (tabled_by t c.args.scene.now (of_worksheet c.args.sheet.now))
    c.args.sheet.now c.make_two.new.sheet c.args.tally.now.count c.make_two.new.tally.count)) (sym c.in-Two.is)
    c.make_two.ensures
