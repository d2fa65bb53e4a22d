use Rattle.std.specs.Prelude.{[], ◌∷◌, List}
use Rattle.std.proofs.Common.{sym}
use Rattle.std.proofs.lemmas.Result.{on_ok_weaker}
use Rattle.commands_data.proofs.Turned.{table_taken, table_written}
use Rattle.commands_data.specs.Trying.{value_in}
use Rattle.data_blocks.specs.Tables.{scenarios_one, Scenario}
use Rattle.grid_address.specs.Place.{Place}
use Rattle.work_sheet.specs.Seen.{of_worksheet, Sheet}
use Rattle.commands_data.proofs.making.make_one.Goals as goal

pub returns-in-Ok : goal.returns-in-Ok
returns-in-Ok c =
    let s : Sheet = of_worksheet c.args.sheet.now in
    let scene = c.args.scene.now in
    let inputs : List Place = c.args.input ∷ [] in
    let scenarios : List Scenario = scenarios_one c.args.span c.args.input (value_in s) in
    let bench = c.table_one.new.bench in
    let was = table_taken inputs scenarios _ bench c.in-Ok.writes c.in-Ok.ensures.table c.in_ok-kept.ensures in
    let same_sheet = sym was.0.sheet in
    let same_tally = sym was.0.tally in
    on_ok_weaker c.write_out.result
    (table_written inputs scenarios scene c.args.sheet.now bench.sheet.now _ c.write_out.new.sheet c.in-Ok.writes
    c.args.tally.now.count bench.tally.now _ c.write_out.new.tally.count was.0.did was.1
    (c.sheet-1.given.1 same_sheet) (c.tally-1.given.1 same_tally)) c.write_out.ensures.did
