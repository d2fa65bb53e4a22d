use Rattle.std.specs.Prelude.{[], ◌∷◌, List}
use Rattle.std.proofs.Common.{ap, sym, ◌∙◌}
use Rattle.std.proofs.lemmas.Result.{on_ok_weaker}
use Rattle.commands_data.proofs.Behind.{held_behind}
use Rattle.commands_data.proofs.Turned.{table_taken, table_written}
use Rattle.commands_data.specs.inner.Benched.{contents_behind}
use Rattle.commands_data.specs.Trying.{content_at, value_in}
use Rattle.data_blocks.specs.Tables.{scenarios_two, Scenario}
use Rattle.grid_address.specs.Place.{Place}
use Rattle.sheet_store.specs.declared.writes.Write.{Write}
use Rattle.work_sheet.specs.Seen.{of_worksheet, Sheet}
use Rattle.commands_data.proofs.making.make_two.Goals as goal

pub table_two-requires-clause-old : goal.table_two-requires-clause-old
table_two-requires-clause-old c =
    let held = content_at c.args.sheet.now.grid in
    sym (ap (λ (w : List Write). contents_behind w held) c.in_ok-kept.ensures
    ∙ held_behind (c.args.down ∷ c.args.across ∷ []) held)

pub returns-in-Ok : goal.returns-in-Ok
returns-in-Ok c =
    let s : Sheet = of_worksheet c.args.sheet.now in
    let scene = c.args.scene.now in
    let inputs : List Place = c.args.down ∷ c.args.across ∷ [] in
    let scenarios : List Scenario = scenarios_two c.args.span c.args.down c.args.across (value_in s) in
    let bench = c.table_two.new.bench in
    let was = table_taken inputs scenarios _ bench c.in-Ok.writes c.in-Ok.ensures.table c.in_ok-kept.ensures in
    let same_sheet = sym was.0.sheet in
    let same_tally = sym was.0.tally in
    on_ok_weaker c.write_out.result
    (table_written inputs scenarios scene c.args.sheet.now bench.sheet.now _ c.write_out.new.sheet c.in-Ok.writes
    c.args.tally.now.count bench.tally.now _ c.write_out.new.tally.count was.0.did was.1
    (c.sheet-1.given.1 same_sheet) (c.tally-1.given.1 same_tally)) c.write_out.ensures.did
