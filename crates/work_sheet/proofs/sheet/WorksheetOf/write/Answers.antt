use Rattle.std.specs.Prelude.{List, OnOk}
use Rattle.std.proofs.Common.{arith, subst, sym}
use Rattle.grid_address.specs.Place.{same_place}
use Rattle.cell_maps.specs.Sets.{has}
use Rattle.sheet_edits.specs.Spans.{written_cells, IsAnswered}
use Rattle.sheet_store.specs.declared.writes.Write.{Write}
use Rattle.work_sheet.proofs.Alone.{alone}
use Rattle.work_sheet.specs.Did.{DidEdit}
use Rattle.work_sheet.specs.Editing.{all_written}
use Rattle.work_sheet.proofs.sheet.WorksheetOf.write.Goals as goal

pub returns-in-Some-clause-answer : goal.returns-in-Some-clause-answer
returns-in-Some-clause-answer g c =
    subst (λ (ws : List Write). IsAnswered c.args.self.now.settings c.args.self.now.grid
    (has same_place (written_cells ws)) c.write_one.result)
    (sym (alone c.args.writes.now c.in-Some.write.now c.in-Some.ensures.some.1
    (omega (arith, c.len.ensures, c.if-len-eq1.true)))) c.write_one.ensures.answer

pub returns-in-Some-clause-did : goal.returns-in-Some-clause-did
returns-in-Some-clause-did g c =
    subst (λ (ws : List Write). OnOk c.write_one.result (DidEdit (all_written ws) c.args.self.now c.write_one.new.self))
    (sym (alone c.args.writes.now c.in-Some.write.now c.in-Some.ensures.some.1
    (omega (arith, c.len.ensures, c.if-len-eq1.true)))) c.write_one.ensures.did
