use Rattle.std.proofs.Common.{List, Bool, false, ◌<◌, length, get_or, ap, ◌∙◌, arith}
use Rattle.sheet_store.specs.declared.writes.SavedSheet.{SavedSheet}
use Rattle.sheet_store.specs.Grid.{set_hidden_of, Grid}
use Rattle.wk1_records.proofs.Marks.{one_mark}
use Rattle.wk1_file.proofs.take.hidden.Goals as goal

pub loop-at-preserved : goal.loop-at-preserved
loop-at-preserved c =
    let bits = c.args.bits.now in
    let old = c.args.sheet.now in
    let at = c.loop-at.at in
    let inside : at < length bits = omega (arith, c.loop-at-test.true, c.told-bits) in
    let there : at < length old.store.hidden = omega (arith, c.loop-at-test.true, c.are_columns.ensures.hidden) in
    ap (λ (g : Grid). record c.loop-at.sheet { store = g }) c.set_hidden.ensures
    ∙ ap (λ (w : SavedSheet). record w { store = set_hidden_of w.store at (get_or bits at false) }) c.loop-at.invariant
    ∙ ap (λ (l : List Bool). record old { store = record old.store { hidden = l } })
    (one_mark bits old.store.hidden at inside there)
