use Rattle.std.proofs.Common.{◌≡◌, ◌&&◌, ◌∙◌, Bool, IfOk, subst, sym}
use Rattle.sheet_undo.proofs.Tests.{entry_told}
use Rattle.sheet_undo.specs.inner.Same.{same_state}
use Rattle.sheet_undo.proofs.cells.is_same_entry.Goals as goal

pub returns-then-is_same_cell : goal.returns-then-is_same_cell
returns-then-is_same_cell c =
    let one = c.args.one.now in
    let other = c.args.other.now in
    entry_told c.is_same_state.result c.args.cell c.args.place one other c.is_on_sheet.ensures c.is_written.ensures
    c.is_written-2.ensures
    (subst (λ (p : Bool). IfOk c.is_same_state.result (λ same. same ≡ p && same_state c.args.cell one other))
    (sym c.if-is_same_cell.true ∙ c.is_same_cell.ensures) c.is_same_state.ensures)
