use Rattle.std.proofs.Common.{◌∙◌, ap}
use Rattle.std.specs.FinMap.{entries}
use Rattle.sheet_store.specs.Grid.{any_state, picked}
use Rattle.sheet_shifts.proofs.Apart.{cells_put_at}
use Rattle.sheet_shifts.proofs.cells.put_cells.Goals as goal

pub returns : goal.returns
returns c =
    let m = c.args.store.now.cells in
    c.in_ok-put_all_at.ensures
    ∙ cells_put_at c.args.shift.now c.requires.shift m c.are_held.ensures c.args.into.now c.as_slice.result.now
    c.requires.none
    (c.as_slice.ensures ∙ c.in_ok-cells.ensures ∙ ap (λ s. picked any_state s (entries m)) c.whole.ensures)
