use Rattle.std.proofs.Common.{ap, ◌∙◌}
use Rattle.std.specs.FinMap.{entries}
use Rattle.sheet_shifts.specs.inner.Puts.{first_pushed_at}
use Rattle.sheet_shifts.proofs.Listed.{all_held, all_states, first_listed}
use Rattle.sheet_shifts.proofs.pushing.first_pushed.Goals as goal

pub returns-in-Ok : goal.returns-in-Ok
returns-in-Ok c =
    let m = c.args.store.now.cells in
    c.first_pushed_at.ensures ∙ ap (first_pushed_at c.args.change m) (c.as_slice.ensures ∙ c.in-Ok.ensures)
    ∙ first_listed c.args.change c.leaving.result c.leaving.ensures m (entries m) (all_held m c.are_held.ensures)
    (all_states m)
