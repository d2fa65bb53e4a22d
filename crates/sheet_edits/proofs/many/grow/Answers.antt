use Rattle.sheet_edits.proofs.Overlaid.{undone}
use Rattle.sheet_edits.proofs.many.grow.Goals as goal

pub returns-clause-err : goal.returns-clause-err
returns-clause-err c = undone c.put_all_new.new.grown c.as_slice.result.now c.args.store.now c.put_all_new.new.store
    c.clear_all.new.store c.put_all_new.ensures.grown c.as_slice.ensures c.clear_all.ensures.cells
    c.clear_all.ensures.widths c.clear_all.ensures.hidden
