use Rattle.std.proofs.Common.{sym, ◌∙◌}
use Rattle.wk1_file.proofs.Columns.{marked_next, none_marked, unmarked_next}
use Rattle.wk1_file.proofs.put_settings.last_by_column.Goals.{then-is_marked, else-is_marked}
use Rattle.wk1_file.proofs.put_settings.last_by_column.Goals as goal

pub loop-col-init : goal.loop-col-init
loop-col-init c = sym (none_marked c.args.store.now)

pub loop-col-preserved : goal.loop-col-preserved
loop-col-preserved c =
    let g = c.args.store.now in
    let k = c.loop-col.col in
    elim c.if-is_marked.branch [
      | then-is_marked w ↦ w.last-is ∙ sym (marked_next g k (sym c.is_marked.ensures ∙ w.if-is_marked.true))
      | else-is_marked w ↦
          w.last-is ∙ c.loop-col.invariant ∙ sym (unmarked_next g k (sym c.is_marked.ensures ∙ w.if-is_marked.false))
    ]
