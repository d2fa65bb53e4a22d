use Rattle.std.proofs.Common.{sym, ◌∙◌}
use Rattle.wk1_file.proofs.Columns.{no_mark, unmarked_all}
use Rattle.wk1_file.proofs.put_settings.last_marked.Goals as goal

pub returns : goal.returns
returns c =
    let g = c.args.store.now in
    sym (unmarked_all g 256 (λ k less.
    no_mark g k (c.any_width.ensures c.if-any_width.false k less)
    (sym c.any_hidden.ensures ∙ c.if-any_hidden.false)))
