use Rattle.std.proofs.Common.{ap, ◌∙◌}
use Rattle.std.proofs.lemmas.Result.{on_ok_weaker}
use Rattle.edit_log.specs.Changes.{with_changes}
use Rattle.sheet_undo.proofs.Going.{grid_joined}
use Rattle.sheet_undo.specs.inner.Changes.{gone_of}
use Rattle.sheet_undo.proofs.changes.CellChanges.make.Goals as goal

pub returns : goal.returns
returns c = on_ok_weaker c.make_all.result
    (λ e. e ∙ ap (with_changes c.clear_all.new.store) c.as_slice-2.ensures.value
    ∙ grid_joined c.args.store.now c.clear_all.new.store (gone_of c.self.inside.gone.items)
    c.self.inside.others.items
    (c.clear_all.ensures ∙ ap (λ cs. with_changes c.args.store.now (gone_of cs)) c.as_slice.ensures.value)
    ∙ ap (with_changes c.args.store.now) c.self.view_is) c.make_all.ensures.ok
