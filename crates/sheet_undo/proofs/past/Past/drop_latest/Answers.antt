use Rattle.std.specs.Prelude.{drop, false}
use Rattle.std.proofs.Common.{ap, ◌∙◌}
use Rattle.sheet_undo.proofs.Pasts.{latest_dropped}
use Rattle.sheet_undo.specs.inner.Keeping.{history_of, Past}
use Rattle.sheet_undo.specs.contracts.past.Past.{the_view}
use Rattle.sheet_undo.proofs.past.Past.drop_latest.Goals as goal

pub returns : goal.returns
returns c = λ old new before after s kept e g k.
    ap (λ (p : Past). history_of (record p { is_begun = false }) new after) (c.self-2.view_is ∙ c.forget.ensures)
    ∙ latest_dropped c.args.self.now (the_view (record c.self.inside { kept = c.drop_first.new.kept })) old new before
    after s kept
    (c.drop_first.ensures ∙ ap (λ (p : Past). drop 1 p.kept) c.self.view_is) e g k
