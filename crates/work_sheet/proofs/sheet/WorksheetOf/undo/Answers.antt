use Rattle.std.specs.Prelude.{option_map, refl, true}
use Rattle.std.proofs.Common.{ap, subst, sym, ◌∙◌}
use Rattle.sheet_undo.specs.Histories.{latest}
use Rattle.sheet_undo.specs.inner.Keeping.{history_of, sheet_of, Past}
use Rattle.work_sheet.proofs.Undone.{latest_undone}
use Rattle.work_sheet.specs.Kept.{Undoes}
use Rattle.work_sheet.specs.Sheets.{Worksheet}
use Rattle.work_sheet.proofs.sheet.WorksheetOf.undo.Goals as goal

pub returns-clause-sheet : goal.returns-clause-sheet
returns-clause-sheet g c =
    subst (λ (w : Worksheet). Undoes c.args.self.now.history.kept true c.args.self.now w) (sym c.replace.ensures.after)
    (latest_undone c.args.self.now.history.kept (sheet_of c.in-Some.state) c.args.self.now _
    (sym (ap (option_map sheet_of) c.in-Some.is) ∙ c.in_ok-latest.ensures
    ∙ ap (λ (w : Worksheet). latest w.history.kept) c.self.view_is)
    refl c.in_ok-dirty.ensures.members c.len.ensures.unique
    (λ s rest is grid names.
    ap (λ (p : Past). history_of p c.in-Some.state.saved.store c.in-Some.state.saved.names) c.replace-past.ensures.value
    ∙ c.drop_latest.ensures c.self.inside.store c.in-Some.state.saved.store c.self.inside.names
    c.in-Some.state.saved.names s rest
    (ap (λ (w : Worksheet). w.history.kept) c.self.view_is ∙ is) grid names))
