use Rattle.std.specs.Prelude.{length}
use Rattle.std.proofs.Common.{ap, sym, ◌∙◌}
use Rattle.sheet_undo.proofs.States.{earlier_long}
use Rattle.sheet_undo.specs.inner.Keeping.{base}
use Rattle.work_sheet.specs.Sheets.{Worksheet}
use Rattle.work_sheet.proofs.sheet.WorksheetOf.kept_count.Goals as goal

pub returns-clause-count : goal.returns-clause-count
returns-clause-count g c =
    c.len.ensures.count
    ∙ sym (earlier_long (base c.self.inside.past c.self.inside.store c.self.inside.names) c.self.inside.past.kept)
    ∙ ap (λ (w : Worksheet). length w.history.kept) c.self.view_is
