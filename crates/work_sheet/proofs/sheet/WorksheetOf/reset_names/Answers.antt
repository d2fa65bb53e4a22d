use Rattle.std.proofs.Common.{ap, rules, ◌∙◌}
use Rattle.range_names.specs.Names.{NameMap}
use Rattle.sheet_undo.specs.inner.Keeping.{history_of}
use Rattle.work_sheet.specs.Sheets.{Worksheet}
use Rattle.work_sheet.proofs.sheet.WorksheetOf.reset_names.Goals as goal

pub returns : goal.returns
returns g c = λ n. record {
  sheet = search rules;
  work = search rules;
  history =
      c.take_names.ensures c.self.inside.store c.replace.new.dest
      ∙ ap (λ (names : NameMap). history_of c.self.inside.past c.self.inside.store names) c.replace.ensures.value
      ∙ ap (λ (w : Worksheet). w.history) c.self.view_is;
}
