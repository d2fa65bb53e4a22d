use Rattle.std.proofs.Common.{ap, rules, ◌∙◌}
use Rattle.work_sheet.specs.Sheets.{Worksheet}
use Rattle.work_sheet.proofs.sheet.WorksheetOf.delete_name.Goals as goal

pub returns-clause-did : goal.returns-clause-did
returns-clause-did g c = λ n. record {
  sheet = search rules;
  work = search rules;
  history =
      c.in-Ok.ensures.free c.self.inside.store c.delete.new.self ∙ ap (λ (w : Worksheet). w.history) c.self.view_is;
}
