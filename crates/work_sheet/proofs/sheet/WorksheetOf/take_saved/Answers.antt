use Rattle.std.proofs.Common.{subst, sym}
use Rattle.work_sheet.specs.Did.{Did}
use Rattle.work_sheet.specs.Editing.{restored}
use Rattle.work_sheet.specs.Seen.{of_worksheet}
use Rattle.work_sheet.specs.Sheets.{Worksheet}
use Rattle.work_sheet.proofs.sheet.WorksheetOf.take_saved.Goals as goal

pub returns-clause-did : goal.returns-clause-did
returns-clause-did g c = λ n. subst
    (λ (w : Worksheet). Did (restored c.args.saved.store c.args.saved.names c.args.saved.settings
    (of_worksheet c.args.self.now)) c.args.self.now w n n)
    (sym c.replace_by.ensures) (c.in_ok-next.ensures c.args.self.now n)
