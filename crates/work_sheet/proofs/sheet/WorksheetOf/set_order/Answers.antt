use Rattle.std.proofs.Common.{rules}
use Rattle.work_sheet.proofs.Done.{reordered_did}
use Rattle.work_sheet.proofs.sheet.WorksheetOf.set_order.Goals as goal

pub returns-clause-did : goal.returns-clause-did
returns-clause-did g c = λ n. reordered_did c.args.self.now _ c.args.order n (search rules) (search rules)
    (search rules) (search rules) (search rules)
