use Rattle.work_sheet.proofs.OneWork.{one_work}
use Rattle.work_sheet.proofs.work.what_happened_tells_the_work.Goals as goal

pub returns : goal.returns
returns c = one_work
