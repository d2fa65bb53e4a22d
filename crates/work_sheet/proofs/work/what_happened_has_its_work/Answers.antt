use Rattle.work_sheet.proofs.EveryLog.{every_log}
use Rattle.work_sheet.proofs.work.what_happened_has_its_work.Goals as goal

pub returns : goal.returns
returns c = every_log
