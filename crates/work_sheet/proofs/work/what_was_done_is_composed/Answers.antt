use Rattle.work_sheet.proofs.Done.{did_both}
use Rattle.work_sheet.proofs.work.what_was_done_is_composed.Goals as goal

pub returns : goal.returns
returns c = did_both
