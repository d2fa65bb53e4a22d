use Rattle.std.proofs.Common.{ap}
use Rattle.edit_log.proofs.AtOnce.{none_listed}
use Rattle.edit_log.proofs.log.EditLog.new.Goals as goal

pub invariant_of-result : goal.invariant_of-result
invariant_of-result c = none_listed c.new-2.result.keys c.new.result.items c.new-2.ensures c.new.ensures.items
