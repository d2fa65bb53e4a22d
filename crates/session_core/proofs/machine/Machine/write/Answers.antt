use Rattle.std.proofs.Common.{rules}
use Rattle.session_core.proofs.machine.Machine.write.Goals as goal

pub returns : goal.returns
returns c = record { state = search rules; work = search rules; ends = search rules }
