use Rattle.std.proofs.Common.{arith}
use Rattle.screen_show.proofs.recorder.RecorderDisplay.kind.Goals as goal

pub returns-clause-sound : goal.returns-clause-sound
returns-clause-sound c = record { screen = c.is_whole.ensures; puts = omega arith; bytes_put = omega arith }
