use Rattle.std.proofs.Common.{◌≡◌, length}
use Rattle.std.specs.Option.{option_or}
use Rattle.macro_words.specs.Rows.{present_call}
use Rattle.macro_words.proofs.define.present_call.Given as goal

abbrev pub invariant-loop-frames : goal.invariant-loop-frames
invariant-loop-frames l = option_or (present_call l.frames) l.found ≡ present_call l.fn.frames

abbrev pub decreases-loop-frames : goal.decreases-loop-frames
decreases-loop-frames l = length l.frames
