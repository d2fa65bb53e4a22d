use Rattle.std.proofs.Common.{◌≡◌, map, take}
use Rattle.text_channel.specs.Lines.{text_byte}
use Rattle.text_channel.proofs.lines.shown_line.Given as goal

abbrev pub invariant-loop-at : goal.invariant-loop-at
invariant-loop-at l = l.line ≡ map text_byte (take l.at l.bytes)
