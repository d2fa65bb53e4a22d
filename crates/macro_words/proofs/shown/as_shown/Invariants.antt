use Rattle.std.proofs.Common.{◌≡◌, map, take}
use Rattle.shown_cells.specs.Cells.{shown_byte}
use Rattle.macro_words.proofs.shown.as_shown.Given as goal

abbrev pub invariant-loop-at : goal.invariant-loop-at
invariant-loop-at l = l.line ≡ map shown_byte (take l.at l.bytes)
