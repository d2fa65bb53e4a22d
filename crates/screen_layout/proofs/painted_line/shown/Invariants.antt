use Rattle.std.proofs.Common.{◌≡◌, ◌++◌, take, drop, map}
use Rattle.shown_cells.specs.Cells.{shown_byte}
use Rattle.screen_layout.proofs.painted_line.shown.Given as goal

abbrev pub invariant-loop-column : goal.invariant-loop-column
invariant-loop-column l = l.line ≡ map shown_byte (take l.column l.bytes) ++ drop l.column l.bytes
