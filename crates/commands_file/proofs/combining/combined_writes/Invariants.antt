use Rattle.std.proofs.Common.{◌≡◌, ◌++◌, length}
use Rattle.std.specs.FinMap as map
use Rattle.std.specs.List.{list_any}
use Rattle.std.specs.Prelude.{flat_map}
use Rattle.commands_file.specs.Combined.{combined_writes, leaves_sheet, write_of}
use Rattle.commands_file.proofs.combining.combined_writes.Given as goal

-- what was added, and what is made of those to come, is what is made of all; and those to come tell what all tell
abbrev pub invariant-loop-entry : goal.invariant-loop-entry
invariant-loop-entry l =
    (l.writes ++ flat_map (write_of l.kind l.sheet l.pointer) l.entries
    ≡ combined_writes l.kind l.file l.sheet l.pointer)
    × (list_any (leaves_sheet l.kind l.pointer) l.entries
    ≡ list_any (leaves_sheet l.kind l.pointer) (map.entries l.file.cells))

abbrev pub decreases-loop-entry : goal.decreases-loop-entry
decreases-loop-entry l = length l.entries
