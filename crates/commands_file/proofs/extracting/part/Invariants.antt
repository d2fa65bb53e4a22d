use Rattle.std.proofs.Common.{◌≡◌, length}
use Rattle.commands_file.specs.Extracted.{entries_of, part, with_entries}
use Rattle.commands_file.proofs.Sound.{AreSound}
use Rattle.commands_file.proofs.extracting.part.Given as goal

-- those to come make the part, and have states that a store may have
abbrev pub invariant-loop-entry : goal.invariant-loop-entry
invariant-loop-entry l =
    (with_entries l.into (entries_of l.kind l.span l.store l.entries) ≡ part l.kind l.span l.store) × AreSound l.entries

abbrev pub decreases-loop-entry : goal.decreases-loop-entry
decreases-loop-entry l = length l.entries
