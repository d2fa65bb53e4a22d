use Rattle.std.proofs.Common.{◌≡◌, ◌++◌}
use Rattle.std.specs.Prelude.{flat_map}
use Rattle.sheet_listing.specs.Listed.{name_line, name_lines}
use Rattle.sheet_listing.specs.Waiting.{added}
use Rattle.sheet_listing.proofs.names.list_names.Given as goal

abbrev pub invariant-loop-key : goal.invariant-loop-key
invariant-loop-key g l =
    (added (g.N.Notes.written l.lines) (l.waiting.items ++ flat_map name_line l.key-iterator)
    ≡ added (g.N.Notes.written l.fn.lines) (l.fn.waiting.items ++ name_lines l.names))
    × (g.N.Notes.faults l.lines ≡ g.N.Notes.faults l.fn.lines)
