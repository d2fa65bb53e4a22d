use Rattle.std.proofs.Common.{◌≡◌}
use Rattle.std.specs.VecDeque.Iter.{deque_iter_rest}
use Rattle.outside_world.specs.Journal.{files_of}
use Rattle.outside_world.specs.Shelf.{file_in}
use Rattle.outside_world.proofs.map_shelf.held.Given as goal

abbrev pub invariant-loop-entry : goal.invariant-loop-entry
invariant-loop-entry l =
    file_in l.name (files_of l.journal.items) ≡ file_in l.name (files_of (deque_iter_rest l.entry-iterator))
