use Rattle.std.specs.FinMap.{from_entries}
use Rattle.range_index.specs.inner.Registered.{AreAmong, AreFoundOrLeft, AreOwners}
use Rattle.range_index.proofs.search.gather.Given as goal

abbrev pub invariant-loop-registration : goal.invariant-loop-registration
invariant-loop-registration l = record {
  owners : AreOwners (from_entries l.owners.entries) l.cell l.found.keys;
  kept : AreAmong l.fn.found.keys l.found.keys;
  left : AreFoundOrLeft
      (from_entries l.owners.entries) l.cell l.registrations.keys l.block l.found.keys l.registration-iterator;
}
