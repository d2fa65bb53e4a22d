use Rattle.std.specs.Prelude.{[]}
use Rattle.std.specs.FinMap.{from_entries}
use Rattle.range_index.specs.inner.Registered.{AreFoundOrLeft}
use Rattle.range_index.proofs.search.has_owner_in.Given as goal

abbrev pub invariant-loop-registration : goal.invariant-loop-registration
invariant-loop-registration l =
    AreFoundOrLeft (from_entries l.owners.entries) l.cell l.registrations.keys l.block [] l.registration-iterator
