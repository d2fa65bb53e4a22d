use Rattle.std.specs.Prelude.{[]}
use Rattle.std.specs.FinMap.{from_entries}
use Rattle.range_index.specs.inner.Registered.{AreFoundOrCome}
use Rattle.range_index.proofs.search.has_owner.Given as goal

abbrev pub invariant-loop-size : goal.invariant-loop-size
invariant-loop-size l =
    AreFoundOrCome (from_entries l.owners.entries) l.cell l.registrations.keys l.sizes.keys [] l.size-iterator
