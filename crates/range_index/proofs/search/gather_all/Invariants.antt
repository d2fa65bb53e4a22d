use Rattle.std.specs.FinMap.{from_entries}
use Rattle.range_index.specs.inner.Registered.{AreFoundOrCome, AreOwners}
use Rattle.range_index.proofs.search.gather_all.Given as goal

abbrev pub invariant-loop-size : goal.invariant-loop-size
invariant-loop-size l = record {
  owners : AreOwners (from_entries l.owners.entries) l.cell l.found.keys;
  left : AreFoundOrCome
      (from_entries l.owners.entries) l.cell l.registrations.keys l.sizes.keys l.found.keys l.size-iterator;
}
