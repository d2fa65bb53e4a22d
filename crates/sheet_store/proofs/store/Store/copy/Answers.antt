use Rattle.std.proofs.Common.{sym, subst}
use Rattle.sheet_store.specs.Grid.{value_in, AreHeld}
use Rattle.sheet_store.proofs.store.Store.copy.Goals as goal

pub invariant_of-result : goal.invariant_of-result
invariant_of-result c = record {
  held = subst AreHeld (sym c.in_ok-cells.ensures) c.self.invariant.held;
  found = c.new.ensures (value_in c.in_ok-cells.cells);
}
