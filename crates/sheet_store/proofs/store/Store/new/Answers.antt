use Rattle.std.proofs.Common.{subst, sym}
use Rattle.sheet_store.specs.Grid.{value_in, AreHeld}
use Rattle.sheet_store.proofs.Held.{empty_held}
use Rattle.sheet_store.proofs.store.Store.new.Goals as goal

pub invariant_of-result-2 : goal.invariant_of-result-2
invariant_of-result-2 c = record {
  held = subst AreHeld (sym c.new.ensures) empty_held;
  found = c.new-2.ensures (value_in c.new.result);
}
