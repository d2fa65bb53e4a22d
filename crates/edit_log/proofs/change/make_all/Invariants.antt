use Rattle.std.proofs.Common.{◌≡◌, drop, false}
use Rattle.std.specs.FinMap.{get}
use Rattle.edit_log.specs.Changes.{is_noted, with_changes}
use Rattle.grid_address.specs.Place.{Place}
use Rattle.edit_log.proofs.change.make_all.Given as goal

abbrev pub invariant-loop-change : goal.invariant-loop-change
invariant-loop-change l = record {
  rest : with_changes l.store (drop l.change-index l.changes) ≡ with_changes l.fn.store l.changes;
  beside : (q : Place) → is_noted l.changes q ≡ false → get l.store.cells q ≡ get l.fn.store.cells q;
  widths : l.store.widths ≡ l.fn.store.widths;
  hidden : l.store.hidden ≡ l.fn.store.hidden;
}
