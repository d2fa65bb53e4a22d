use Rattle.std.proofs.Common.{subst, sym}
use Rattle.formula_parts.specs.inner.Kept.{IsKept}
use Rattle.sheet_store.specs.Grid.{value_in, Grid}
use Rattle.sheet_store.proofs.store.Store.give_kept.Goals as goal

pub invariant_of-self : goal.invariant_of-self
invariant_of-self c = record {
  held = c.self.invariant.held;
  found = subst (λ (g : Grid). IsKept c.args.kept (value_in g.cells)) (sym c.self.view_is) c.requires;
}
