use Rattle.std.proofs.Common.{subst}
use Rattle.formula_parts.specs.inner.Kept.{IsKept}
use Rattle.sheet_store.specs.Grid.{value_at, value_in, Grid}
use Rattle.sheet_store.proofs.store.Store.hand_out.Goals as goal

pub returns-clause-kept : goal.returns-clause-kept
returns-clause-kept c =
    subst (λ (g : Grid). IsKept c.self.inside.kept (value_at g)) c.self.view_is c.self.invariant.found

pub invariant_of-self : goal.invariant_of-self
invariant_of-self c =
    record { held = c.self.invariant.held; found = c.new-self-inside.ensures (value_in c.self.inside.cells) }
