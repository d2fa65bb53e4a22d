use Rattle.std.proofs.Common.{subst}
use Rattle.sheet_store.specs.Grid.{AreHeld, Grid}
use Rattle.sheet_store.proofs.store.Store.are_held.Goals as goal

pub returns : goal.returns
returns c = subst (λ (g : Grid). AreHeld g.cells) c.self.view_is c.self.invariant.held
