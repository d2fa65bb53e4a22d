use Rattle.std.proofs.Common.{ap, ◌∙◌}
use Rattle.sheet_store.specs.Grid.{last_used}
use Rattle.sheet_store.proofs.Grids.{last_held}
use Rattle.sheet_store.proofs.store.Store.last_used.Goals as goal

pub returns : goal.returns
returns c =
    c.last_of.ensures ∙ last_held c.held.result.now c.self.inside.cells c.held.ensures.items
    ∙ ap last_used c.self.view_is
