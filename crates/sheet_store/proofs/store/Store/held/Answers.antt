use Rattle.std.proofs.Common.{ap, ◌∙◌}
use Rattle.sheet_store.proofs.store.Store.held.Goals as goal

pub returns : goal.returns
returns c = c.held.ensures.items ∙ ap (λ g. g.cells) c.self.view_is
