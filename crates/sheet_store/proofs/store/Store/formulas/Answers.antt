use Rattle.std.proofs.Common.{ap, ◌∙◌}
use Rattle.sheet_store.specs.Grid.{formulas_within}
use Rattle.sheet_store.proofs.Grids.{formulas_whole}
use Rattle.sheet_store.proofs.store.Store.formulas.Goals as goal

pub returns : goal.returns
returns c =
    c.in_ok-list.ensures ∙ ap (formulas_within c.args.self.now) c.whole.ensures
    ∙ formulas_whole c.args.self.now.cells c.are_held.ensures
