use Rattle.std.proofs.Common.{◌∙◌, ap}
use Rattle.std.specs.List.{filter}
use Rattle.grid_address.specs.Place.{Place}
use Rattle.formula_tree.specs.Values.{is_filled}
use Rattle.recalculation.proofs.Filled.{filled_is}
use Rattle.sheet_store.specs.Grid.{value_at}
use Rattle.recalculation.proofs.view.ViewLook.filled.Goals as goal

pub returns : goal.returns
returns c = c.in_ok-list.ensures ∙ ap (filter (λ (p : Place). is_filled (value_at c.args.self.now.store.now p)))
    (c.as_slice.ensures ∙ c.in_ok-cells.ensures) ∙ filled_is c.args.self.now.store.now c.args.span
