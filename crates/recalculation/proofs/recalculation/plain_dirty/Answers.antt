use Rattle.std.specs.Prelude.{Bool, filter}
use Rattle.std.proofs.Common.{sym, ◌∙◌, ap}
use Rattle.grid_address.specs.Place.{same_place, Place}
use Rattle.cell_maps.specs.Sets.{has}
use Rattle.sheet_store.specs.Grid.{formulas, Grid}
use Rattle.recalculation.proofs.ByColumn.{filter_columns}
use Rattle.recalculation.specs.Reading.{by_columns, plain_order}
use Rattle.recalculation.proofs.recalculation.plain_dirty.Goals as goal

pub returns-clause-list : goal.returns-clause-list
returns-clause-list c =
    let g : Grid = c.args.store.now in
    let dirty : Place → Bool = has same_place c.args.dirty.now.keys in
    c.in_ok-list.ensures.list ∙ ap by_columns (c.as_slice.ensures.value ∙ c.in_ok-cells.ensures)
    ∙ sym (filter_columns dirty (formulas g))
    ∙ ap (λ b. filter dirty (plain_order b g)) (sym c.if-not-is_by_column.false)
