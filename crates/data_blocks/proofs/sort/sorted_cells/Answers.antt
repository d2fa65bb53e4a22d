use Rattle.std.proofs.Common.{List, is_lt, subst}
use Rattle.std.specs.List.Sorted.{IsStableBy}
use Rattle.grid_address.specs.Place.{Place}
use Rattle.data_blocks.specs.Sorting.{order_of_rows}
use Rattle.data_blocks.proofs.sort.sorted_cells.Goals as goal

pub returns-clause-stable : goal.returns-clause-stable
returns-clause-stable g c =
    let values = (g.K.Look.sight c.args.look.now).values in
    subst (λ (l : List Place). IsStableBy
    (λ (p : Place) (q : Place). is_lt (order_of_rows values c.args.keys.now p.row q.row)) l
    c.sort_cells.new.cells.items) c.in_ok-cells.ensures c.in_ok-sort_cells.ensures.stable
