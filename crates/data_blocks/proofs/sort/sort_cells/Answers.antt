use Rattle.std.proofs.Common.{rules, is_lt}
use Rattle.std.proofs.lemmas.List.Sorted.{ranks_by}
use Rattle.std.proofs.lemmas.Fn.{always_returns_same}
use Rattle.grid_address.specs.Place.{Place}
use Rattle.data_blocks.specs.Sorting.{order_of_rows}
use Rattle.data_blocks.proofs.Orders.{rows_total}
use Rattle.data_blocks.proofs.sort.sort_cells.Goals as goal

pub returns-clause-stable : goal.returns-clause-stable
returns-clause-stable g c =
    let values = (g.K.Look.sight c.args.look.now).values in
    c.sort_by.ensures.stable (λ (p : Place) (q : Place). is_lt (order_of_rows values c.args.keys.now p.row q.row))
    (ranks_by (rows_total values c.args.keys.now) (λ (p : Place). p.row))
    (always_returns_same _ _ _ (λ a r f k. search rules))

pub returns-clause-ordered : goal.returns-clause-ordered
returns-clause-ordered g c =
    let values = (g.K.Look.sight c.args.look.now).values in
    c.in_ok-sort_by.ensures.sorted
    (λ (p : Place) (q : Place). is_lt (order_of_rows values c.args.keys.now p.row q.row))
    (ranks_by (rows_total values c.args.keys.now) (λ (p : Place). p.row))
    (always_returns_same _ _ _ (λ a r f k. search rules))
