use Rattle.std.proofs.Common.{◌+◌, ◌-◌, length, ap, ◌∙◌, arith}
use Rattle.grid_address.specs.Place.{height_of}
use Rattle.data_query.proofs.Records.{moved}
use Rattle.data_query.proofs.deleting.moved_up.Goals as goal

pub rows_copied-requires : goal.rows_copied-requires
rows_copied-requires g c =
    omega (arith, c.requires.some, c.requires.fits, ap height_of c.behind_first.ensures, ap length c.as_slice.ensures)

pub returns : goal.returns
returns g c =
    let input = c.args.input in
    let many = c.len-count.ensures in
    moved (g.K.Look.sight c.args.look.now) input c.behind_first.result c.args.kept.now c.as_slice.result.now
    c.row_below-first.result (c.count_below.result - c.len-count.result) c.in_ok-writes.writes
    c.push_rows_erased.new.writes
    c.behind_first.ensures c.as_slice.ensures c.in_ok-writes.ensures
    (c.row_below-first.ensures.row ∙ ap (λ k. input.first.row + 1 + k) many)
    (ap (λ k. k - c.len-count.result) c.count_below.ensures.count
    ∙ ap (λ k. input.last.row - input.first.row - k) many) c.in_ok-push_rows_erased.ensures
