use Rattle.std.proofs.Common.{ℕ, ◌≡◌, ◌+◌, ◌<◌, sym, ap, subst, ◌∙◌, arith}
use Rattle.std.specs.List.Sorted.{IsPermutation}
use Rattle.grid_address.specs.Place.{height_of, Place}
use Rattle.value_functions.specs.Values.{counted}
use Rattle.block_writes.specs.Writing.{as_content, at, written}
use Rattle.formula_parts.specs.Outlook.{filled}
use Rattle.data_blocks.specs.Distribution.{bin_of, distributed, is_above, is_in_bin, numbers_in}
use Rattle.data_blocks.proofs.Halves.{same_count}
use Rattle.data_blocks.proofs.Shares.{left_last, left_step}
use Rattle.data_blocks.proofs.distributing.distributed.Goals as goal

pub loop-row-preserved : goal.loop-row-preserved
loop-row-preserved g c =
    let sight = g.K.Look.sight c.args.look.now in
    let bins = c.args.bins in
    let numbers = numbers_in sight.values (filled sight.values c.args.values) in
    let inside : c.loop-row.row < height_of bins = omega (arith, c.loop-row-test.true, c.loop-row.invariant.1) in (
      left_step sight.values numbers bins.first.row bins.first.col (height_of bins) c.loop-row.writes c.push.new.self
          (distributed sight c.args.values bins) c.loop-row.row c.share-count.result c.loop-row.before
          c.bin_of-bin.result c.in_ok-count_written.field-0
          inside
          (c.bin_of-bin.ensures ∙ ap bin_of c.value.ensures
          ∙ ap (λ (p : Place). bin_of (sight.values p)) c.row_cell.ensures)
          (c.share-count.ensures ∙ same_count (is_in_bin c.loop-row.before c.bin_of-bin.result) numbers
          c.as_slice-numbers.result.now
          (subst (IsPermutation numbers) (sym c.as_slice-numbers.ensures.value) c.in_ok-numbers.ensures.same))
          (c.in_ok-count_written.ensures
          ∙ ap (λ (p : Place). written p (as_content (counted c.share-count.result))) c.count_cell.ensures)
          c.in_ok-push.ensures.ok
          c.loop-row.invariant.0,
      c.loop-row.invariant.1,
    )

pub returns : goal.returns
returns g c =
    let sight = g.K.Look.sight c.args.look.now in
    let bins = c.args.bins in
    let numbers = numbers_in sight.values (filled sight.values c.args.values) in
    let ends : c.loop-row.row ≡ height_of bins =
    omega (arith, c.loop-row-test.false, c.loop-row.auto.row-end, c.loop-row.invariant.1) in
    left_last sight.values numbers bins.first.row bins.first.col (height_of bins) c.loop-row.writes c.push-2.new.self
    (distributed sight c.args.values bins) c.loop-row.row c.share_above-count.result c.loop-row.before
    c.in_ok-count_written-2.field-0
    ends
    (c.share_above-count.ensures
    ∙ same_count (is_above c.loop-row.before) numbers c.as_slice-numbers.result.now
    (subst (IsPermutation numbers) (sym c.as_slice-numbers.ensures.value) c.in_ok-numbers.ensures.same))
    (c.in_ok-count_written-2.ensures
    ∙ ap (λ (p : Place). written p (as_content (counted c.share_above-count.result)))
    (c.count_cell-2.ensures ∙ ap (λ (k : ℕ). at (bins.first.row + k) (bins.first.col + 1)) c.loop-row.invariant.1))
    c.in_ok-push-2.ensures.ok
    c.loop-row.invariant.0
