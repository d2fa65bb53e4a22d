use Rattle.std.proofs.Common.{ℕ, List, length, map, ap, ◌∙◌, subst, is_lt, arith}
use Rattle.std.specs.List.Sorted.{IsPermutation, IsStableBy}
use Rattle.std.proofs.lemmas.List.Sorted.{IsPermutation-map, length_permutation}
use Rattle.grid_address.specs.Place.{height_of, Place}
use Rattle.block_writes.specs.Writing.{columns_of, down, rows_copied, rows_of}
use Rattle.data_blocks.specs.Sorting.{order_of_rows}
use Rattle.data_blocks.proofs.Sorted.{cells_count, row_of, rows_back, rows_ordered, rows_stable}
use Rattle.data_blocks.proofs.sort.rows_sorted.Goals as goal

pub rows_copied-requires : goal.rows_copied-requires
rows_copied-requires g c =
    let span = c.args.span in
    let first = down span.first.col (rows_of span) in
    let cells = c.in_ok-cells.cells.items in
    omega (
      arith,
      ap length c.as_slice.ensures.value,
      length_permutation first cells c.in_ok-cells.ensures.same,
      cells_count span.first.col span.first.row (height_of span),
    )

pub returns : goal.returns
returns g c =
    let sight = g.K.Look.sight c.args.look.now in
    let span = c.args.span in
    let rows = rows_of span in
    let first = down span.first.col rows in
    let cells = c.in_ok-cells.cells.items in
    let lt = λ (a : ℕ) (b : ℕ). is_lt (order_of_rows sight.values c.args.keys.now a b) in
    let back = rows_back span.first.col rows in
    record {
      sorted = map row_of cells;
      order = record {
        same =
            subst (λ (l : List ℕ). IsPermutation l (map row_of cells)) back
            (IsPermutation-map row_of first cells c.in_ok-cells.ensures.same);
        ordered = rows_ordered lt cells c.in_ok-cells.ensures.ordered;
        stable =
            subst (λ (l : List ℕ). IsStableBy lt l (map row_of cells)) back
            (rows_stable lt first cells c.in_ok-cells.ensures.stable);
      };
      moved =
          c.in_ok-writes.ensures ∙ ap (λ (l : List Place). rows_copied sight (columns_of span) (map row_of l) rows)
          c.as_slice.ensures.value;
    }
