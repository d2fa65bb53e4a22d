use Rattle.std.proofs.Common.{◌≡◌, ◌<◌, ◌+◌, ◌-◌, ℕ, List, length, map, get_or, ap, ◌∙◌, arith}
use Rattle.formula_tree.specs.declared.value.Value.{Value}
use Rattle.grid_address.specs.Place.{Place}
use Rattle.block_writes.specs.Writing.{at}
use Rattle.data_blocks.specs.Benches.{values_on}
use Rattle.data_blocks.specs.Tables.{row_scenario}
use Rattle.data_blocks.proofs.Scenarios.{made_at, made_count, row_taken, same_both, scenario_more}
use Rattle.data_blocks.proofs.one_input.try_rows.Goals as goal

pub bounds-values-from : goal.bounds-values-from
bounds-values-from g c =
    let s = c.args.table.now.span in
    let before = values_on (g.B.Bench.shows c.args.bench.now) in
    let f : ℕ → Value = λ (row : ℕ). before (at row s.first.col) in
    let long = ap length c.requires.values ∙ made_count f (s.first.row + 1) (s.last.row - s.first.row) in
    omega (arith, c.from.ensures, c.loop-place-test.true, c.loop-place.invariant.count, long)

pub loop-place-preserved : goal.loop-place-preserved
loop-place-preserved g c =
    let shows = g.B.Bench.shows in
    let tries = g.B.Bench.tries in
    let s = c.args.table.now.span in
    let before = values_on (shows c.args.bench.now) in
    let f : ℕ → Value = λ (row : ℕ). before (at row s.first.col) in
    let n : ℕ = s.first.row + 1 in
    let k : ℕ = c.loop-place.place in
    let at_place : c.from.result ≡ k = c.from.ensures in
    let value = c.index-values-from.result in
    let inside : k < s.last.row - s.first.row = omega (arith, c.loop-place-test.true, c.loop-place.invariant.count) in
    let row_is : c.row.inside.row ≡ n + k = ap (λ (p : Place). p.row) (c.row.view_is ∙ c.cell_down.ensures) in
    let value_is : value ≡ f (n + k) =
    c.index-values-from.is ∙ ap (λ (i : ℕ). get_or c.args.values.now i value) at_place
    ∙ ap (λ (l : List Value). get_or l k value) c.requires.values
    ∙ made_at f n (s.last.row - s.first.row) k value inside in
    record {
      taken =
          scenario_more shows tries (row_scenario s c.args.table.now.input before) n k c.args.bench.now
          c.loop-place.bench c.try_row.new.bench c.args.writes.now c.loop-place.writes c.try_row.new.writes
          c.loop-place.invariant.taken
          (row_taken shows tries s before c.loop-place.bench c.try_row.new.bench c.loop-place.writes
          c.try_row.new.writes c.args.table.now.input (n + k) c.row.inside.row value row_is value_is
          c.in_ok-try_row.ensures.taken);
      same =
          same_both (shows c.args.bench.now) (shows c.loop-place.bench) (shows c.try_row.new.bench)
          c.loop-place.invariant.same c.try_row.ensures.same;
      count = c.loop-place.invariant.count;
    }
