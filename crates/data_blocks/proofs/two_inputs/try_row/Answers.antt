use Rattle.std.proofs.Common.{◌≡◌, ◌≤◌, ◌<◌, ◌+◌, ◌-◌, ℕ, List, length, map, get_or, ap, subst, ◌∙◌, arith}
use Rattle.formula_tree.specs.declared.value.Value.{Value}
use Rattle.grid_address.specs.Place.{Place}
use Rattle.block_writes.specs.Writing.{at}
use Rattle.data_blocks.specs.Tables.{cell_scenario}
use Rattle.data_blocks.specs.declared.table.TwoInputs.{TwoInputs}
use Rattle.data_blocks.proofs.Scenarios.{cell_taken, made_at, made_count, same_both, scenario_more}
use Rattle.data_blocks.proofs.two_inputs.try_row.Goals as goal

pub bounds-seconds-from : goal.bounds-seconds-from
bounds-seconds-from g c =
    let table = c.args.table.now in
    let s = table.span in
    let f : ℕ → Value = λ (col : ℕ). g.values (at s.first.row col) in
    let long = ap length c.requires.1.1.1.1.1 ∙ made_count f (s.first.col + 1) (s.last.col - s.first.col) in
    omega (arith, c.from.ensures, c.loop-place-test.true, c.loop-place.invariant.count, long)

pub invariant_of-try_cell : goal.invariant_of-try_cell
invariant_of-try_cell g c =
    let upto : c.args.row ≤ c.args.table.now.span.last.row = c.requires.1.0 in
    let is_last = ap (λ (t : TwoInputs). t.span.last.row) c.table.view_is in
    let fits : c.args.table.now.span.last.row < 8192 =
    subst (λ (row : ℕ). row < 8192) is_last c.is_on_sheet.ensures.0 in (omega (arith, upto, fits), c.col.invariant.1)

pub loop-place-preserved : goal.loop-place-preserved
loop-place-preserved g c =
    let shows = g.B.Bench.shows in
    let tries = g.B.Bench.tries in
    let table = c.args.table.now in
    let s = table.span in
    let row = c.args.row in
    let f : ℕ → Value = λ (col : ℕ). g.values (at s.first.row col) in
    let n : ℕ = s.first.col + 1 in
    let k : ℕ = c.loop-place.place in
    let at_place : c.from.result ≡ k = c.from.ensures in
    let value = c.index-seconds-from.result in
    let inside : k < s.last.col - s.first.col = omega (arith, c.loop-place-test.true, c.loop-place.invariant.count) in
    let col_is : c.col.inside.col ≡ n + k = ap (λ (p : Place). p.col) (c.col.view_is ∙ c.cell_across.ensures) in
    let value_is : value ≡ f (n + k) =
    c.index-seconds-from.is ∙ ap (λ (i : ℕ). get_or c.args.seconds.now i value) at_place
    ∙ ap (λ (l : List Value). get_or l k value) c.requires.1.1.1.1.1
    ∙ made_at f n (s.last.col - s.first.col) k value inside in
    record {
      taken =
          scenario_more shows tries (cell_scenario s table.down table.across g.values row) n k c.args.bench.now
          c.loop-place.bench c.try_cell.new.bench c.args.writes.now c.loop-place.writes c.try_cell.new.writes
          c.loop-place.invariant.taken
          (cell_taken shows tries s g.values c.loop-place.bench c.try_cell.new.bench c.loop-place.writes
          c.try_cell.new.writes table.down table.across (at row c.col.inside.col) row (n + k) c.args.first.now value
          (ap (λ (j : ℕ). at row j) col_is) c.requires.1.1.1.1.0 value_is c.in_ok-try_cell.ensures.taken);
      same =
          same_both (shows c.args.bench.now) (shows c.loop-place.bench) (shows c.try_cell.new.bench)
          c.loop-place.invariant.same c.try_cell.ensures.same;
      count = c.loop-place.invariant.count;
    }
