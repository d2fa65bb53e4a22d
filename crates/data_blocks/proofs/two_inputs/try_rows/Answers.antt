use Rattle.std.proofs.Common.{◌≡◌, ◌<◌, ◌≤◌, ◌+◌, ◌-◌, ℕ, List, length, map, get_or, ap, subst, sym, ◌∙◌, arith, rules}
use Rattle.std.proofs.Common.{true}
use Rattle.std.specs.List.{list_any}
use Rattle.formula_tree.specs.declared.value.Value.{Value}
use Rattle.grid_address.specs.Place.{same_place, Place}
use Rattle.block_writes.specs.Writing.{at}
use Rattle.data_blocks.specs.Benches.{takes, HasTaken}
use Rattle.data_blocks.specs.Tables.{row_scenarios}
use Rattle.data_blocks.proofs.Scenarios.{made_at, made_count, same_both, scenarios_more}
use Rattle.data_blocks.proofs.two_inputs.try_rows.Goals as goal

pub bounds-firsts-from : goal.bounds-firsts-from
bounds-firsts-from g c =
    let table = c.args.table.now in
    let s = table.span in
    let f : ℕ → Value = λ (row : ℕ). g.values (at row s.first.col) in
    let long = ap length c.requires.1.1.1.0 ∙ made_count f (s.first.row + 1) (s.last.row - s.first.row) in
    omega (arith, c.from.ensures, c.loop-place-test.true, c.loop-place.invariant.count, long)

pub try_row-requires : goal.try_row-requires
try_row-requires g c =
    let shows = g.B.Bench.shows in
    let table = c.args.table.now in
    let s = table.span in
    let f : ℕ → Value = λ (row : ℕ). g.values (at row s.first.col) in
    let n : ℕ = s.first.row + 1 in
    let k : ℕ = c.loop-place.place in
    let at_place : c.from.result ≡ k = c.from.ensures in
    let value = c.index-firsts-from.result in
    let inside : k < s.last.row - s.first.row = omega (arith, c.loop-place-test.true, c.loop-place.invariant.count) in
    let row_is : c.row.inside.row ≡ n + k = ap (λ (p : Place). p.row) (c.row.view_is ∙ c.cell_down.ensures) in
    let value_is : value ≡ f (n + k) =
    c.index-firsts-from.is ∙ ap (λ (i : ℕ). get_or c.args.firsts.now i value) at_place
    ∙ ap (λ (l : List Value). get_or l k value) c.requires.1.1.1.0
    ∙ made_at f n (s.last.row - s.first.row) k value inside in
    let in_sheet : c.row.inside.row ≤ s.last.row = omega (arith, row_is, inside) in
    let down : takes (shows c.loop-place.bench) table.down ≡ true =
    ap (λ (l : List Place). list_any (same_place table.down) l) c.loop-place.invariant.same.inputs ∙ c.requires.1.0 in
    let across : takes (shows c.loop-place.bench) table.across ≡ true =
    ap (λ (l : List Place). list_any (same_place table.across) l) c.loop-place.invariant.same.inputs
    ∙ c.requires.1.1.0 in
    let first : value ≡ f c.row.inside.row = value_is ∙ ap f (sym row_is) in
    let seconds = c.requires.1.1.1.1 in
    search rules

pub loop-place-preserved : goal.loop-place-preserved
loop-place-preserved g c =
    let shows = g.B.Bench.shows in
    let tries = g.B.Bench.tries in
    let table = c.args.table.now in
    let s = table.span in
    let n : ℕ = s.first.row + 1 in
    let k : ℕ = c.loop-place.place in
    let row_is : c.row.inside.row ≡ n + k = ap (λ (p : Place). p.row) (c.row.view_is ∙ c.cell_down.ensures) in
    record {
      taken =
          scenarios_more shows tries (row_scenarios s table.down table.across g.values) n k c.args.bench.now
          c.loop-place.bench c.try_row.new.bench c.args.writes.now c.loop-place.writes c.try_row.new.writes
          c.loop-place.invariant.taken
          (subst (λ (r : ℕ). HasTaken shows tries (row_scenarios s table.down table.across g.values r)
          c.loop-place.bench c.loop-place.writes c.try_row.new.bench c.try_row.new.writes) row_is
          c.in_ok-try_row.ensures.taken);
      same =
          same_both (shows c.args.bench.now) (shows c.loop-place.bench) (shows c.try_row.new.bench)
          c.loop-place.invariant.same c.try_row.ensures.same;
      count = c.loop-place.invariant.count;
    }
