use Rattle.std.proofs.Common.{◌≡◌, ℕ, ◌-◌, ◌≤◌, ◌<◌, true, false}
use Rattle.grid_address.specs.Place.{height_of}
use Rattle.formula_parts.specs.Lookups.{line_cell, passes}
use Rattle.formula_parts.proofs.rising.passed_rows.Given as goal

abbrev pub invariant-loop-low : goal.invariant-loop-low
invariant-loop-low g l =
    let values = (g.K.Look.sight l.look).values in
    record {
      within : l.low ≤ l.high;
      inside : l.high ≤ height_of l.span;
      before : (i : ℕ) → i < l.low → passes l.x (values (line_cell false l.span i 0)) ≡ true;
      behind : l.high < height_of l.span → passes l.x (values (line_cell false l.span l.high 0)) ≡ false;
    }

abbrev pub decreases-loop-low : goal.decreases-loop-low
decreases-loop-low g l = l.high - l.low
