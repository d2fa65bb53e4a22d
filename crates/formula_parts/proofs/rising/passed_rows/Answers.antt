use Rattle.std.proofs.Common.{◌≡◌, ◌+◌, ◌-◌, ◌/◌, ◌<◌, false, sym, ap, subst, ◌∙◌, arith}
use Rattle.grid_address.specs.Place.{height_of}
use Rattle.formula_parts.specs.Lookups.{line_cell, passes}
use Rattle.formula_parts.proofs.Ascent.{ends_at}
use Rattle.formula_parts.proofs.Totalled.{same_cell}
use Rattle.formula_parts.proofs.rising.passed_rows.Goals as goal

pub loop-low-init : goal.loop-low-init
loop-low-init g c = record {
  within = omega arith;
  inside = omega arith;
  before = λ i h. absurd (omega arith);
  behind = λ h. absurd (omega (arith, h));
}

pub loop-low-preserved-then-passes_at : goal.loop-low-preserved-then-passes_at
loop-low-preserved-then-passes_at g c =
    let values = (g.K.Look.sight c.args.look.now).values in
    let span = c.args.span in
    let now = c.loop-low in
    let middle = now.low + (now.high - now.low) / 2 in
    let there =
    ap values (sym (same_cell c.cell_at.result (span.first.row + middle) (span.first.col + 0) c.cell_at.ensures.row
    c.cell_at.ensures.col)) in
    let pass = ap (passes c.args.x) there ∙ sym c.passes_at.ensures ∙ c.if-passes_at.true in
    record {
      within = omega (arith, c.loop-low-test.true);
      inside = now.invariant.inside;
      before =
          λ i h. c.requires c.args.x i middle (omega (arith, h))
          (omega (arith, c.loop-low-test.true, now.invariant.inside)) pass;
      behind = now.invariant.behind;
    }

pub loop-low-preserved : goal.loop-low-preserved
loop-low-preserved g c =
    let values = (g.K.Look.sight c.args.look.now).values in
    let span = c.args.span in
    let now = c.loop-low in
    let middle = now.low + (now.high - now.low) / 2 in
    let there =
    ap values (sym (same_cell c.cell_at.result (span.first.row + middle) (span.first.col + 0) c.cell_at.ensures.row
    c.cell_at.ensures.col)) in
    record {
      within = omega arith;
      inside = omega (arith, now.invariant.within, now.invariant.inside);
      before = now.invariant.before;
      behind = λ _. ap (passes c.args.x) there ∙ sym c.passes_at.ensures ∙ c.if-passes_at.false;
    }

pub returns : goal.returns
returns g c =
    let values = (g.K.Look.sight c.args.look.now).values in
    let span = c.args.span in
    let now = c.loop-low in
    let ends : now.high ≡ now.low = omega (arith, c.loop-low-test.false, now.invariant.within) in
    let behind =
    subst (λ k. k < height_of span → passes c.args.x (values (line_cell false span k 0)) ≡ false) ends
    now.invariant.behind in
    record {
      passed =
          ends_at (passes c.args.x) values span (height_of span) now.low
          (omega (arith, now.invariant.within, now.invariant.inside)) now.invariant.before behind;
      within = omega (arith, now.invariant.within, now.invariant.inside);
    }
