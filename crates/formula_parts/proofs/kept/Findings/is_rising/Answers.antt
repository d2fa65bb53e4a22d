use Rattle.std.proofs.Common.{◌≤◌, sym, ap, arith}
use Rattle.grid_address.specs.Place.{height_of, Extent}
use Rattle.formula_parts.proofs.Ascent.{in_column, part_rises}
use Rattle.formula_parts.proofs.kept.Findings.is_rising.Goals as goal

pub returns-then-is_part-clause-rising : goal.returns-then-is_part-clause-rising
returns-then-is_part-clause-rising g c =
    let part = c.is_part.ensures in
    let yes = c.if-is_part.true in
    λ _. in_column (g.K.Look.sight c.args.look.now).values c.args.span c.args.self.now.rising (part.some yes)
    (part.row yes) (part.col yes) (part.rows yes) c.requires.rising

pub returns-then-found-clause-rising : goal.returns-then-found-clause-rising
returns-then-found-clause-rising g c = λ yes.
    (let column = c.first_column-column.result in
    let is = c.first_column-column.ensures in
    let rows : height_of c.args.span ≤ height_of column = omega (arith, ap (λ (s : Extent). height_of s) is) in
    part_rises (g.K.Look.sight c.args.look.now).values column c.args.span (sym (ap (λ (s : Extent). s.first.row) is))
    (sym (ap (λ (s : Extent). s.first.col) is)) rows (c.rises-found.ensures yes))

pub returns-then-found-clause-found : goal.returns-then-found-clause-found
returns-then-found-clause-found g c =
    let is = c.first_column-column.ensures in
    record {
      last = c.requires.last;
      before = c.requires.before;
      rising = (
        omega (arith, ap (λ (s : Extent). s.first.col) is, ap (λ (s : Extent). s.last.col) is),
        c.rises-found.ensures c.if-found.true,
      );
    }
