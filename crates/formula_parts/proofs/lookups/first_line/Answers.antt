use Rattle.std.proofs.Common.{◌≤◌, not, sym, ap, ◌∙◌, arith}
use Rattle.std.specs.Prelude.{position}
use Rattle.formula_tree.specs.Seen.{seen_value}
use Rattle.formula_parts.specs.Lookups.{firsts, is_label}
use Rattle.formula_parts.proofs.Lines.{all_passed, found_at, found_nowhere, goes_on, stops_here}
use Rattle.formula_parts.proofs.lookups.first_line.Goals as goal

pub loop-line-preserved : goal.loop-line-preserved
loop-line-preserved g c =
    let values = (g.K.Look.sight c.args.look.now).values in
    let text = c.args.text.now in (
      omega (arith, c.loop-line-test.true),
      goes_on (λ v. not (is_label text v)) values c.args.across c.args.span c.lines_of-lines.result c.loop-line.line
          (seen_value c.value.result) c.loop-line-test.true c.loop-line.invariant.1
          (c.value.ensures ∙ ap values c.line_cell.ensures) (ap not (sym c.is_label.ensures ∙ c.if-is_label.false)),
    )

pub returns-then-is_label-clause-place : goal.returns-then-is_label-clause-place
returns-then-is_label-clause-place g c =
    let values = (g.K.Look.sight c.args.look.now).values in
    let text = c.args.text.now in
    let lines = c.lines_of-lines.result in
    let line = c.loop-line.line in
    let here =
    stops_here (λ v. not (is_label text v)) values c.args.across c.args.span lines line (seen_value c.value.result)
    c.loop-line-test.true c.loop-line.invariant.1 (c.value.ensures ∙ ap values c.line_cell.ensures)
    (ap not (sym c.is_label.ensures ∙ c.if-is_label.true)) in
    sym
    (ap (λ n. position (is_label text) (firsts values c.args.across c.args.span 0 n))
    (sym c.lines_of-lines.ensures.lines)
    ∙ found_at (is_label text) values c.args.across c.args.span lines line c.loop-line-test.true here)

pub returns-clause-place : goal.returns-clause-place
returns-clause-place g c =
    let values = (g.K.Look.sight c.args.look.now).values in
    let text = c.args.text.now in
    let lines = c.lines_of-lines.result in
    let line = c.loop-line.line in
    let past : lines ≤ line = omega (arith, c.loop-line-test.false) in
    let all =
    all_passed (λ v. not (is_label text v)) values c.args.across c.args.span lines line past c.loop-line.invariant.0
    c.loop-line.invariant.1 in
    sym
    (ap (λ n. position (is_label text) (firsts values c.args.across c.args.span 0 n))
    (sym c.lines_of-lines.ensures.lines)
    ∙ found_nowhere (is_label text) values c.args.across c.args.span lines all)
