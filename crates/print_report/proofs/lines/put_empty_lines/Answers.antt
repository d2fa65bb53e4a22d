use Rattle.std.proofs.Common.{ℕ, ◌+◌, ◌-◌, ◌++◌, List, ap, sym, ◌∙◌, arith}
use Rattle.print_report.specs.Lines.{empty_lines}
use Rattle.print_report.proofs.Lining.{line_put}
use Rattle.print_report.proofs.lines.put_empty_lines.Goals as goal

pub loop-preserved : goal.loop-preserved
loop-preserved c =
    line_put c.args.out.now (empty_lines c.args.count) c.loop.out c.args.count c.loop.counter
    (omega (arith, c.loop-test.true)) c.loop.invariant
    ∙ ap (λ (l : List ℕ). l ++ empty_lines (c.args.count - (c.loop.counter + 1))) (sym c.in_ok-put_line_end.ensures)
