use Rattle.std.proofs.Common.{ℕ, ◌+◌, ◌++◌, ap, ◌∙◌, arith}
use Rattle.print_report.specs.Jobs.{printed_by}
use Rattle.print_report.specs.Pages.{row_line, rows, Printing}
use Rattle.print_report.proofs.Paging.{row_put}
use Rattle.print_report.proofs.rows.put_rows.Goals as goal

pub loop-at-preserved : goal.loop-at-preserved
loop-at-preserved c =
    let p : Printing = printed_by c.args.job.now in
    row_put p c.args.band.now c.args.out.now (rows p c.args.band.now c.args.row c.args.count) c.loop-at.out
    c.put_row.new.out c.args.row c.args.count c.loop-at.at (omega (arith, c.loop-at-test.true)) c.loop-at.invariant
    (c.in_ok-put_row.ensures
    ∙ ap (λ (k : ℕ). c.loop-at.out ++ row_line p c.args.band.now (c.args.row + k)) c.from.ensures)
