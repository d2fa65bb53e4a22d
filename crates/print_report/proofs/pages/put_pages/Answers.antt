use Rattle.std.proofs.Common.{ℕ, ◌+◌, ◌-◌, ◌++◌, List, ap, ◌∙◌, arith}
use Rattle.print_report.specs.Jobs.{printed_by}
use Rattle.print_report.specs.Pages.{page, pages, Printing}
use Rattle.print_report.proofs.Paging.{page_put, too_long}
use Rattle.print_report.proofs.pages.put_pages.Goals as goal

pub returns-then-len-gt-LIMIT : goal.returns-then-len-gt-LIMIT
returns-then-len-gt-LIMIT c =
    let p : Printing = printed_by c.args.job.now in
    let all : List ℕ = pages p c.args.band.now c.args.number c.args.job.now.range.first.row c.args.count in
    too_long c.args.out.now all c.put_page.new.out
    (pages p c.args.band.now (c.args.number + (c.loop-at.at + 1)) (c.loop-at.row + c.args.rows)
    (c.args.count - (c.loop-at.at + 1)))
    (page_put p c.args.band.now c.args.out.now all c.loop-at.out c.put_page.new.out c.args.number c.loop-at.row
    c.args.count c.loop-at.at c.args.rows
    (omega (arith, c.loop-at-test.true)) c.requires.rows c.loop-at.invariant.2
    (c.in-Ok.ensures ∙ ap (λ (k : ℕ). c.loop-at.out ++ page p c.args.band.now (c.args.number + k) c.loop-at.row)
    c.from.ensures))
    (omega (arith, c.if-len-gt-LIMIT.true, c.len.ensures))

pub loop-at-preserved : goal.loop-at-preserved
loop-at-preserved c =
    let p : Printing = printed_by c.args.job.now in (
      omega (arith, c.if-len-gt-LIMIT.false, c.len.ensures),
      omega (arith, c.loop-at.invariant.1, c.from-row-in-loop-at.ensures, c.ranges.rows.fits),
      page_put p c.args.band.now c.args.out.now
          (pages p c.args.band.now c.args.number c.args.job.now.range.first.row c.args.count) c.loop-at.out
          c.put_page.new.out c.args.number c.loop-at.row c.args.count c.loop-at.at c.from-row-in-loop-at.result
          (omega (arith, c.loop-at-test.true)) (c.from-row-in-loop-at.ensures ∙ c.requires.rows) c.loop-at.invariant.2
          (c.in-Ok.ensures ∙ ap (λ (k : ℕ). c.loop-at.out ++ page p c.args.band.now (c.args.number + k) c.loop-at.row)
          c.from.ensures),
    )
