use Rattle.std.proofs.Common.{ℕ, ◌++◌, List, ap, ◌∙◌}
use Rattle.print_report.specs.Jobs.{printed_by}
use Rattle.print_report.specs.Lines.{empty_lines}
use Rattle.print_report.specs.Pages.{page_rows, rows, running_line, Printing}
use Rattle.print_report.specs.declared.settings.PrintSettings.{PrintSettings}
use Rattle.print_report.proofs.Paging.{before}
use Rattle.print_report.proofs.pages.put_page.Goals as goal

pub returns : goal.returns
returns c =
    let set : PrintSettings = c.args.job.now.set.now in
    let p : Printing = printed_by c.args.job.now in
    let number : ℕ = c.args.number in
    let printed : List ℕ = rows p c.args.band.now c.args.row (page_rows set) in
    let foot : List ℕ = running_line p number set.footer ++ empty_lines set.bottom in
    let end : List ℕ = c.put_empty_lines-4.new.out in
    before c.args.out.now (empty_lines set.top) c.put_empty_lines.new.out end
    (running_line p number set.header ++ (empty_lines 2 ++ (printed ++ (empty_lines 2 ++ foot))))
    c.in_ok-put_empty_lines.ensures
    (before c.put_empty_lines.new.out (running_line p number set.header) c.put_edge.new.out end
    (empty_lines 2 ++ (printed ++ (empty_lines 2 ++ foot)))
    (c.in_ok-put_edge.ensures
    ∙ ap (λ (t : List ℕ). c.put_empty_lines.new.out ++ running_line p number t) c.bytes.ensures.value)
    (before c.put_edge.new.out (empty_lines 2) c.put_empty_lines-2.new.out end (printed ++ (empty_lines 2 ++ foot))
    c.in_ok-put_empty_lines-2.ensures
    (before c.put_empty_lines-2.new.out printed c.put_rows.new.out end (empty_lines 2 ++ foot)
    (c.in_ok-put_rows.ensures
    ∙ ap (λ (k : ℕ). c.put_empty_lines-2.new.out ++ rows p c.args.band.now c.args.row k) c.requires.rows)
    (before c.put_rows.new.out (empty_lines 2) c.put_empty_lines-3.new.out end foot c.in_ok-put_empty_lines-3.ensures
    (before c.put_empty_lines-3.new.out (running_line p number set.footer) c.put_edge-2.new.out end
    (empty_lines set.bottom)
    (c.in_ok-put_edge-2.ensures
    ∙ ap (λ (t : List ℕ). c.put_empty_lines-3.new.out ++ running_line p number t) c.bytes-2.ensures.value)
    c.in_ok-put_empty_lines-4.ensures)))))
