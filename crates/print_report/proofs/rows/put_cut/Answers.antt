use Rattle.std.proofs.Common.{rules, ◌≡◌, ℕ, OnOk, ◌++◌, List, map, take, ap, sym, subst, ◌∙◌}
use Rattle.cell_format.specs.Labels.{masked}
use Rattle.print_report.specs.Lines.{line}
use Rattle.print_report.specs.Pages.{page_width}
use Rattle.print_report.proofs.Masking.{plain_kept}
use Rattle.print_report.proofs.rows.put_cut.Goals as goal

pub returns-then-are_plain : goal.returns-then-are_plain
returns-then-are_plain c =
    let width : c.from.result ≡ page_width c.args.set.now = search rules in
    let is : c.cut-bytes.result.now ≡ map masked (take (page_width c.args.set.now) c.args.bytes.now) =
    sym (plain_kept c.cut-bytes.result.now (sym c.are_plain.ensures ∙ c.if-are_plain.true))
    ∙ ap (map masked) (c.cut-bytes.ensures.cut ∙ ap (λ (k : ℕ). take k c.args.bytes.now) width) in
    subst (λ (t : List ℕ). OnOk c.put_line.result (c.put_line.new.out ≡ c.args.out.now ++ line c.args.set.now.left t))
    is c.put_line.ensures
