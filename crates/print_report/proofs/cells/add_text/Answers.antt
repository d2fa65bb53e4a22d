use Rattle.std.proofs.Common.{ℕ, ◌-◌, ◌++◌, List, take, drop, replicate, ap, ◌∙◌, arith}
use Rattle.std.proofs.lemmas.List.{drop_min, take_rest}
use Rattle.shown_cells.specs.Cells.{padded}
use Rattle.print_report.proofs.Cutting.{text_added}
use Rattle.print_report.proofs.cells.add_text.Goals as goal

pub returns-clause-line : goal.returns-clause-line
returns-clause-line c =
    c.put_all-2.ensures ∙ ap
    (λ (l : List ℕ). l ++ take {A = ℕ} (c.from-width.result - c.min-shown.result) (replicate 240 32)) c.put_all.ensures
    ∙ text_added c.args.row.now c.args.text.now c.from-width.result c.min-shown.result c.min-shown.ensures
    (omega (arith, c.from-width.ensures, c.requires.width))
    ∙ ap (λ (k : ℕ). c.args.row.now ++ padded k c.args.text.now) c.from-width.ensures

pub returns-clause-rest : goal.returns-clause-rest
returns-clause-rest c =
    take_rest c.args.text.now c.min-shown.result ∙ ap (λ (k : ℕ). drop k c.args.text.now) c.min-shown.ensures
    ∙ drop_min c.from-width.result c.args.text.now ∙ ap (λ (k : ℕ). drop k c.args.text.now) c.from-width.ensures
