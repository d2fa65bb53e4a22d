use Rattle.std.specs.Prelude.{◌&&◌}
use Rattle.std.proofs.Common.{ap, ◌∙◌}
use Rattle.grid_address.specs.Place.{height_of, Extent, Place}
use Rattle.sheet_edits.proofs.Spanned.{all_rows, at_least_one}
use Rattle.sheet_edits.specs.inner.Lines.{in_columns, in_rows}
use Rattle.sheet_edits.proofs.spans.cells_of.Goals as goal

pub returns : goal.returns
returns c = λ x.
    let s : Extent = c.args.span in
    c.in_ok-put_rows.ensures x
    ∙ ap (λ (p : Place). in_rows p.row c.height.result x && in_columns p.col c.width.result x)
    (c.first.view_is ∙ c.first_of-first.ensures)
    ∙ ap (λ n. in_rows s.first.row n x && in_columns s.first.col c.width.result x) c.height.ensures.height
    ∙ ap (λ n. in_rows s.first.row (height_of s) x && in_columns s.first.col n x) c.width.ensures.width
    ∙ all_rows s (at_least_one s.first.row s.last.row c.height.result c.height.ensures.height c.height.ensures.some)
    (at_least_one s.first.col s.last.col c.width.result c.width.ensures.width c.width.ensures.some) x
