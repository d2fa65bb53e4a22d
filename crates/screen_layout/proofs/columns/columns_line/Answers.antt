use Rattle.std.proofs.Common.{ℕ, List, [], ◌∷◌, ap, subst, ◌∙◌}
use Rattle.screen_layout.specs.Columns.{columns_line}
use Rattle.screen_layout.specs.inner.Coming.{coming}
use Rattle.screen_layout.specs.Lines.{shown_line}
use Rattle.screen_layout.specs.declared.shown_columns.Column.{Column}
use Rattle.work_sheet.specs.Seen.{of_worksheet, Sheet}
use Rattle.screen_layout.proofs.Cuts.{shown_cut}
use Rattle.screen_layout.proofs.Passing.{all_painted, one_painted, Painting}
use Rattle.screen_layout.proofs.columns.columns_line.Goals as goal

pub loop-column-preserved : goal.loop-column-preserved
loop-column-preserved c =
    let s : Sheet = of_worksheet c.args.sheet.now in
    let whole : List ℕ = columns_line s c.args.row c.args.first in
    let now : Painting s c.args.row whole (c.in-Some.column ∷ coming s c.next_in.new.self) c.loop-column.line
    c.loop-column.over.now =
    subst (λ (xs : List Column). Painting s c.args.row whole xs c.loop-column.line c.loop-column.over.now)
    c.in-Some.ensures.next c.loop-column.invariant.painting in
    record {
      painting =
          one_painted s c.args.row whole c.in-Some.column (coming s c.next_in.new.self) c.loop-column.line
          c.loop-column.over.now
          c.add_column-over.new.line c.add_column-over.result.now now c.add_column-over.ensures.line
          c.add_column-over.ensures.rest;
      used = c.next_in.ensures.most;
    }

pub returns : goal.returns
returns c =
    let s : Sheet = of_worksheet c.args.sheet.now in
    let whole : List ℕ = columns_line s c.args.row c.args.first in
    let done : Painting s c.args.row whole [] c.loop-column.line c.loop-column.over.now =
    subst (λ (xs : List Column). Painting s c.args.row whole xs c.loop-column.line c.loop-column.over.now)
    c.in_default.ensures.next c.loop-column.invariant.painting in
    c.finish.ensures ∙ ap shown_line (all_painted s c.args.row whole c.loop-column.line c.loop-column.over.now done)
    ∙ shown_cut whole
