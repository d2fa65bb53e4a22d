use Rattle.std.proofs.Common.{◌≡◌, ◌+◌, ◌-◌, ℕ, List, map, sym, ap, ◌∙◌, arith}
use Rattle.std.specs.List.{flat_map}
use Rattle.block_writes.specs.Writing.{at}
use Rattle.command_desk.specs.Acting.{first_protected}
use Rattle.commands_data.proofs.First.{rows_end, rows_more, rows_stop}
use Rattle.commands_data.specs.TableCommands.{answer_cells}
use Rattle.data_blocks.specs.Tables.{columns_behind}
use Rattle.grid_address.specs.Place.{Place}
use Rattle.grid_address.proofs.Scans.{left_first}
use Rattle.sheet_edits.specs.Edits.{is_protected}
use Rattle.work_sheet.specs.Seen.{of_worksheet}
use Rattle.commands_data.proofs.protection.protected_answer.Goals as goal

pub loop-place-init : goal.loop-place-init
loop-place-init c =
    let s = of_worksheet c.args.sheet.now in
    let span = c.args.span in
    let row : ℕ → List Place = λ (r : ℕ). map (at r) (columns_behind span) in (
      ap (λ l. first_protected (flat_map row l) s) (left_first (span.first.row + 1) (span.last.row - span.first.row)),
      c.rows_below-count.ensures,
    )

pub loop-place-preserved : goal.loop-place-preserved
loop-place-preserved c =
    let sheet = c.args.sheet.now in
    let span = c.args.span in
    let row : ℕ → List Place = λ (r : ℕ). map (at r) (columns_behind span) in
    let there : c.row.inside.row ≡ span.first.row + 1 + c.loop-place.place =
    ap (λ (p : Place). p.row) (c.row.view_is ∙ c.cell_down.ensures) in (
      rows_more (is_protected sheet.settings sheet.grid) row (span.first.row + 1) (span.last.row - span.first.row)
          c.loop-place.place (first_protected (answer_cells span) (of_worksheet sheet))
          (omega (arith, c.loop-place-test.true, c.loop-place.invariant.1))
          (ap (λ (k : ℕ). first_protected (row k) (of_worksheet sheet)) (sym there) ∙ sym c.protected_in_row.ensures
          ∙ c.in_default.is) c.loop-place.invariant.0,
      c.loop-place.invariant.1,
    )

pub returns-in-Some : goal.returns-in-Some
returns-in-Some c =
    let sheet = c.args.sheet.now in
    let span = c.args.span in
    let row : ℕ → List Place = λ (r : ℕ). map (at r) (columns_behind span) in
    let there : c.row.inside.row ≡ span.first.row + 1 + c.loop-place.place =
    ap (λ (p : Place). p.row) (c.row.view_is ∙ c.cell_down.ensures) in
    rows_stop (is_protected sheet.settings sheet.grid) row (span.first.row + 1) (span.last.row - span.first.row)
    c.loop-place.place (first_protected (answer_cells span) (of_worksheet sheet)) c.in-Some.cell
    (omega (arith, c.loop-place-test.true, c.loop-place.invariant.1))
    (ap (λ (k : ℕ). first_protected (row k) (of_worksheet sheet)) (sym there) ∙ sym c.protected_in_row.ensures
    ∙ c.in-Some.is) c.loop-place.invariant.0

pub returns : goal.returns
returns c =
    let sheet = c.args.sheet.now in
    let span = c.args.span in
    let row : ℕ → List Place = λ (r : ℕ). map (at r) (columns_behind span) in
    rows_end (is_protected sheet.settings sheet.grid) row (span.first.row + 1) (span.last.row - span.first.row)
    c.loop-place.place (first_protected (answer_cells span) (of_worksheet sheet))
    (omega (arith, c.loop-place-test.false, c.loop-place.auto.place-end, c.loop-place.invariant.1))
    c.loop-place.invariant.0
