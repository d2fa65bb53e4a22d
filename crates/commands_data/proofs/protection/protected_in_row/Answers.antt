use Rattle.std.proofs.Common.{◌≡◌, ◌+◌, ◌-◌, ℕ, map, sym, ap, ◌∙◌, arith}
use Rattle.block_writes.specs.Writing.{at}
use Rattle.command_desk.specs.Acting.{first_protected}
use Rattle.commands_data.proofs.First.{found_end, found_more}
use Rattle.data_blocks.specs.Tables.{columns_behind}
use Rattle.grid_address.specs.Place.{Place}
use Rattle.grid_address.proofs.Scans.{left_first}
use Rattle.sheet_edits.specs.Edits.{is_protected}
use Rattle.work_sheet.specs.Seen.{of_worksheet}
use Rattle.commands_data.proofs.protection.protected_in_row.Goals as goal

pub loop-place-init : goal.loop-place-init
loop-place-init c =
    let s = of_worksheet c.args.sheet.now in
    let span = c.args.span in (
      ap (λ l. first_protected (map (at c.args.row) l) s)
          (left_first (span.first.col + 1) (span.last.col - span.first.col)),
      c.columns_behind-count.ensures,
    )

pub loop-place-preserved : goal.loop-place-preserved
loop-place-preserved c =
    let sheet = c.args.sheet.now in
    let span = c.args.span in
    let test = is_protected sheet.settings sheet.grid in
    let there : c.col.inside.col ≡ span.first.col + 1 + c.loop-place.place =
    ap (λ (p : Place). p.col) (c.col.view_is ∙ c.cell_across.ensures) in (
      found_more test (at c.args.row) (span.first.col + 1) (span.last.col - span.first.col) c.loop-place.place
          (first_protected (map (at c.args.row) (columns_behind span)) (of_worksheet sheet))
          (omega (arith, c.loop-place-test.true, c.loop-place.invariant.1))
          (ap (λ (k : ℕ). test (at c.args.row k)) (sym there) ∙ sym c.is_protected.ensures ∙ c.if-is_protected.false)
          c.loop-place.invariant.0,
      c.loop-place.invariant.1,
    )

pub returns : goal.returns
returns c =
    let sheet = c.args.sheet.now in
    let span = c.args.span in
    found_end (is_protected sheet.settings sheet.grid) (at c.args.row) (span.first.col + 1)
    (span.last.col - span.first.col) c.loop-place.place
    (first_protected (map (at c.args.row) (columns_behind span)) (of_worksheet sheet))
    (omega (arith, c.loop-place-test.false, c.loop-place.auto.place-end, c.loop-place.invariant.1))
    c.loop-place.invariant.0
