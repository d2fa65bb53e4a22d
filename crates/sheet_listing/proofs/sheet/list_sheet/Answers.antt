use Rattle.list_lemmas.proofs.Results.{on_err_always}
use Rattle.sheet_listing.specs.Listed.{cell_lines, column_lines, settings_lines}
use Rattle.sheet_listing.proofs.Fronts.{cells_broken, end_broken, front_of_all, names_broken, three_parts}
use Rattle.sheet_listing.proofs.Fronts.{whole_written}
use Rattle.sheet_listing.proofs.sheet.list_sheet.Goals as goal

pub returns-clause-ok : goal.returns-clause-ok
returns-clause-ok g c =
    let settings = settings_lines c.args.sheet.now.settings in
    let columns = column_lines c.args.sheet.now.store in
    whole_written _ _ _ _ _ _
    (three_parts _ _ _ _ _ _ settings columns _ _ c.in-Ok.ensures c.in_ok-list_names.ensures.ok
    c.in_ok-list_cells.ensures.ok) c.in_ok-write_waiting.ensures.ok c.in_ok-write_waiting.ensures.all

pub returns-in_err-list_names-clause-err : goal.returns-in_err-list_names-clause-err
returns-in_err-list_names-clause-err g c =
    let settings = settings_lines c.args.sheet.now.settings in
    let columns = column_lines c.args.sheet.now.store in
    on_err_always c.from_residual.result
    (names_broken _ _ _ settings columns _ (cell_lines c.args.sheet.now.names c.args.sheet.now.store) c.in-Ok.ensures
    c.in_err-list_names.ensures.err)

pub returns-in_err-list_cells-clause-err : goal.returns-in_err-list_cells-clause-err
returns-in_err-list_cells-clause-err g c =
    let settings = settings_lines c.args.sheet.now.settings in
    let columns = column_lines c.args.sheet.now.store in
    on_err_always c.from_residual-in_err-list_cells.result
    (cells_broken _ _ _ _ _ settings columns _ _ c.in-Ok.ensures c.in_ok-list_names.ensures.ok
    c.in_err-list_cells.ensures.err)

pub returns-in_err-write_waiting-clause-err : goal.returns-in_err-write_waiting-clause-err
returns-in_err-write_waiting-clause-err g c =
    let settings = settings_lines c.args.sheet.now.settings in
    let columns = column_lines c.args.sheet.now.store in
    on_err_always c.from_residual-in_err-write_waiting.result
    (end_broken _ _ _ _ _
    (three_parts _ _ _ _ _ _ settings columns _ _ c.in-Ok.ensures c.in_ok-list_names.ensures.ok
    c.in_ok-list_cells.ensures.ok) c.in_err-write_waiting.ensures.err)

pub returns-in-Err-clause-err : goal.returns-in-Err-clause-err
returns-in-Err-clause-err g c = front_of_all _ _
