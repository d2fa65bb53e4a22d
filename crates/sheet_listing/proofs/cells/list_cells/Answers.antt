use Rattle.std.proofs.Common.{◌++◌, ◌∙◌, List, ap, sym, append-nil}
use Rattle.std.specs.Prelude.{flat_map}
use Rattle.list_lemmas.proofs.Results.{on_err_always}
use Rattle.grid_address.specs.Place.{Place}
use Rattle.sheet_store.specs.State.{CellState}
use Rattle.sheet_listing.specs.Listed.{cell_line}
use Rattle.sheet_listing.specs.Waiting.{added}
use Rattle.sheet_listing.proofs.Fronts.{broken, one_line}
use Rattle.sheet_listing.proofs.cells.list_cells.Goals as goal

pub loop-entry-preserved : goal.loop-entry-preserved
loop-entry-preserved g c =
    let old = c.loop-entry.waiting.items in
    let now = g.N.Notes.written c.loop-entry.lines in
    let of = cell_line c.args.names.now in
    let same = ap (λ (l : List (Place × CellState)). added now (old ++ flat_map of l)) (sym c.in-Some.ensures.some) ∙
    c.loop-entry.invariant.0 in (
      one_line _ now _ old _ _ _ (flat_map of c.next.new.self) same c.in_ok-list_cell.ensures.ok,
      c.in_ok-list_cell.ensures.cause ∙ c.loop-entry.invariant.1,
    )

pub returns-in_err-list_cell-clause-err : goal.returns-in_err-list_cell-clause-err
returns-in_err-list_cell-clause-err g c =
    let old = c.loop-entry.waiting.items in
    let now = g.N.Notes.written c.loop-entry.lines in
    let of = cell_line c.args.names.now in
    let same = ap (λ (l : List (Place × CellState)). added now (old ++ flat_map of l)) (sym c.in-Some.ensures.some) ∙
    c.loop-entry.invariant.0 in
    on_err_always c.from_residual.result
    (broken _ now _ old _ _ (flat_map of c.next.new.self) same c.in_err-list_cell.ensures.err)

pub returns-clause-ok : goal.returns-clause-ok
returns-clause-ok g c =
    let old = c.loop-entry.waiting.items in
    let now = g.N.Notes.written c.loop-entry.lines in
    let of = cell_line c.args.names.now in
    ap (added now) (sym (append-nil old)) ∙ ap (λ (l : List (Place × CellState)). added now (old ++ flat_map of l))
    (sym c.in_default.ensures.none) ∙ c.loop-entry.invariant.0
