use Rattle.std.proofs.Common.{◌≡◌, ◌++◌, ◌∙◌, List, ℕ, ap, sym}
use Rattle.std.specs.FinMap as finite
use Rattle.grid_address.specs.Place.{Place}
use Rattle.sheet_store.specs.State.{CellState}
use Rattle.wk1_records.specs.Records.{pieces_bytes}
use Rattle.wk1_file.specs.Saved.{cell_pieces}
use Rattle.wk1_file.specs.Said.{IsContent, IsValue}
use Rattle.wk1_file.proofs.Writing.{all_bytes, bytes_each, one_more}
use Rattle.wk1_file.proofs.put_cells.put_cells.Goals as goal

pub loop-entry-preserved : goal.loop-entry-preserved
loop-entry-preserved c =
    one_more {X = Place × CellState} (λ e. pieces_bytes (cell_pieces e))
    (λ e. IsContent e.1.content × IsValue e.1.value) c.args.into.now.items c.loop-entry.into.items
    c.put_cell.new.into.items (c.in-Some.entry.0, c.in-Some.entry.1.now) c.next.new.self c.loop-entry.entries
    (finite.entries c.args.store.now.cells) c.loop-entry.invariant c.in-Some.ensures.some
    c.in_ok-put_cell.ensures (c.is_content.ensures, c.is_value.ensures)

pub returns-clause-bytes : goal.returns-clause-bytes
returns-clause-bytes c =
    all_bytes {X = Place × CellState} (λ e. pieces_bytes (cell_pieces e))
    (λ e. IsContent e.1.content × IsValue e.1.value) c.args.into.now.items c.loop-entry.into.items c.loop-entry.entries
    (finite.entries c.args.store.now.cells) c.in_default.ensures.none c.loop-entry.invariant
    ∙ ap (λ l. c.args.into.now.items ++ l) (sym (bytes_each cell_pieces (finite.entries c.args.store.now.cells)))
