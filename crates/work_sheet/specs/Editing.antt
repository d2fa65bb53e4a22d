-- What edits of many cells leave of a sheet, and changes of its columns, names and settings.
use Rattle.std.specs.Prelude.{ℕ, Bool, true, false, List, [], ◌∷◌, Option, if◌then◌else◌}
use Rattle.std.specs.FinMap as map
use Rattle.grid_address.specs.Place.{is_within, same_place, Extent}
use Rattle.cell_maps.specs.Sets.{has}
use Rattle.range_names.specs.Names.{NameMap}
use Rattle.sheet_edits.specs.Spans as cell
use Rattle.sheet_edits.specs.Spans.{source_of, written_all, written_cells}
use Rattle.sheet_shifts.specs.Shifts.{grid_after, names_after}
use Rattle.sheet_shifts.specs.declared.shift.Shift.{Shift}
use Rattle.sheet_store.specs.Choices.{Choices}
use Rattle.sheet_store.specs.Grid.{set_hidden_of, set_width_of, Grid}
use Rattle.sheet_store.specs.declared.order.Order.{Order}
use Rattle.sheet_store.specs.declared.order.Order.TheVariants as orders
use Rattle.sheet_store.specs.declared.writes.Write.{Write}
use Rattle.work_sheet.specs.Cells.{with_cells_in}
use Rattle.work_sheet.specs.Doing.{all_dirty, edited, quiet, Done}
use Rattle.work_sheet.specs.Seen.{Sheet}

-- the cells of a span become blank, each in its format
abbrev pub erased : Extent → Sheet → Done
erased span s = edited (is_within span) (with_cells_in span (λ c. cell.erased (map.get s.grid.cells c)) s.grid) s

-- each cell of the target takes what its source held
abbrev pub copied : Extent → Extent → Sheet → Done
copied from target s = edited (is_within target)
    (with_cells_in target (λ c. cell.copied (map.get s.grid.cells (source_of from target.first c))) s.grid) s

-- the writes are made, in their order
abbrev pub all_written : List Write → Sheet → Done
all_written ws s = edited (has same_place (written_cells ws)) (written_all s.grid ws) s

-- the cells of a span take other formats
abbrev pub reformatted : Extent → (ℕ → ℕ) → Sheet → Done
reformatted span rule s =
    quiet (record s { grid = with_cells_in span (λ c. cell.reformatted rule (map.get s.grid.cells c)) s.grid })

-- a column has a width of its own, or none
abbrev pub with_width : ℕ → Option ℕ → Sheet → Done
with_width col width s = quiet (record s { grid = set_width_of s.grid col width })

-- a column is hidden, or shown
abbrev pub with_hidden : ℕ → Bool → Sheet → Done
with_hidden col hidden s = quiet (record s { grid = set_hidden_of s.grid col hidden })

-- the names of spans are these
abbrev pub with_names : NameMap → Sheet → Done
with_names names s = quiet (record s { names = names })

-- the settings are these
abbrev pub with_settings : Choices → Sheet → Done
with_settings settings s = quiet (record s { settings = settings })

-- whether two orders of recalculation are one
abbrev pub same_order : Order → Order → Bool
same_order orders.Natural orders.Natural = true
same_order orders.Columnwise orders.Columnwise = true
same_order orders.Rowwise orders.Rowwise = true
same_order a b = false

-- the order of recalculation is this one; where it was another, all formulas become dirty
abbrev pub reordered : Order → Sheet → Done
reordered order s =
    if same_order order s.settings.order then quiet s
    else record { sheet = record s { settings = record s.settings { order = order } }; log = all_dirty s.grid ∷ [] }

-- cells move, and references, names and what columns have of their own follow; all formulas become dirty
abbrev pub shifted : Shift → Sheet → Done
shifted shift s = record {
  sheet = record s { grid = grid_after shift s.grid; names = names_after shift s.names; stale = true };
  log = all_dirty (grid_after shift s.grid) ∷ [];
}

-- a sheet that was saved takes the place of another: all its formulas are dirty
abbrev pub restored : Grid → NameMap → Choices → Sheet → Done
restored g names settings s = record {
  sheet = record { grid = g; circular = false; stale = false; names = names; settings = settings };
  log = all_dirty g ∷ [];
}
