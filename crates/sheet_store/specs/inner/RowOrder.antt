-- Cells with their states, in row order.
use Rattle.std.specs.Prelude.{ℕ, ◌≡◌, ◌≤◌, ◌<◌, false, List, None, Some}
use Rattle.std.specs.FinMap.{get}
use Rattle.std.specs.List.{filter}
use Rattle.std.specs.Ordering.{is_le, is_lt}
use Rattle.cell_maps.specs.Numbers.{band_of}
use Rattle.cell_maps.specs.declared.held.Held.{Held}
use Rattle.cell_maps.specs.declared.held.Held.TheVariants as held
use Rattle.grid_address.specs.Place.{place_cmp, InSheet, Place}
use Rattle.sheet_store.specs.Grid.{Cells}
use Rattle.sheet_store.specs.State.{CellState}
use Rattle.sheet_store.specs.inner.Scan.{number_of}
use Rattle.sheet_store.specs.declared.entries.Edge.{Edge}

-- the entries behind a place
abbrev pub entries_behind : Place → List (Place × CellState) → List (Place × CellState)
entries_behind c es = filter (λ e. is_lt (place_cmp c e.0)) es

-- no cell with a state lies behind a place and before another
abbrev pub NextHeld : Cells → Place → Place → Type 0
NextHeld cells c d =
    (p : Place) (s : CellState) → InSheet p → get cells p ≡ Some s → is_lt (place_cmp c p) ≡ is_le (place_cmp d p)

-- no cell with a state lies behind a place
abbrev pub NoneHeldBehind : Cells → Place → Type 0
NoneHeldBehind cells c = (p : Place) (s : CellState) → InSheet p → get cells p ≡ Some s → is_lt (place_cmp c p) ≡ false

-- a place lies neither behind a last row nor behind a last column
abbrev pub IsUpTo : Place → Place → Type 0
IsUpTo last p = (p.row ≤ last.row) × (p.col ≤ last.col)

-- every cell with a state lies up to a last row and a last column
abbrev pub EndsAt : Cells → Place → Type 0
EndsAt cells last = (p : Place) (s : CellState) → get cells p ≡ Some s → IsUpTo last p

-- from the column of an edge on, no cell of its band has a state, and the column is at most the sheet's end
abbrev pub IsEdge : Cells → Edge → Type 0
IsEdge cells e = (e.col ≤ 256) × ((c : Place) → InSheet c → band_of c ≡ e.band → e.col ≤ c.col → get cells c ≡ None)

-- a held cell's number lies below another one, which is kept where the cell has no state
abbrev pub IsBefore : Held CellState → ℕ → ℕ → Type 0
IsBefore (held.Filled c s) number least = InSheet c × (number ≡ number_of c) × (number < least)
IsBefore (held.Erased c) number least = number ≡ least
