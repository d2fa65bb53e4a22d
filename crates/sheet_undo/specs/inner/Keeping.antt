-- How the states are kept: each by what it has otherwise than the state after it, and the base, which is the last of
-- them, by what it has otherwise than the sheet as it stands.
use Rattle.std.specs.Prelude.{◌≡◌, Bool, true, false, is_some, List, [], ◌∷◌, Option, None, Some, option_map}
use Rattle.std.specs.FinMap.{empty, get}
use Rattle.edit_log.specs.Changes.{with_changes}
use Rattle.grid_address.specs.Place.{Place}
use Rattle.range_names.specs.Names.{NameMap}
use Rattle.sheet_store.specs.Choices.{Choices}
use Rattle.sheet_store.specs.Grid.{Grid}
use Rattle.sheet_store.specs.State.{CellState}
use Rattle.sheet_undo.specs.Histories.{History, Sheet}
use Rattle.sheet_undo.specs.declared.kept.KeptState.{KeptState}

-- what a state has otherwise than another one: the cells that differ, the columns and the names where they differ, and
-- the settings and the marks as they are
pub record Before : Type 0 where
  pub changes : List (Place × Option CellState)
  pub columns : Option Grid
  pub names : Option NameMap
  pub settings : Choices
  pub circular : Bool
  pub stale : Bool

-- the columns of a grid, or its own where none are kept
abbrev pub columns_or : Option Grid → Grid → Grid
columns_or None g = g
columns_or (Some own) g = record g { widths = own.widths; hidden = own.hidden }

-- the columns of a grid, without its cells
abbrev pub columns_alone : Grid → Grid
columns_alone g = record g { cells = empty }

-- names, or those of the next one where none are kept
abbrev pub names_or : Option NameMap → NameMap → NameMap
names_or None names = names
names_or (Some own) names = own

-- the state that differs so from a sheet
abbrev pub before : Before → Sheet → Sheet
before d s = record {
  grid = columns_or d.columns (with_changes s.grid d.changes);
  circular = d.circular;
  stale = d.stale;
  names = names_or d.names s.names;
  settings = d.settings;
}

-- the states before a sheet, each before the one in front of it
abbrev pub earlier : Sheet → List Before → List Sheet
earlier s [] = []
earlier s (d ∷ ds) = before d s ∷ earlier (before d s) ds

-- What is kept of a sheet's past: the differences of the kept states, whether a command is begun, and what the base has
-- otherwise than the sheet. Where the sheet was replaced, all of its cells and columns are kept as they were then, and
-- the base is told by what it has otherwise than those.
pub record Past : Type 0 where
  pub kept : List Before
  pub is_begun : Bool
  pub log : List (Place × Option CellState)
  pub whole : Option Grid
  pub columns : Option Grid
  pub names : Option NameMap
  pub settings : Choices
  pub circular : Bool
  pub stale : Bool

-- the cells and columns that were replaced, or a grid where none were
abbrev pub grid_or : Option Grid → Grid → Grid
grid_or None g = g
grid_or (Some whole) g = whole

-- the columns that the base has of its own, if it has some
abbrev pub own_columns : Option Grid → Option Grid → Option Grid
own_columns None columns = option_map columns_alone columns
own_columns (Some whole) columns = Some (columns_alone whole)

-- the cells and columns that differ so from those that were replaced, or from a grid
abbrev pub grid_before : Option Grid → Option Grid → List (Place × Option CellState) → Grid → Grid
grid_before whole columns log g = columns_or columns (with_changes (grid_or whole g) log)

-- the base, by a sheet's cells, columns and names
abbrev pub base : Past → Grid → NameMap → Sheet
base p g names = record {
  grid = grid_before p.whole p.columns p.log g;
  circular = p.circular;
  stale = p.stale;
  names = names_or p.names names;
  settings = p.settings;
}

-- the base is the begun state, where a command is begun
abbrev pub begun_if : Bool → Sheet → Option Sheet
begun_if true s = Some s
begun_if false s = None

-- the history that is kept, by a sheet's cells, columns and names
abbrev pub history_of : Past → Grid → NameMap → History
history_of p g names =
    record { kept = earlier (base p g names) p.kept; begun = begun_if p.is_begun (base p g names) }

-- nothing was noted: the base has what the sheet has
abbrev pub with_nothing : Past → Past
with_nothing p = record p { log = []; whole = None; columns = None; names = None }

-- where the sheet was replaced, the base is what was replaced
abbrev pub IsSettled : Past → Type 0
IsSettled p = is_some p.whole ≡ true → (p.log ≡ []) × (p.columns ≡ None)

-- grids that differ in no other cells than these
pub record IsSameBut (among : Place → Bool) (old new : Grid) : Type 0 where
  pub others : (c : Place) → among c ≡ false → get new.cells c ≡ get old.cells c
  pub widths : new.widths ≡ old.widths
  pub hidden : new.hidden ≡ old.hidden

-- the sheet that was kept, with its marks
abbrev pub sheet_of : KeptState → Sheet
sheet_of k = record {
  grid = k.saved.store;
  circular = k.circular;
  stale = k.stale;
  names = k.saved.names;
  settings = k.saved.settings;
}

-- a sheet of these parts
abbrev pub sheet_with : Grid → NameMap → Choices → Bool → Bool → Sheet
sheet_with g names settings circular stale =
    record { grid = g; circular = circular; stale = stale; names = names; settings = settings }
