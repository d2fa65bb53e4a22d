-- How the code puts what is left into a new map, and what it has of each column.
use Rattle.std.specs.Prelude.{ℕ, ◌≡◌, ◌+◌, ◌-◌, nat_lt, get_or, Bool, false, List, [], ◌∷◌, Option, None, Some, if◌then◌else◌}
use Rattle.std.specs.FinMap.{get, insert, FinMap}
use Rattle.std.specs.List.{filter_map, AllByRecursion}
use Rattle.std.specs.declared.cmp.Ordering.{Ordering}
use Rattle.grid_address.specs.Limits.{COLUMNS}
use Rattle.grid_address.specs.Place.{Extent, Place}
use Rattle.range_names.specs.Names.{IsKey, NameMap}
use Rattle.ref_adjust.specs.declared.change.Change.{Change}
use Rattle.ref_adjust.specs.declared.change.Change.TheVariants.{InsertRows, InsertColumns, DeleteRows, DeleteColumns}
use Rattle.sheet_store.specs.Grid.{Cells, Grid}
use Rattle.sheet_store.specs.State.{CellState}
use Rattle.sheet_shifts.specs.Refusals.{is_pushed}
use Rattle.sheet_shifts.specs.Shifts.{entry_after, name_after, names_after}
use Rattle.sheet_shifts.specs.declared.shift.Shift.{Shift}
use Rattle.sheet_shifts.specs.declared.shift.Shift.TheVariants.{Lines, Block}

-- a map with the entries put in, from the first on
abbrev pub put_all : {K X : Type 0} {R : K → K → Ordering} → FinMap R X → List (K × X) → FinMap R X
put_all m [] = m
put_all m (e ∷ es) = put_all (insert m e.0 e.1) es

-- each entry has the key of its name
abbrev pub AreAllKeys : List (List ℕ × Extent) → Type 0
AreAllKeys es = AllByRecursion (λ e. IsKey e.0) es

-- what a place holds, at its new place; none where it holds nothing, or the cell is lost
abbrev pub entry_from : Shift → Place → Option CellState → Option (Place × CellState)
entry_from shift p None = None
entry_from shift p (Some s) = entry_after shift (p, s)

-- the same of a place of a map
abbrev pub entry_at : Shift → Cells → Place → Option (Place × CellState)
entry_at shift m p = entry_from shift p (get m p)

-- a grid into which what a map holds at some places was put, each at its new place
abbrev pub put_all_at : Shift → Cells → Grid → List Place → Grid
put_all_at shift m into ps = record into { cells = put_all into.cells (filter_map (entry_at shift m) ps) }

-- whether what a place holds is a filled cell that would leave the sheet
abbrev pub is_pushed_from : Change → Place → Option CellState → Bool
is_pushed_from change p None = false
is_pushed_from change p (Some s) = is_pushed change (p, s)

-- the same of a place of a map
abbrev pub is_pushed_at : Change → Cells → Place → Bool
is_pushed_at change m p = is_pushed_from change p (get m p)

-- the first such place of some
abbrev pub first_pushed_at : Change → Cells → List Place → Option Place
first_pushed_at change m [] = None
first_pushed_at change m (p ∷ ps) = if is_pushed_at change m p then Some p else first_pushed_at change m ps

-- what is still to come makes the names afterwards
pub record IsNaming (shift : Shift) (old now : NameMap) (rest : List (List ℕ × Extent)) : Type 0 where
  pub keyed : AreAllKeys rest
  pub names : put_all now (filter_map (name_after shift) rest) ≡ names_after shift old

-- the column that has come to this one after columns were inserted; none where it is new
abbrev pub source_inserted : ℕ → ℕ → ℕ → Option ℕ
source_inserted first count col =
    if nat_lt col first then Some col
    else (if nat_lt col (first + count) then None else Some (col - count))

-- the same after columns were deleted; none where no column came
abbrev pub source_deleted : ℕ → ℕ → ℕ → Option ℕ
source_deleted first count col =
    if nat_lt col first then Some col
    else (if nat_lt (col + count) COLUMNS then Some (col + count) else None)

-- the same after rows or columns were inserted or deleted
abbrev pub source_changed : Change → ℕ → Option ℕ
source_changed (InsertRows first count) col = Some col
source_changed (InsertColumns first count) col = source_inserted first count col
source_changed (DeleteRows first count) col = Some col
source_changed (DeleteColumns first count) col = source_deleted first count col

-- the same after any of these edits
abbrev pub source_of : Shift → ℕ → Option ℕ
source_of (Lines change) col = source_changed change col
source_of (Block from to) col = Some col

-- what a column had of its own; a new one has nothing
abbrev pub own_of : {X : Type 0} → X → List X → Option ℕ → X
own_of none xs None = none
own_of none xs (Some col) = get_or xs col none
