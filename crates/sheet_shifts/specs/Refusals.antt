-- Why rows or columns aren't inserted or deleted, or a span isn't moved.
use Rattle.std.specs.Prelude.{ℕ, zero, suc, ◌+◌, Bool, true, not, ◌&&◌, nat_lt, List, [], ◌∷◌, Option, None, Some, is_some, if◌then◌else◌}
use Rattle.std.specs.FinMap.{entries, get}
use Rattle.std.specs.Ordering.{is_gt}
use Rattle.std.specs.Option.{option_or}
use Rattle.grid_address.specs.Formats.{has_protection}
use Rattle.grid_address.specs.Limits.{COLUMNS, ROWS}
use Rattle.grid_address.specs.Place.{height_of, place_cmp, width_of, Extent, Place}
use Rattle.ref_adjust.specs.declared.change.Change.{Change}
use Rattle.ref_adjust.specs.declared.change.Change.TheVariants.{InsertRows, InsertColumns, DeleteRows, DeleteColumns}
use Rattle.ref_adjust.specs.Lines.{place_shifted, IsChange}
use Rattle.ref_adjust.specs.Moves.{carried, target}
use Rattle.sheet_store.specs.Choices.{Choices}
use Rattle.sheet_store.specs.Grid.{is_blank, Cells}
use Rattle.sheet_store.specs.State.{CellState}
use Rattle.sheet_store.specs.declared.writes.SheetFault.{SheetFault}
use Rattle.sheet_store.specs.declared.writes.SheetFault.TheVariants as faults
use Rattle.sheet_shifts.specs.declared.shift.Shift.{Shift}
use Rattle.sheet_shifts.specs.declared.shift.Shift.TheVariants.{Lines, Block}

-- whether the target of a move lies in the sheet
abbrev pub fits_at : Extent → Place → Bool
fits_at from to = nat_lt (carried from to from.last).row ROWS && nat_lt (carried from to from.last).col COLUMNS

-- whether the mark is set in the format of what a cell holds; a cell that isn't there is protected
abbrev pub is_marked : Option CellState → Bool
is_marked None = true
is_marked (Some s) = has_protection s.format.0

-- whether a cell is protected
abbrev pub is_marked_at : Cells → Place → Bool
is_marked_at m c = is_marked (get m c)

-- the first of so many cells of a row that passes a test, from one on
unfoldable pub first_in_row : (Place → Bool) → ℕ → Place → Option Place
first_in_row test zero p = None
first_in_row test (suc n) p = if test p then Some p else first_in_row test n (record p { col = p.col + 1 })

-- the first of so many rows of so many cells, row by row
unfoldable pub first_in_rows : (Place → Bool) → ℕ → ℕ → Place → Option Place
first_in_rows test zero cols p = None
first_in_rows test (suc n) cols p =
    option_or (first_in_row test cols p) (first_in_rows test n cols (record p { row = p.row + 1 }))

-- the first protected cell of a span, in row order
abbrev pub first_marked : Cells → Extent → Option Place
first_marked m s = first_in_rows (is_marked_at m) (height_of s) (width_of s) s.first

-- the earlier of two cells in row order
abbrev pub earlier : Option Place → Option Place → Option Place
earlier None other = other
earlier (Some a) None = Some a
earlier (Some a) (Some b) = if is_gt (place_cmp a b) then Some b else Some a

-- the first cell of the first line
abbrev pub first_cell : Change → Place
first_cell (InsertRows first count) = record { row = first; col = 0 }
first_cell (InsertColumns first count) = record { row = 0; col = first }
first_cell (DeleteRows first count) = record { row = first; col = 0 }
first_cell (DeleteColumns first count) = record { row = 0; col = first }

-- the cell that is named where protection is on: the first cell of the first line that is inserted or deleted, whether
-- its mark is set or not, and the first marked cell of the span that is moved and of its target
abbrev pub protected_in : Shift → Cells → Option Place
protected_in (Lines change) m = Some (first_cell change)
protected_in (Block from to) m = earlier (first_marked m from) (first_marked m (target from to))

-- whether an entry is a filled cell that would leave the sheet
abbrev pub is_pushed : Change → Place × CellState → Bool
is_pushed change e = not (is_blank e.1.content) && not (is_some (place_shifted change e.0))

-- the first such cell
abbrev pub first_pushed : Change → List (Place × CellState) → Option Place
first_pushed change [] = None
first_pushed change (e ∷ es) = if is_pushed change e then Some e.0 else first_pushed change es

-- the first filled cell in row order that an insert would push out of the sheet; a delete pushes none
abbrev pub pushed_by : Change → Cells → Option Place
pushed_by (InsertRows first count) m = first_pushed (InsertRows first count) (entries m)
pushed_by (InsertColumns first count) m = first_pushed (InsertColumns first count) (entries m)
pushed_by (DeleteRows first count) m = None
pushed_by (DeleteColumns first count) m = None

-- a move pushes none either
abbrev pub pushed_in : Shift → Cells → Option Place
pushed_in (Lines change) m = pushed_by change m
pushed_in (Block from to) m = None

-- the fault of a move whose target leaves the sheet
abbrev pub out_of_sheet : Shift → Option SheetFault
out_of_sheet (Lines change) = None
out_of_sheet (Block from to) = if fits_at from to then None else Some (faults.OutOfSheet from)

-- the fault of a protected cell, if there is one
abbrev pub protected_fault : Option Place → Option SheetFault
protected_fault None = None
protected_fault (Some c) = Some (faults.Protected c)

-- the fault of a cell that would be pushed out of the sheet, if there is one
abbrev pub pushed_fault : Option Place → Option SheetFault
pushed_fault None = None
pushed_fault (Some c) = Some (faults.PushedOff c)

-- the first of these that there is: a moved span would leave the sheet; protection is on and a cell of the edit is
-- protected; a filled cell would be pushed out of the sheet
abbrev pub refusal : Choices → Cells → Shift → Option SheetFault
refusal s m shift =
    option_or (out_of_sheet shift)
    (option_or (if s.protection then protected_fault (protected_in shift m) else None)
    (pushed_fault (pushed_in shift m)))

-- lines that are inserted or deleted are so many that they lie in the sheet; a move may leave it
abbrev pub AreInSheet : Shift → Type 0
AreInSheet (Lines change) = IsChange change
AreInSheet (Block from to) = Unit {0}
