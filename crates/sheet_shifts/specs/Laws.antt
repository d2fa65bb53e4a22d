-- Every cell that isn't lost stands where it went, and no other cell is there; which protected cell is named.
use Rattle.std.specs.Prelude.{◌≡◌, ◌≤◌, ◌<◌, ◌⊎◌, ◌||◌, Bool, true, false, Option, None, Some}
use Rattle.std.specs.FinMap.{get}
use Rattle.grid_address.specs.Place.{is_within, Extent, Place}
use Rattle.ref_adjust.specs.Moves.{target}
use Rattle.sheet_store.specs.Grid.{Cells}
use Rattle.sheet_store.specs.State.{CellState}
use Rattle.sheet_shifts.specs.Refusals.{is_marked_at, protected_in}
use Rattle.sheet_shifts.specs.Shifts.{cells_after, place_after, state_after}
use Rattle.sheet_shifts.specs.declared.shift.Shift.{Shift}
use Rattle.sheet_shifts.specs.declared.shift.Shift.TheVariants.{Block}

-- a cell stands where it went, with its value, its format and what its content has become
abbrev pub CellsGo : Shift → Cells → Type 0
CellsGo shift m =
    (p here : Place) (s : CellState) → get m p ≡ Some s → place_after shift p ≡ Some here →
    get (cells_after shift m) here ≡ Some (state_after shift p here s)

-- what stands at a place came from a cell that went there
pub record CameFrom (shift : Shift) (m : Cells) (here : Place) (t : CellState) : Type 0 where
  pub place : Place
  pub state : CellState
  pub found : get m place ≡ Some state
  pub goes : place_after shift place ≡ Some here
  pub is : t ≡ state_after shift place here state

-- and so did every cell that is there
abbrev pub CellsCame : Shift → Cells → Type 0
CellsCame shift m = (here : Place) (t : CellState) → get (cells_after shift m) here ≡ Some t → CameFrom shift m here t

-- the corners are in order
abbrev pub IsOrdered : Extent → Type 0
IsOrdered s = (s.first.row ≤ s.last.row) × (s.first.col ≤ s.last.col)

-- a place stands in an earlier row than another, or in the same row and not behind it
abbrev pub IsUpTo : Place → Place → Type 0
IsUpTo c d = (c.row < d.row) ⊎ ((c.row ≡ d.row) × (c.col ≤ d.col))

-- c is one of some places, passes a test, and is the first in row order that does
pub record IsFirstIn (among test : Place → Bool) (c : Place) : Type 0 where
  pub here : among c ≡ true
  pub passes : test c ≡ true
  pub first : (d : Place) → among d ≡ true → test d ≡ true → IsUpTo c d

-- the first place that passes a test; none where none does
abbrev pub IsFirstOf : (Place → Bool) → (Place → Bool) → Option Place → Type 0
IsFirstOf among test None = (d : Place) → among d ≡ true → test d ≡ false
IsFirstOf among test (Some c) = IsFirstIn among test c

-- the cells of a span that is moved, and of its target
abbrev pub in_either : Extent → Place → Place → Bool
in_either from to c = is_within from c || is_within (target from to) c

-- what is named of a move is the first protected cell of them
abbrev pub NamesFirst : Extent → Place → Cells → Type 0
NamesFirst from to m = IsFirstOf (in_either from to) (is_marked_at m) (protected_in (Block from to) m)
