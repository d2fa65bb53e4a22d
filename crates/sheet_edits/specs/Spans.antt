-- Edits of many cells: what each cell holds afterwards.
use Rattle.std.specs.Prelude.{ℕ, ◌≡◌, ◌<◌, ◌+◌, ◌-◌, ◌*◌, ◌/◌, ◌%◌, Bool, false, true, cond, ◌&&◌, nat_eq, nat_le, List, [], ◌∷◌, map, Option, None, Some, Result, Ok, Err}
use Rattle.std.specs.FinMap as cells
use Rattle.std.specs.declared.cmp.Ordering.{Ordering}
use Rattle.std.specs.declared.cmp.Ordering.TheVariants.{Equal, Greater, Less}
use Rattle.grid_address.specs.Formats.{default_format, has_protection, protected, unprotected}
use Rattle.grid_address.specs.Limits.{COLUMNS, ROWS}
use Rattle.grid_address.specs.Place.{height_of, place_cmp, same_place, width_of, Extent, Place}
use Rattle.grid_address.specs.declared.format.Format.{Format}
use Rattle.cell_maps.specs.Sets.{has}
use Rattle.recalculation.specs.Context.{format_of}
use Rattle.sheet_store.specs.Choices.{Choices}
use Rattle.sheet_store.specs.Grid.{blank_state, formatted, is_kept, put_state, Cells, Grid, IsSound}
use Rattle.sheet_store.specs.State.{CellState}
use Rattle.sheet_store.specs.declared.writes.SheetFault.{SheetFault}
use Rattle.sheet_store.specs.declared.writes.SheetFault.TheVariants as faults
use Rattle.sheet_store.specs.declared.writes.Write.{Write}
use Rattle.sheet_edits.specs.declared.spans.FormatChange.{FormatChange}
use Rattle.sheet_edits.specs.declared.spans.FormatChange.TheVariants as formats
use Rattle.sheet_edits.specs.Edits.{first_value, is_protected}

-- what a cell holds that is given a state
abbrev pub kept_of : CellState → Option CellState
kept_of s = cond (is_kept s) (Some s) None

-- what a cell holds that is given a state or not
abbrev pub changed : Option CellState → Option CellState → Option CellState
changed None held = held
changed (Some s) held = kept_of s

-- each cell of the new grid holds what is told of it, and the columns are as before
pub record Becomes (old : Grid) (held : Place → Option CellState) (new : Grid) : Type 0 where
  pub cells : (c : Place) → cells.get new.cells c ≡ held c
  pub widths : new.widths ≡ old.widths
  pub hidden : new.hidden ≡ old.hidden

-- an erased cell keeps its format
abbrev pub blanked : Option CellState → Option CellState
blanked None = None
blanked (Some s) = Some (blank_state s.format)

-- what a cell holds after it is erased: nothing where its format is the default one
abbrev pub erased : Option CellState → Option CellState
erased o = changed (blanked o) o

-- a code of 0 to 127 takes the place of all bits but the protection mark
abbrev pub with_code : ℕ → ℕ → ℕ
with_code code byte = byte / 128 * 128 + code

-- the protection mark alone is set or taken away
abbrev pub with_mark : Bool → ℕ → ℕ
with_mark true byte = protected byte
with_mark false byte = unprotected byte

-- a cell's state with another format byte, blank where nothing is held of it
abbrev pub reformatted_state : (ℕ → ℕ) → Option CellState → CellState
reformatted_state rule o = formatted o (record { 0 = rule (format_of o) })

-- what a cell holds after its format is changed
abbrev pub reformatted : (ℕ → ℕ) → Option CellState → Option CellState
reformatted rule o = kept_of (reformatted_state rule o)

-- a copy has the content and the format; a formula begins with the value 0
abbrev pub copied_state : Option CellState → CellState
copied_state None = blank_state (record { 0 = default_format })
copied_state (Some s) = record s { value = first_value s.content }

-- what a cell holds after another is copied into it
abbrev pub copied : Option CellState → Option CellState
copied o = kept_of (copied_state o)

-- a source of one column is repeated across the target's columns, and one of one row down its rows
abbrev pub repeated : ℕ → ℕ → ℕ
repeated from to = cond (nat_eq from 1) to from

-- as many rows and columns from a cell on, where they lie in the sheet
abbrev pub block_at : Place → ℕ → ℕ → Option Extent
block_at first rows cols = cond (nat_le (first.row + rows) ROWS && nat_le (first.col + cols) COLUMNS)
    (Some (record { first = first; last = record { row = first.row + rows - 1; col = first.col + cols - 1 } })) None

-- the written span of a copy
abbrev pub target_of : Extent → Extent → Option Extent
target_of from to =
    block_at to.first (repeated (height_of from) (height_of to)) (repeated (width_of from) (width_of to))

-- the cell that a cell of the written span copies
abbrev pub source_of : Extent → Place → Place → Place
source_of from first c = record {
  row = from.first.row + (c.row - first.row) % height_of from;
  col = from.first.col + (c.col - first.col) % width_of from;
}

-- a write's format, or the cell's own
abbrev pub given_format : Option Format → Option CellState → Format
given_format None o = record { 0 = format_of o }
given_format (Some f) o = f

-- the state that a write gives to a cell
abbrev pub write_state : Write → Option CellState → CellState
write_state w o = record { content = w.content; value = first_value w.content; format = given_format w.format o }

-- the writes in their order
abbrev pub written_by : Grid → Write → Grid
written_by g w = put_state g w.cell (write_state w (cells.get g.cells w.cell))

-- the grid after all of the writes, each over what those before it left
abbrev pub written_all : Grid → List Write → Grid
written_all g [] = g
written_all g (w ∷ ws) = written_all (written_by g w) ws

-- the cells that the writes are for, in their order
abbrev pub written_cells : List Write → List Place
written_cells ws = map (λ (w : Write). w.cell) ws

-- c is one of the cells, is protected, and none of the cells before it is
pub record IsFirstProtected (s : Choices) (g : Grid) (written : Place → Bool) (c : Place) : Type 0 where
  pub among : written c ≡ true
  pub protected : is_protected s g c ≡ true
  pub first : (d : Place) → written d ≡ true → is_protected s g d ≡ true → place_cmp d c ≡ Less → ⊥

-- no written cell is protected
abbrev pub NoneProtected : Choices → Grid → (Place → Bool) → Type 0
NoneProtected s g written = (c : Place) → written c ≡ true → is_protected s g c ≡ false

-- an edit of cells is refused for the first protected one, and is made where none is; beside that, want of memory alone
-- is answered
abbrev pub IsAnswered : Choices → Grid → (Place → Bool) → Result (Unit {0}) SheetFault → Type 0
IsAnswered s g written (Ok x) = NoneProtected s g written
IsAnswered s g written (Err (faults.Protected c)) = IsFirstProtected s g written c
IsAnswered s g written (Err (faults.PushedOff c)) = ⊥
IsAnswered s g written (Err (faults.OutOfSheet p)) = ⊥
IsAnswered s g written (Err faults.Memory) = Unit {0}

-- a state that a cell is given is one that a store may have
abbrev pub AreSound : Cells → Type 0
AreSound changes = (c : Place) (s : CellState) → cells.get changes c ≡ Some s → IsSound s

-- the cells of a list are given what is told of them, and no other cell is
abbrev pub AreGiven : Cells → (Place → Bool) → (Place → Option CellState) → Type 0
AreGiven changes written told = (c : Place) → cells.get changes c ≡ cond (written c) (told c) None

-- the mark is set in the cell's format
abbrev pub is_marked : Grid → Place → Bool
is_marked g c = has_protection (format_of (cells.get g.cells c))

-- the earlier of two cells that are so ordered
abbrev pub before : Ordering → Option Place → Option Place → Option Place
before Greater a b = b
before _ a b = a

-- the first marked cell so far, and one more that is marked
abbrev pub sooner_of : Option Place → Place → Option Place
sooner_of None c = Some c
sooner_of (Some d) c = before (place_cmp d c) (Some d) (Some c)

-- the first marked cell so far, and one more cell
abbrev pub sooner : Grid → Option Place → Place → Option Place
sooner g first c = cond (is_marked g c) (sooner_of first c) first

-- what a change makes of a format byte
abbrev pub rule_of : FormatChange → ℕ → ℕ
rule_of (formats.Code code) = with_code code
rule_of (formats.Mark b) = with_mark b

-- the code of a change leaves the protection mark alone
abbrev pub HasCode : FormatChange → Type 0
HasCode (formats.Code code) = code < 128
HasCode (formats.Mark b) = Unit {0}

-- the cells of the writes, and what they hold after all of them
pub record AreGathered (g : Grid) (ws : List Write) (listed : List Place) (changes : Cells) : Type 0 where
  pub listed_all : listed ≡ written_cells ws
  pub held : (c : Place) → changed (cells.get changes c) (cells.get g.cells c) ≡ cells.get (written_all g ws).cells c
  pub given : (c : Place) → has same_place listed c ≡ false → cells.get changes c ≡ None
  pub sound : AreSound changes
