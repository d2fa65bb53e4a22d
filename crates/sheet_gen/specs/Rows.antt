-- The generated worksheet: in each of its rows a number, its triple, and the sum of the triples so far.
use Rattle.std.specs.Prelude.{◌≡◌, ℕ, ◌+◌, ◌*◌, ◌%◌, ◌==◌, nat_lt, ℤ, pos, Option, Some, None, if◌then◌else◌, false, replicate}
use Rattle.std.specs.FinMap as map
use Rattle.formula_tree.specs.Tree.{Tree, num, cell, binary}
use Rattle.formula_tree.specs.declared.ast.Op.TheVariants.{Add, Mul}
use Rattle.formula_tree.specs.declared.value.Content.TheVariants as content
use Rattle.formula_tree.specs.declared.value.Value.TheVariants as value
use Rattle.grid_address.specs.Axes.{Reference}
use Rattle.grid_address.specs.Formats.{default_format}
use Rattle.grid_address.specs.Limits.{COLUMNS, LAST_COLUMN, LAST_ROW}
use Rattle.grid_address.specs.declared.format.Format.{Format}
use Rattle.grid_address.specs.declared.reference.Axis.TheVariants.{Offset}
use Rattle.grid_address.specs.Place.{Place}
use Rattle.sheet_store.specs.Choices.{fresh}
use Rattle.sheet_store.specs.State.{CellState}
use Rattle.sheet_store.specs.declared.writes.SavedSheet.{SavedSheet}

-- a whole number, in millionths
abbrev pub whole : ℕ → ℤ
whole n = pos (n * 1000000)

-- 37 times the row's number modulo 101
abbrev pub seed : ℕ → ℕ
seed row = 37 * (row + 1) % 101

-- the cell at the left
abbrev pub left : Reference
left = record { col = Offset LAST_COLUMN; row = Offset 0 }

-- the cell above
abbrev pub above : Reference
above = record { col = Offset 0; row = Offset LAST_ROW }

-- three times the cell at the left
abbrev pub triple : Tree
triple = binary Mul (cell left) (num (whole 3))

-- the cell at the left, and below the first row the cell above plus it
abbrev pub chain : ℕ → Tree
chain row = if row == 0 then cell left else binary Add (cell above) (cell left)

-- the format of a cell that was given none
abbrev pub general : Format
general = record { 0 = default_format }

-- a number in a cell
abbrev pub number_state : ℕ → CellState
number_state n = record { content = content.Number (whole n); value = value.Num (whole n); format = general }

-- a formula that wasn't calculated yet
abbrev pub formula_state : Tree → CellState
formula_state t = record { content = content.Formula t; value = value.Num (pos 0); format = general }

-- what stands in the columns A, B and C of a row, and in the others what is given
abbrev pub in_row : ℕ → ℕ → Option CellState → Option CellState
in_row row col other =
    if col == 0 then Some (number_state (seed row))
    else if col == 1 then Some (formula_state triple)
    else if col == 2 then Some (formula_state (chain row))
    else other

-- the cells of a worksheet of so many rows
abbrev pub generated : ℕ → Place → Option CellState
generated rows p = if nat_lt p.row rows then in_row p.row p.col None else None

-- the worksheet of so many rows: its cells, and all else as in a fresh one
pub record IsGenerated (rows : ℕ) (s : SavedSheet) : Type 0 where
  pub cells : (p : Place) → map.get s.store.cells p ≡ generated rows p
  pub widths : s.store.widths ≡ replicate COLUMNS 0
  pub hidden : s.store.hidden ≡ replicate COLUMNS false
  pub names : s.names ≡ map.empty
  pub settings : s.settings ≡ fresh
