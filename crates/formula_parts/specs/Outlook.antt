-- What formulas look at.
use Rattle.std.specs.Prelude.{ℕ, ◌+◌, zero, suc, Option, List, [], ◌∷◌, ◌++◌}
use Rattle.std.specs.List.{filter}
use Rattle.grid_address.specs.Place.{height_of, width_of, Extent, Place}
use Rattle.range_names.specs.Names.{NameMap}
use Rattle.formula_tree.specs.declared.value.Content.{Content}
use Rattle.formula_tree.specs.declared.value.Value.{Value}
use Rattle.formula_tree.specs.Values.{is_filled}

-- values, contents, format bytes and column widths, and the names of spans
pub record Sight : Type 0 where
  pub values : Place → Value
  pub contents : Place → Option Content
  pub formats : Place → ℕ
  pub widths : ℕ → ℕ
  pub names : NameMap

-- these, the pointer, and the day number and the second of the moment
pub record Outlook : Type 0 where
  pub sight : Sight
  pub cursor : Place
  pub day : Option ℕ
  pub second : ℕ

-- so many cells of a row, from a column on
abbrev pub row_cells : ℕ → ℕ → ℕ → List Place
row_cells row col zero = []
row_cells row col (suc count) = record { row = row; col = col } ∷ row_cells row (col + 1) count

-- so many rows of so many cells, from a row and a column on
abbrev pub block_cells : ℕ → ℕ → ℕ → ℕ → List Place
block_cells row col zero cols = []
block_cells row col (suc rows) cols = row_cells row col cols ++ block_cells (row + 1) col rows cols

-- the cells of a span, in row order
abbrev pub cells_of : Extent → List Place
cells_of s = block_cells s.first.row s.first.col (height_of s) (width_of s)

-- the cells of a span that aren't blank, in row order
abbrev pub filled : (Place → Value) → Extent → List Place
filled values s = filter (λ p. is_filled (values p)) (cells_of s)
