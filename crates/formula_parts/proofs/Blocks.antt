-- Rows and blocks with one cell or one row more.
use Rattle.std.proofs.Common.{◌≡◌, ℕ, zero, suc, ◌+◌, List, [], ◌∷◌, ◌++◌, sym, ap, ◌∙◌, append_assoc, arith}
use Rattle.std.proofs.lemmas.List.{append-nil}
use Rattle.grid_address.specs.Place.{Place}
use Rattle.formula_parts.specs.Outlook.{block_cells, row_cells}

-- a row and a column as a cell
abbrev pub place : ℕ → ℕ → Place
place row col = record { row = row; col = col }

-- one more cell of a row
row_longer : (row col count : ℕ)
    → row_cells row col (suc count) ≡ row_cells row col count ++ place row (col + count) ∷ []
row_longer row col zero = ap (λ c. place row c ∷ []) (let e : col ≡ col + 0 = omega arith in e)
row_longer row col (suc count) =
    ap (λ (l : List Place). place row col ∷ l) (row_longer row (col + 1) count)
    ∙ ap (λ c. place row col ∷ (row_cells row (col + 1) count ++ place row c ∷ []))
    (let e : col + 1 + count ≡ col + suc count = omega arith in e)

-- one more row of a block
block_longer : (row col rows cols : ℕ)
    → block_cells row col (suc rows) cols ≡ block_cells row col rows cols ++ row_cells (row + rows) col cols
block_longer row col zero cols =
    append-nil (row_cells row col cols) ∙ ap (λ r. row_cells r col cols) (let e : row ≡ row + 0 = omega arith in e)
block_longer row col (suc rows) cols =
    ap (λ (l : List Place). row_cells row col cols ++ l) (block_longer (row + 1) col rows cols)
    ∙ ap (λ r. row_cells row col cols ++ (block_cells (row + 1) col rows cols ++ row_cells r col cols))
    (let e : row + 1 + rows ≡ row + suc rows = omega arith in e)
    ∙ sym (append_assoc (row_cells row col cols) (block_cells (row + 1) col rows cols)
    (row_cells (row + suc rows) col cols))

-- the same, counted up by one
pub row_more : (row col count : ℕ)
    → row_cells row col (count + 1) ≡ row_cells row col count ++ place row (col + count) ∷ []
row_more row col count =
    ap (row_cells row col) (let e : count + 1 ≡ suc count = omega arith in e) ∙ row_longer row col count

-- one more row of a block
pub block_more : (row col rows cols : ℕ)
    → block_cells row col (rows + 1) cols ≡ block_cells row col rows cols ++ row_cells (row + rows) col cols
block_more row col rows cols =
    ap (λ n. block_cells row col n cols) (let e : rows + 1 ≡ suc rows = omega arith in e)
    ∙ block_longer row col rows cols
