-- Rows that are sorted by a cell of each are sorted.
use Rattle.std.proofs.Common.{◌≡◌, ℕ, ◌+◌, ◌<◌, List, [], ◌∷◌, length, get_or, map, cond, refl, sym, ap, ◌∙◌, arith}
use Rattle.std.specs.Prelude.{Bool, true, false}
use Rattle.std.specs.List.{filter}
use Rattle.std.specs.List.Sorted.{IsSortedBy, IsStableBy, ties}
use Rattle.std.proofs.lemmas.List.{get_or-map, length-map}
use Rattle.grid_address.specs.Place.{Place}
use Rattle.block_writes.proofs.Numbers.{numbers_count}
use Rattle.block_writes.specs.Writing.{at, down, numbers_from}

-- the row of a cell
abbrev pub row_of : Place → ℕ
row_of p = p.row

-- the cells down a column are in the rows that they were made of
pub rows_back : (col : ℕ) (rows : List ℕ) → map row_of (down col rows) ≡ rows
rows_back col [] = refl
rows_back col (row ∷ rows) = ap (λ l. row ∷ l) (rows_back col rows)

-- one cell more, kept or not
kept_row : (b : Bool) (p : Place) (rows : List ℕ) (ps : List Place) → rows ≡ map row_of ps
    → cond b (p.row ∷ rows) rows ≡ map row_of (cond b (p ∷ ps) ps)
kept_row true p rows ps same = ap (λ l. p.row ∷ l) same
kept_row false p rows ps same = same

filter_rows : (test : ℕ → Bool) (ps : List Place)
    → filter test (map row_of ps) ≡ map row_of (filter (λ (p : Place). test p.row) ps)
filter_rows test [] = refl
filter_rows test (p ∷ ps) =
    kept_row (test p.row) p (filter test (map row_of ps)) (filter (λ (q : Place). test q.row) ps) (filter_rows test ps)

module _ (lt : ℕ → ℕ → Bool) where
  -- cells in order of their rows have rows in order
  pub rows_ordered : (cells : List Place) → IsSortedBy (λ (p : Place) (q : Place). lt p.row q.row) cells
      → IsSortedBy lt (map row_of cells)
  rows_ordered cells up = λ k d low high.
      let inside : k + 1 < length cells = omega (arith, high, length-map cells row_of) in
      let before : k < length cells = omega (arith, inside) in
      ap (λ r. lt r (get_or (map row_of cells) k d)) (get_or-map row_of cells (k + 1) (at d 0) d inside)
      ∙ ap (λ r. lt (get_or cells (k + 1) (at d 0)).row r) (get_or-map row_of cells k (at d 0) d before)
      ∙ up k (at d 0) low inside

  -- a stable order of cells is one of their rows
  pub rows_stable : (xs ys : List Place) → IsStableBy (λ (p : Place) (q : Place). lt p.row q.row) xs ys
      → IsStableBy lt (map row_of xs) (map row_of ys)
  rows_stable xs ys same =
      λ x. filter_rows (ties lt x) ys ∙ ap (map row_of) (same (at x 0)) ∙ sym (filter_rows (ties lt x) xs)

-- a span has as many first cells as rows
pub cells_count : (col n k : ℕ) → length (down col (numbers_from n k)) ≡ k
cells_count col n k = length-map (numbers_from n k) (λ row. at row col) ∙ numbers_count n k
