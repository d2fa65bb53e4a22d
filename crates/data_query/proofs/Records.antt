-- The records that are wanted, and the rows that move up.
use Rattle.std.proofs.Common.{◌≡◌, ℕ, suc, ◌+◌, ◌-◌, ◌≤◌, List, [], ◌∷◌, ◌++◌, map, length, cond, refl, sym, ap}
use Rattle.std.proofs.Common.{◌∙◌, arith}
use Rattle.std.specs.Prelude.{Bool, true, false}
use Rattle.std.specs.List.{filter}
use Rattle.std.proofs.lemmas.List.{length-map}
use Rattle.grid_address.specs.Place.{Extent, Place}
use Rattle.formula_parts.specs.Outlook.{Outlook, Sight}
use Rattle.block_writes.proofs.Numbers.{numbers_count}
use Rattle.block_writes.specs.Writing.{at, columns_of, numbers_from, rows_below, rows_copied, rows_of}
use Rattle.sheet_store.specs.declared.writes.Write.{Write}
use Rattle.data_query.specs.inner.Plans.{behind_first, records}
use Rattle.data_query.specs.Selection.{moved_up, rows_erased}

-- the row of a cell
abbrev pub row_of : Place → ℕ
row_of p = p.row

-- the cells of rows are in these rows
pub rows_back : (col : ℕ) (rows : List ℕ) → map row_of (map (λ row. at row col) rows) ≡ rows
rows_back col [] = refl
rows_back col (row ∷ rows) = ap (λ l. row ∷ l) (rows_back col rows)

-- no more rows pass than there are
pub filter_count : (test : ℕ → Bool) (rows : List ℕ) → length (filter test rows) ≤ length rows
filter_count test [] = omega arith
filter_count test (row ∷ rows) = one_more (test row) (filter_count test rows)
  where
    one_more : (b : Bool) → length (filter test rows) ≤ length rows
        → length (cond b (row ∷ filter test rows) (filter test rows)) ≤ suc (length rows)
    one_more true h = omega (arith, h)
    one_more false h = omega (arith, h)

-- there are at most as many as the input has rows behind its first
pub cells_fit : (col a b : ℕ) (test : ℕ → Bool) (cells : List Place)
    → cells ≡ map (λ row. at row col) (filter test (numbers_from (a + 1) (b - a))) → length cells ≤ b - a
cells_fit col a b test cells are =
    omega (
      arith,
      ap length are,
      length-map (filter test (numbers_from (a + 1) (b - a))) (λ row. at row col),
      filter_count test (numbers_from (a + 1) (b - a)),
      numbers_count (a + 1) (b - a),
    )

-- the rows behind the first
rows_first : (a b : ℕ) → numbers_from (a + 1) (b + 1 - (a + 1)) ≡ numbers_from (a + 1) (b - a)
rows_first a b = ap (numbers_from (a + 1)) (let e : b + 1 - (a + 1) ≡ b - a = omega arith in e)

-- copies of the rows that stay, and what is left erased
pub moved : (sight : Sight) (input span : Extent) (kept slice : List Place) (first count : ℕ) (copies all : List Write)
    → span ≡ behind_first input → slice ≡ kept →
    copies ≡ rows_copied sight (columns_of span) (map row_of slice) (rows_of span)
    → first ≡ input.first.row + 1 + length kept → count ≡ input.last.row - input.first.row - length kept →
    all ≡ copies ++ rows_erased (columns_of input) (numbers_from first count)
    → all ≡ moved_up sight input (map row_of kept)
moved sight input span kept slice first count copies all same_span same_slice are begins counts is =
    let rows = map row_of kept in
    let many : length kept ≡ length rows = sym (length-map kept row_of) in
    let up = rows_copied sight (columns_of input) rows (rows_below input) in
    is
    ∙ ap (λ l. l ++ rows_erased (columns_of input) (numbers_from first count)) (
    are ∙ ap (λ (s : Extent). rows_copied sight (columns_of s) (map row_of slice) (rows_of s)) same_span
    ∙ ap (λ (l : List Place). rows_copied sight (columns_of input) (map row_of l) (rows_of (behind_first input)))
    same_slice
    ∙ ap (rows_copied sight (columns_of input) rows) (rows_first input.first.row input.last.row)
    )
    ∙ ap (λ k. up ++ rows_erased (columns_of input) (numbers_from k count)) begins
    ∙ ap (λ k. up ++ rows_erased (columns_of input) (numbers_from (input.first.row + 1 + length kept) k)) counts
    ∙ ap (λ k. up ++ rows_erased (columns_of input)
    (numbers_from (input.first.row + 1 + k) (input.last.row - input.first.row - k))) many
