-- Values are written in row order.
use Rattle.std.specs.Prelude.{ℕ, ◌≡◌, ◌+◌, ◌++◌, refl, List, [], ◌∷◌, map}
use Rattle.std.proofs.Common.{append_assoc, ap, sym, ◌∙◌}
use Rattle.std.proofs.lemmas.List.{append-nil, map-append}
use Rattle.commands_range.specs.Valued.{value_of, values_of}
use Rattle.commands_range.specs.declared.values.ValueCopy.{ValueCopy}
use Rattle.formula_parts.proofs.Blocks.{block_more, place, row_more}
use Rattle.formula_parts.specs.Outlook.{block_cells, cells_of, row_cells, Sight}
use Rattle.grid_address.specs.Place.{Place}
use Rattle.sheet_edits.specs.Spans.{written_cells}
use Rattle.sheet_store.specs.declared.writes.Write.{Write}

module _ (f : Place → Write) where
  -- nothing is made of no cell
  pub none_of_row : (old : List Write) (row col : ℕ) → old ≡ old ++ map f (row_cells row col 0)
  none_of_row old row col = sym (append-nil old)

  -- what was there, what is made of the cells of a row so far, and of one more
  pub pushed : (old now new : List Write) (row col n : ℕ) → now ≡ old ++ map f (row_cells row col n) →
      new ≡ now ++ f (place row (col + n)) ∷ [] → new ≡ old ++ map f (row_cells row col (n + 1))
  pushed old now new row col n so_far more =
      more ∙ ap (λ (l : List Write). l ++ f (place row (col + n)) ∷ []) so_far
      ∙ append_assoc old (map f (row_cells row col n)) (f (place row (col + n)) ∷ [])
      ∙ ap (λ (l : List Write). old ++ l)
      (sym (ap (map f) (row_more row col n) ∙ map-append f (row_cells row col n) (place row (col + n) ∷ [])))

  -- what is made of the rows so far, and of one more
  pub joined : (now new : List Write) (row col n cols : ℕ) → now ≡ map f (block_cells row col n cols) →
      new ≡ now ++ map f (row_cells (row + n) col cols) → new ≡ map f (block_cells row col (n + 1) cols)
  joined now new row col n cols so_far more =
      more ∙ ap (λ (l : List Write). l ++ map f (row_cells (row + n) col cols)) so_far
      ∙ sym (ap (map f) (block_more row col n cols)
      ∙ map-append f (block_cells row col n cols) (row_cells (row + n) col cols))

-- each cell is that of its write
module _ (x : ValueCopy) (sight : Sight) where
  cells_are : (cells : List Place) → written_cells (map (value_of x sight) cells) ≡ cells
  cells_are [] = refl
  cells_are (c ∷ cells) = ap (λ (t : List Place). c ∷ t) (cells_are cells)

  -- the written values stand in the cells of the target
  pub written_are : written_cells (values_of x sight) ≡ cells_of x.target
  written_are = cells_are (cells_of x.target)
