-- The records that are extracted, by the cells that they are given by.
use Rattle.std.proofs.Common.{◌≡◌, ℕ, ◌-◌, ◌≤◌, List, map, length, cond, sym, ap, ◌∙◌, arith}
use Rattle.std.specs.Prelude.{Bool, true, false}
use Rattle.std.proofs.lemmas.List.{length-map}
use Rattle.grid_address.specs.Place.{Extent, Place}
use Rattle.formula_parts.specs.Outlook.{Outlook}
use Rattle.block_writes.specs.Writing.{at}
use Rattle.record_match.specs.Criteria.{record_matches}
use Rattle.data_query.specs.Extraction.{extracted_rows, same_record, without_repeats}
use Rattle.grid_address.specs.Lines.{last_row}
use Rattle.data_query.specs.Selection.{chosen}
use Rattle.data_query.specs.declared.output.OutputField.{OutputField}
use Rattle.data_query.proofs.Distinct.{fewer}
use Rattle.data_query.proofs.Records.{cells_fit, row_of, rows_back}

module _ (w : Outlook) (input criterion : Extent) where
  -- there are no more cells than the sheet has rows behind its first
  pub few_cells : (cells : List Place) → cells ≡ map (λ row. at row input.first.col) (chosen w input criterion)
      → input.last.row - input.first.row ≤ last_row → length cells ≤ last_row
  few_cells cells are inside =
      let few : length cells ≤ input.last.row - input.first.row =
      cells_fit input.first.col input.first.row input.last.row (record_matches w input criterion) cells are in
      omega (arith, few, inside)

  -- the rows of the cells
  rows_chosen : (cells : List Place) → cells ≡ map (λ row. at row input.first.col) (chosen w input criterion)
      → map row_of cells ≡ chosen w input criterion
  rows_chosen cells are = ap (map row_of) are ∙ rows_back input.first.col (chosen w input criterion)

  -- without Unique all chosen rows are extracted
  pub all_rows : (unique : Bool) (fields : List OutputField) (cells : List Place)
      → cells ≡ map (λ row. at row input.first.col) (chosen w input criterion) → unique ≡ false
      → map row_of cells ≡ extracted_rows w input criterion unique fields
  all_rows unique fields cells are all =
      rows_chosen cells are ∙ ap
      (λ (u : Bool). cond u (without_repeats (same_record w.sight fields) (chosen w input criterion))
      (chosen w input criterion)) (sym all)

  -- with it those that differ from all before
  pub rows_that_differ : (unique : Bool) (fields : List OutputField) (kept slice cells : List Place)
      → map row_of kept ≡ without_repeats (same_record w.sight fields) (map row_of slice) → slice ≡ cells →
      cells ≡ map (λ row. at row input.first.col) (chosen w input criterion) → unique ≡ true
      → map row_of kept ≡ extracted_rows w input criterion unique fields
  rows_that_differ unique fields kept slice cells differ same are some =
      differ ∙ ap (λ (l : List Place). without_repeats (same_record w.sight fields) (map row_of l)) same
      ∙ ap (without_repeats (same_record w.sight fields)) (rows_chosen cells are)
      ∙ ap (λ (u : Bool). cond u (without_repeats (same_record w.sight fields) (chosen w input criterion))
      (chosen w input criterion)) (sym some)

  -- there are at most as many as a sheet has rows below its first
  pub few_kept : (fields : List OutputField) (kept slice cells : List Place)
      → map row_of kept ≡ without_repeats (same_record w.sight fields) (map row_of slice) → slice ≡ cells →
      cells ≡ map (λ row. at row input.first.col) (chosen w input criterion)
      → input.last.row - input.first.row ≤ last_row → length kept ≤ last_row
  few_kept fields kept slice cells differ same are inside =
      let all : length cells ≤ last_row = few_cells cells are inside in
      let less : length (without_repeats (same_record w.sight fields) (map row_of slice)) ≤ length (map row_of slice) =
      fewer (same_record w.sight fields) (map row_of slice) in
      omega (arith, all, less, ap length differ, ap length same, length-map kept row_of, length-map slice row_of)
