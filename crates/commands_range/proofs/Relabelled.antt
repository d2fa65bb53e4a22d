-- Labels are written in row order.
use Rattle.std.specs.Prelude.{◌++◌, List, [], ◌∷◌, flat_map, Option, None, Some}
use Rattle.std.specs.FinMap as map
use Rattle.std.specs.List.Sorted.{IsStrictlySortedBy}
use Rattle.recalculation.proofs.Filled.{Before}
use Rattle.recalculation.specs.inner.Laws.{Ascends}
use Rattle.commands_range.specs.Commands.{relabelled, relabelled_cell, relabelled_content}
use Rattle.formula_tree.specs.declared.value.Content.{Content}
use Rattle.formula_tree.specs.declared.value.Content.TheVariants as content
use Rattle.grid_address.specs.Place.{Extent, Place}
use Rattle.lics_text.specs.declared.prefix.LabelPrefix.{LabelPrefix}
use Rattle.recalculation.proofs.Ascending.{picked_ascends}
use Rattle.sheet_edits.specs.Spans.{written_cells}
use Rattle.sheet_store.specs.Grid.{any_state, cells_within, Grid}
use Rattle.sheet_store.specs.State.{CellState}
use Rattle.sheet_store.specs.declared.writes.Write.{Write}

module _ (prefix : LabelPrefix) (held : Place → Option CellState) where
  -- the labels of some cells
  abbrev labels : List Place → List Write
  labels cells = flat_map (λ c. relabelled_cell prefix c (held c)) cells

  -- a cell comes before the written ones where it comes before all
  before_labels : (x : Place) (cells : List Place) → Before x cells → Before x (written_cells (labels cells))
  before_labels x [] h = tt
  before_labels x (c ∷ cells) h = by (held c) (before_labels x cells h.1)
    where
      by_content : (k : Content) → Before x (written_cells (labels cells)) →
          Before x (written_cells (relabelled_content prefix c k ++ labels cells))
      by_content content.Blank b = b
      by_content (content.Number n) b = b
      by_content (content.Label p t) b = (h.0, b)
      by_content (content.Formula f) b = b

      by : (o : Option CellState) → Before x (written_cells (labels cells)) →
          Before x (written_cells (relabelled_cell prefix c o ++ labels cells))
      by None b = b
      by (Some s) b = by_content s.content b

  labels_ascend : (cells : List Place) → Ascends cells → Ascends (written_cells (labels cells))
  unfolding IsStrictlySortedBy
  labels_ascend [] a = tt
  labels_ascend (c ∷ cells) a = by (held c) (before_labels c cells a.0) (labels_ascend cells a.1)
    where
      by_content : (k : Content) → Before c (written_cells (labels cells)) → Ascends (written_cells (labels cells)) →
          Ascends (written_cells (relabelled_content prefix c k ++ labels cells))
      by_content content.Blank b t = t
      by_content (content.Number n) b t = t
      by_content (content.Label p l) b t = (b, t)
      by_content (content.Formula f) b t = t

      by : (o : Option CellState) → Before c (written_cells (labels cells)) → Ascends (written_cells (labels cells)) →
          Ascends (written_cells (relabelled_cell prefix c o ++ labels cells))
      by None b t = t
      by (Some s) b t = by_content s.content b t

-- the labels of a span are written in row order
pub relabelled_ascend : (prefix : LabelPrefix) (span : Extent) (g : Grid)
    → Ascends (written_cells (relabelled prefix span g))
relabelled_ascend prefix span g =
    labels_ascend prefix (λ c. map.get g.cells c) (cells_within g span) (picked_ascends any_state g span)
