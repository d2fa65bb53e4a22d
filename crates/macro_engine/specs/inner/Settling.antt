-- The rows that a write leaves to be changed by what follows it.
use Rattle.std.specs.Prelude.{◌≡◌, true, List}
use Rattle.cell_maps.specs.Sets.{has}
use Rattle.formula_eval.specs.Mean.{mean}
use Rattle.formula_parts.specs.declared.look.Scene.{Scene}
use Rattle.grid_address.specs.Place.{same_place, Place}
use Rattle.sheet_edits.specs.Spans.{written_cells}
use Rattle.sheet_store.specs.declared.writes.Write.{Write}
use Rattle.work_sheet.specs.Doing.{recalculated}
use Rattle.work_sheet.specs.Seen.{of_worksheet}
use Rattle.work_sheet.specs.Sheets.{Worksheet}
use Rattle.macro_engine.specs.RowSpans.{is_in, IsBeside}
use Rattle.macro_engine.specs.declared.row_span.RowSpan.{RowSpan}

-- A span has the rows of all cells that writes are for. Behind these a recalculation follows by itself, and whenever it
-- is it leaves all cells beside the span.
pub record CoversWrites (span : RowSpan) (ws : List Write) (w : Worksheet) : Type 0 where
  pub written : (c : Place) → has same_place (written_cells ws) c ≡ true → is_in span c.row ≡ true
  pub automatic : w.settings.automatic ≡ true
  pub settles : (scene : Scene)
      → IsBeside (is_in span) (of_worksheet w) (recalculated mean scene (of_worksheet w)).sheet
