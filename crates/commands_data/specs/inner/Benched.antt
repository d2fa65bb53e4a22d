-- A worksheet as a bench: how its cells take inputs, and get back what they held.
use Rattle.std.specs.Prelude.{◌≡◌, ◌&&◌, is_none, Bool, false, true, List, [], ◌∷◌}
use Rattle.std.specs.FinMap as cells
use Rattle.commands_data.specs.Trying.{content_at}
use Rattle.data_blocks.specs.Benches.{with_content, OnBench}
use Rattle.formula_tree.specs.declared.value.Content.{Content}
use Rattle.grid_address.specs.Place.{Place}
use Rattle.recalculation.specs.Context.{format_of}
use Rattle.sheet_edits.specs.Edits.{is_protected}
use Rattle.sheet_edits.specs.Spans.{written_cells}
use Rattle.sheet_store.specs.declared.writes.Write.{Write}
use Rattle.work_sheet.specs.Sheets.{value_told, Worksheet}

-- what cells hold after some writes, one after another
abbrev pub contents_behind : List Write → (Place → Content) → Place → Content
contents_behind [] held = held
contents_behind (w ∷ ws) held = contents_behind ws (with_content w.cell w.content held)

-- each write leaves its cell's format
abbrev pub keep_formats : List Write → Bool
keep_formats [] = true
keep_formats (w ∷ ws) = is_none w.format && keep_formats ws

-- a worksheet as a bench, with the writes that put back what its input cells held
abbrev pub on_bench : Worksheet → List Write → OnBench
on_bench w kept = record {
  answers = value_told w.grid;
  contents = content_at w.grid;
  guarded = is_protected w.settings w.grid;
  inputs = written_cells kept;
  kept = contents_behind kept (content_at w.grid);
}

-- a worksheet with the same settings and formats, and the same contents beside some cells
pub record IsSameBut (among : Place → Bool) (a b : Worksheet) : Type 0 where
  pub settings : b.settings ≡ a.settings
  pub formats : (c : Place) → format_of (cells.get b.grid.cells c) ≡ format_of (cells.get a.grid.cells c)
  pub contents : (c : Place) → among c ≡ false → content_at b.grid c ≡ content_at a.grid c
