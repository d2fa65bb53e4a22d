-- What a sheet tells its formulas.
use Rattle.std.specs.Prelude.{ℕ, ◌≡◌, Option, None, Some}
use Rattle.std.specs.FinMap as map
use Rattle.grid_address.specs.Formats.{default_format}
use Rattle.grid_address.specs.Place.{Place}
use Rattle.range_names.specs.Names.{NameMap}
use Rattle.formula_tree.specs.Tree.{Tree}
use Rattle.formula_tree.specs.declared.value.Content.{Content}
use Rattle.formula_tree.specs.declared.value.Content.TheVariants as content
use Rattle.sheet_store.specs.Choices.{Choices}
use Rattle.sheet_store.specs.Grid.{value_at, width_of, Grid}
use Rattle.sheet_store.specs.State.{CellState}
use Rattle.formula_parts.specs.Outlook.{Outlook, Sight}
use Rattle.formula_parts.specs.Scenes.{outlook_of}
use Rattle.formula_parts.specs.declared.look.Scene.{Scene}
use Rattle.recalculation.specs.declared.context.ContextRef.{ContextRef}

-- what formulas look at beside the cells and the columns
pub record Context : Type 0 where
  pub names : NameMap
  pub settings : Choices
  pub scene : Scene

-- names, settings and what the outside tells, as formulas look at them together
abbrev pub context_of : NameMap → Choices → Scene → Context
context_of names settings scene = record { names = names; settings = settings; scene = scene }

-- what a borrowed context tells
abbrev pub seen_context : ContextRef → Context
seen_context x = context_of x.names.now x.settings.now x.scene.now

-- the content of what is held of a cell, where something is
abbrev pub content_of : Option CellState → Option Content
content_of None = None
content_of (Some s) = Some s.content

-- a cell that isn't there has the default format
abbrev pub format_of : Option CellState → ℕ
format_of None = default_format
format_of (Some s) = s.format.0

-- a content's formula, where it is one
abbrev pub formula_in : Content → Option Tree
formula_in (content.Formula f) = Some f
formula_in _ = None

-- the formula in what is held of a cell
abbrev pub formula_of : Option CellState → Option Tree
formula_of None = None
formula_of (Some s) = formula_in s.content

-- the formula that a cell has in the grid
abbrev pub formula_at : Grid → Place → Option Tree
formula_at g c = formula_of (map.get g.cells c)

-- a column without a width of its own has the sheet's
abbrev pub width_or : ℕ → Option ℕ → ℕ
width_or global None = global
width_or global (Some n) = n

-- what formulas see of the sheet: of each cell its value, content and format, of each column its width, and the
-- names
abbrev pub sight_of : NameMap → Choices → Grid → Sight
sight_of names settings g = record {
  values = value_at g;
  contents = λ c. content_of (map.get g.cells c);
  formats = λ c. format_of (map.get g.cells c);
  widths = λ col. width_or settings.width (width_of g col);
  names = names;
}

-- what formulas see of the sheet, with the moment and the machine outside it
abbrev pub outlook_at : Context → Grid → Outlook
outlook_at x g = outlook_of (sight_of x.names x.settings g) x.scene
