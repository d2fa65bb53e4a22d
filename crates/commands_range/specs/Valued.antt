-- The values of a span as the contents of others.
use Rattle.std.specs.Prelude.{ℕ, ◌+◌, ◌-◌, List, map, Option, None, Some}
use Rattle.block_writes.specs.Writing.{at, value_copied}
use Rattle.command_desk.specs.Acting.{refused, written, Acted}
use Rattle.command_desk.specs.Writing.{sight_in}
use Rattle.commands_range.specs.declared.values.Layout.{Layout}
use Rattle.commands_range.specs.declared.values.Layout.TheVariants as layout
use Rattle.commands_range.specs.declared.values.ValueCopy.{ValueCopy}
use Rattle.desk_errors.specs.declared.error.CommandError.TheVariants as error
use Rattle.formula_parts.specs.Outlook.{cells_of, Sight}
use Rattle.formula_parts.specs.declared.look.Scene.{Scene}
use Rattle.grid_address.specs.Place.{height_of, width_of, Extent, Place}
use Rattle.sheet_edits.specs.Spans.{block_at}
use Rattle.sheet_store.specs.declared.writes.Write.{Write}
use Rattle.work_sheet.specs.Editing.{all_written}
use Rattle.work_sheet.specs.Seen.{Sheet}

-- how many rows are written
abbrev pub rows_in : Layout → Extent → ℕ
rows_in layout.Straight from = height_of from
rows_in layout.Turned from = width_of from

-- how many columns are written
abbrev pub cols_in : Layout → Extent → ℕ
cols_in layout.Straight from = width_of from
cols_in layout.Turned from = height_of from

-- the span that is written from a cell on, where it lies in the sheet
abbrev pub target_of : Layout → Extent → Place → Option Extent
target_of l from to = block_at to (rows_in l from) (cols_in l from)

-- the cell so many rows and columns from the first of a span
abbrev pub inside : Extent → ℕ → ℕ → Place
inside span down across = at (span.first.row + down) (span.first.col + across)

-- whose value is written so many rows and columns from the first written cell
abbrev pub source_at : Layout → Extent → ℕ → ℕ → Place
source_at layout.Straight from down across = inside from down across
source_at layout.Turned from down across = inside from across down

-- whose value a cell of the written span takes
abbrev pub source_of : ValueCopy → Place → Place
source_of x c = source_at x.layout x.from (c.row - x.target.first.row) (c.col - x.target.first.col)

-- what is written into a cell of that span: the value and the format of its source
abbrev pub value_of : ValueCopy → Sight → Place → Write
value_of x sight c = value_copied sight (source_of x c) c

-- what is written into the span, in row order; all of it is read before
abbrev pub values_of : ValueCopy → Sight → List Write
values_of x sight = map (value_of x sight) (cells_of x.target)

-- the values are written into the span
abbrev pub valued_into : ValueCopy → Scene → Sheet → Acted
valued_into x scene s = written (cells_of x.target) (all_written (values_of x (sight_in s)) s) scene s

-- they are, where it lies in the sheet
abbrev pub valued_onto : Option Extent → Layout → Extent → Scene → Sheet → Acted
valued_onto None l from scene s = refused (error.OutOfSheet from) s
valued_onto (Some target) l from scene s =
    valued_into (record { layout = l; from = from; target = target }) scene s

-- the values of a span are written from a cell on
abbrev pub valued_from : Layout → Extent → Place → Scene → Sheet → Acted
valued_from l from to scene s = valued_onto (target_of l from to) l from scene s
