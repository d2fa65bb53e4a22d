-- The commands below Data > Table.
use Rattle.std.specs.Prelude.{ℕ, List, [], ◌∷◌, ◌++◌, map, Option, None, Some, option_map}
use Rattle.std.specs.List.{flat_map}
use Rattle.block_writes.specs.Writing.{at, rows_below}
use Rattle.command_desk.specs.Acting.{error_of, finished, first_protected, on_desk, refused, Acted, DeskActed}
use Rattle.command_desk.specs.Answered.{cell_at, span_at}
use Rattle.command_desk.specs.Desks.{Desk}
use Rattle.command_desk.specs.OnDesk as on_the_desk
use Rattle.data_blocks.specs.declared.ranges.DeskRanges.{DeskRanges}
use Rattle.data_blocks.specs.declared.ranges.LastTable.{LastTable}
use Rattle.data_blocks.specs.declared.ranges.LastTable.TheVariants as table
use Rattle.commands_data.specs.Kept.{if_finished}
use Rattle.commands_data.specs.Trying as trying
use Rattle.data_blocks.specs.Tables.{columns_behind, shape_fault}
use Rattle.data_blocks.specs.declared.fault.BlockFault.{BlockFault}
use Rattle.data_blocks.specs.declared.fault.BlockFault.TheVariants as fault
use Rattle.desk_errors.specs.declared.error.CommandError.{CommandError}
use Rattle.desk_errors.specs.declared.error.CommandError.TheVariants as error
use Rattle.formula_parts.specs.declared.look.Scene.{Scene}
use Rattle.grid_address.specs.Place.{Extent, Place}
use Rattle.work_sheet.specs.Doing.{quiet, Done}
use Rattle.work_sheet.specs.Seen.{Sheet}

-- the error of a block's fault
abbrev pub block_error : BlockFault → CommandError
block_error fault.ZeroStep = error.ZeroStep
block_error fault.NoTable = error.InvalidTable
block_error (fault.InputInTable cell) = error.InputInTable cell
block_error (fault.Sheet f) = error_of f
block_error fault.Memory = error.Memory

-- the cells of a table that take answers, in row order
abbrev pub answer_cells : Extent → List Place
answer_cells s = flat_map (λ row. map (at row) (columns_behind s)) (rows_below s)

-- the cells that a table writes: those that take its inputs, and then those that take answers
abbrev pub changed_cells : Extent → List Place → List Place
changed_cells span inputs = inputs ++ answer_cells span

-- a block's fault, and behind it the first protected one of the cells that are written
abbrev pub refusal_by : Option BlockFault → List Place → Sheet → Option CommandError
refusal_by (Some f) cells s = Some (block_error f)
refusal_by None cells s = option_map (λ c. error.Protected c) (first_protected cells s)

-- why a table with these input cells is refused: by its shape, or by protection
abbrev pub refusal : Extent → List Place → Sheet → Option CommandError
refusal span inputs s = refusal_by (shape_fault span inputs) (changed_cells span inputs) s

-- something is done, where nothing refuses it
abbrev pub unless : Option CommandError → Done → Sheet → Acted
unless None done s = finished done
unless (Some e) done s = refused e s

-- why a table is refused: where there is none, or by its shape, or by protection
abbrev pub refused_by : LastTable → Sheet → Option CommandError
refused_by table.Nothing s = Some error.InvalidTable
refused_by (table.One span input) s = refusal span (input ∷ []) s
refused_by (table.Two span down across) s = refusal span (down ∷ across ∷ []) s

-- what a table does that nothing refuses
abbrev pub tabled_by : LastTable → Scene → Sheet → Done
tabled_by table.Nothing scene s = quiet s
tabled_by (table.One span input) scene s = trying.table_one scene span input s
tabled_by (table.Two span down across) scene s = trying.table_two scene span down across s

-- a table is made
abbrev pub made : LastTable → Scene → Sheet → Acted
made t scene s = unless (refused_by t s) (tabled_by t scene s) s

-- a table is the last one
abbrev pub with_last : LastTable → DeskRanges → DeskRanges
with_last t r = record r { last_table = t }

-- a table that was made on a desk is the last one there
abbrev pub keeping : LastTable → DeskActed → DeskActed
keeping t a = record a { desk = record a.desk { ranges = if_finished a.end (with_last t) a.desk.ranges } }

-- a table is made on a desk
abbrev pub made_on : LastTable → Scene → Desk → DeskActed
made_on t scene d = keeping t (on_desk (made t scene) d)

module _ (answers : List (List ℕ)) (scene : Scene) (d : Desk) where
  -- the span that the first answer is
  abbrev pub with_span : (Extent → DeskActed) → DeskActed
  with_span next = on_the_desk.given (span_at d.sheet.names answers 0) next d

  -- the cell that the answer at a place is
  abbrev pub with_cell : ℕ → (Place → DeskActed) → DeskActed
  with_cell place next = on_the_desk.given (cell_at d.sheet.names answers place) next d

  -- table 1: the span, and the cell that takes its inputs
  abbrev pub table_one : DeskActed
  table_one = with_span (λ span. with_cell 1 (λ input. made_on (table.One span input) scene d))

  -- table 2: the span, and the cells that take the inputs of the first column and of the top row
  abbrev pub table_two : DeskActed
  table_two = with_span
      (λ span. with_cell 1 (λ down. with_cell 2 (λ across. made_on (table.Two span down across) scene d)))

-- the last table is made again; where there is none, that is an error
abbrev pub repeated : Scene → Desk → DeskActed
repeated scene d = made_on d.ranges.last_table scene d

-- no table is the last one
abbrev pub forgotten : Desk → DeskActed
forgotten d = on_the_desk.left (record d { ranges = with_last table.Nothing d.ranges })
