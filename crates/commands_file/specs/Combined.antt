-- What Combine makes of a sheet: cells of a file are written from the pointer on.
use Rattle.std.specs.Prelude.{◌+◌, ℤ, ◌+ℤ◌, ◌-ℤ◌, pos, Bool, true, false, not, ◌&&◌, nat_lt, List, [], ◌∷◌, flat_map, Option, None, Some, is_some, if◌then◌else◌, unwrap_or}
use Rattle.std.specs.FinMap as map
use Rattle.std.specs.List.{list_any}
use Rattle.block_writes.specs.Writing.{as_content, written}
use Rattle.command_desk.specs.Acting as acting
use Rattle.command_desk.specs.Acting.{refused, Acted}
use Rattle.commands_file.specs.declared.combining.Combining.{Combining}
use Rattle.commands_file.specs.declared.combining.Combining.TheVariants.{Copy, Subtract}
use Rattle.desk_errors.specs.declared.error.CommandError.TheVariants as error
use Rattle.fixed_value.specs.Numbers.{within}
use Rattle.formula_parts.specs.declared.look.Scene.{Scene}
use Rattle.formula_tree.specs.declared.value.Content.{Content}
use Rattle.formula_tree.specs.declared.value.Content.TheVariants as content
use Rattle.formula_tree.specs.declared.value.Value.{Value}
use Rattle.formula_tree.specs.declared.value.Value.TheVariants as value
use Rattle.grid_address.specs.Place.{Extent, Place}
use Rattle.grid_address.specs.Limits.{COLUMNS, ROWS}
use Rattle.sheet_edits.specs.Spans.{written_cells}
use Rattle.sheet_store.specs.Grid.{is_blank, last_used, Grid}
use Rattle.sheet_store.specs.State.{CellState}
use Rattle.sheet_store.specs.declared.writes.Write.{Write}
use Rattle.work_sheet.specs.Editing.{all_written}
use Rattle.work_sheet.specs.Seen.{Sheet}

-- a cell of the file with what it holds
abbrev pub Entry : Type 0
Entry = Place × CellState

-- whether a value is a number
abbrev pub is_number : Value → Bool
is_number (value.Num x) = true
is_number v = false

-- whether a file's cell is taken: all that are filled, or those whose value is a number
abbrev pub is_taken : Combining → CellState → Bool
is_taken Copy s = not (is_blank s.content)
is_taken _ s = is_number s.value

-- as far from the pointer as a cell is from A1
abbrev pub from_pointer : Place → Place → Place
from_pointer pointer c = record { row = pointer.row + c.row; col = pointer.col + c.col }

-- where a file's cell stands whose A1 stands at the pointer; none past the sheet
abbrev pub placed : Place → Place → Option Place
placed pointer c =
    if nat_lt (pointer.row + c.row) ROWS && nat_lt (pointer.col + c.col) COLUMNS
    then Some (from_pointer pointer c) else None

-- whether a file's cell is taken and would stand past the sheet
abbrev pub leaves_sheet : Combining → Place → Entry → Bool
leaves_sheet k pointer e = is_taken k e.1 && not (is_some (placed pointer e.0))

-- the number that a content is; nothing is 0, and any other content is none
abbrev pub number_in : Content → Option ℤ
number_in content.Blank = Some (pos 0)
number_in (content.Number x) = Some x
number_in _ = None

-- the number that a cell holds
abbrev pub number_held : Option CellState → Option ℤ
number_held None = Some (pos 0)
number_held (Some s) = number_in s.content

-- a number as a content; one beyond the size is @ERR
abbrev pub number_or_err : Option ℤ → Content
number_or_err (Some x) = content.Number x
number_or_err None = as_content value.Err

-- a file's number is added to a cell's, or subtracted from it
abbrev pub total : Combining → ℤ → ℤ → Option ℤ
total Subtract here x = within (here -ℤ x)
total k here x = within (here +ℤ x)

-- what is written into a cell that keeps its format, for its number and the file's
abbrev pub totalled : Combining → Place → Option ℤ → Value → List Write
totalled k to (Some here) (value.Num x) = written to (number_or_err (total k here x)) ∷ []
totalled k to here v = []

-- what is written of a file's cell that is taken: its content and its format, or its number with that of the cell
abbrev pub write_at : Combining → Grid → Place → CellState → List Write
write_at Copy g to s = record { cell = to; content = s.content; format = Some s.format } ∷ []
write_at k g to s = totalled k to (number_held (map.get g.cells to)) s.value

-- it is written where it stands in the sheet
abbrev pub write_placed : Combining → Grid → Option Place → CellState → List Write
write_placed k g None s = []
write_placed k g (Some to) s = write_at k g to s

-- what is written of a file's cell
abbrev pub write_of : Combining → Grid → Place → Entry → List Write
write_of k g pointer e = if is_taken k e.1 then write_placed k g (placed pointer e.0) e.1 else []

-- what is written of a file's cells, in row order
abbrev pub combined_writes : Combining → Grid → Grid → Place → List Write
combined_writes k file g pointer = flat_map (write_of k g pointer) (map.entries file.cells)

-- from A1 to the last used column and row; A1 alone where no cell is used
abbrev pub used_span : Grid → Extent
used_span g =
    record { first = record { row = 0; col = 0 }; last = unwrap_or (last_used g) (record { row = 0; col = 0 }) }

-- writes are made, where no protected cell refuses it
abbrev pub made : List Write → Scene → Sheet → Acted
made writes scene s = acting.written (written_cells writes) (all_written writes s) scene s

-- they are written
abbrev pub written_in : Combining → Grid → Scene → Sheet → Acted
written_in k file scene s = made (combined_writes k file s.grid s.settings.pointer) scene s

-- a file's cells are combined with those of the sheet, unless one of them would stand past it
abbrev pub combined : Combining → Grid → Scene → Sheet → Acted
combined k file scene s =
    if list_any (leaves_sheet k s.settings.pointer) (map.entries file.cells)
    then refused (error.OutOfSheet (used_span file)) s else written_in k file scene s
