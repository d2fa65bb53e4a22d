-- The commands below Range, Copy and Move.
use Rattle.std.specs.Prelude.{ℕ, Bool, true, false, List, [], ◌∷◌, flat_map, Option, None, Some, Result}
use Rattle.std.specs.FinMap as map
use Rattle.command_desk.specs.Acting.{finished, given, moved_by, refused, written, Acted}
use Rattle.command_desk.specs.Answered.{cell_at, line_at, span_at, whole_at}
use Rattle.command_desk.specs.Formats.{code_of}
use Rattle.command_desk.specs.declared.formats.FormatChoice.{FormatChoice}
use Rattle.command_desk.specs.declared.formats.FormatChoice.TheVariants as choice
use Rattle.commands_range.specs.Valued.{valued_from}
use Rattle.commands_range.specs.declared.values.Layout.{Layout}
use Rattle.commands_range.specs.declared.values.Layout.TheVariants as layout
use Rattle.desk_errors.specs.declared.error.CommandError.{CommandError}
use Rattle.desk_errors.specs.declared.error.CommandError.TheVariants as error
use Rattle.formula_parts.specs.declared.look.Scene.{Scene}
use Rattle.formula_tree.specs.declared.value.Content.{Content}
use Rattle.formula_tree.specs.declared.value.Content.TheVariants as content
use Rattle.grid_address.specs.Place.{Extent, Place}
use Rattle.lics_text.specs.declared.prefix.LabelPrefix.{LabelPrefix}
use Rattle.lics_text.specs.declared.prefix.LabelPrefix.TheVariants.{Left, Right, Center}
use Rattle.menu_tree.specs.declared.menu.Action.TheVariants as action
use Rattle.menu_tree.specs.declared.menu.RangeAction.{RangeAction}
use Rattle.menu_tree.specs.declared.menu.RangeAction.TheVariants as range
use Rattle.range_names.specs.Names.{fault_of, key_of}
use Rattle.range_names.specs.declared.fault.NameFault.{NameFault}
use Rattle.sheet_edits.specs.Spans.{target_of, with_code, with_mark, written_cells}
use Rattle.sheet_shifts.specs.declared.shift.Shift.TheVariants.{Block}
use Rattle.sheet_store.specs.Grid.{cells_within, Grid}
use Rattle.sheet_store.specs.State.{CellState}
use Rattle.sheet_store.specs.declared.writes.Write.{Write}
use Rattle.formula_parts.specs.Outlook.{cells_of}
use Rattle.work_sheet.specs.Doing.{Done}
use Rattle.work_sheet.specs.Editing as editing
use Rattle.work_sheet.specs.Seen.{Sheet}

-- a label with another prefix, for a cell that keeps its format
abbrev pub relabelled_content : LabelPrefix → Place → Content → List Write
relabelled_content prefix c (content.Label p text) =
    record { cell = c; content = content.Label prefix text; format = None } ∷ []
relabelled_content prefix c x = []

-- the label that a cell holds, with another prefix
abbrev pub relabelled_cell : LabelPrefix → Place → Option CellState → List Write
relabelled_cell prefix c None = []
relabelled_cell prefix c (Some s) = relabelled_content prefix c s.content

-- the labels of a span, with another prefix, in row order
abbrev pub relabelled : LabelPrefix → Extent → Grid → List Write
relabelled prefix span g = flat_map (λ c. relabelled_cell prefix c (map.get g.cells c)) (cells_within g span)

-- the decimals that the first answer is
abbrev pub decimals_of : List (List ℕ) → RangeAction → Result ℕ CommandError
decimals_of answers a = whole_at (action.Range a) answers 0

module _ (answers : List (List ℕ)) (s : Sheet) where
  -- the span that the answer at a place is
  abbrev pub with_span : ℕ → (Extent → Acted) → Acted
  with_span place next = given (span_at s.names answers place) next s

  -- the cells of a span take a format, and keep their protection marks
  abbrev pub formatted : FormatChoice → ℕ → Acted
  formatted f place = with_span place (λ span. finished (editing.reformatted span (with_code (code_of f)) s))

  -- they take a format with those decimals
  abbrev pub with_decimals : RangeAction → (ℕ → FormatChoice) → Acted
  with_decimals a f = given (decimals_of answers a) (λ n. formatted (f n) 1) s

  -- their protection marks are set, or taken away
  abbrev pub marked : Bool → Acted
  marked b = with_span 0 (λ span. finished (editing.reformatted span (with_mark b) s))

-- a text that can't be a name refuses a command
abbrev pub unless_faulty : Option NameFault → Acted → Sheet → Acted
unless_faulty None a s = a
unless_faulty (Some fault) a s = refused (error.InvalidName fault) s

-- a span has a name, which it takes from another where that has it
abbrev pub with_name : List ℕ → Extent → Sheet → Done
with_name name span s = editing.with_names (map.insert s.names (key_of name) span) s

-- the span that the second answer is takes a name
abbrev pub span_named : List ℕ → List (List ℕ) → Sheet → Acted
span_named name answers s = with_span answers s 1 (λ span. finished (with_name name span s))

-- the first answer becomes a name of the span that the second one is
abbrev pub name_created : List (List ℕ) → Sheet → Acted
name_created answers s = unless_faulty (fault_of (line_at answers 0)) (span_named (line_at answers 0) answers s) s

-- a name goes, where it is there
abbrev pub taken_away : Option Extent → List ℕ → Sheet → Acted
taken_away None name s = refused (error.NameNotFound 0) s
taken_away (Some span) name s = finished (editing.with_names (map.remove s.names (key_of name)) s)

-- a name goes
abbrev pub name_deleted : List ℕ → Sheet → Acted
name_deleted name s = unless_faulty (fault_of name) (taken_away (map.get s.names (key_of name)) name s) s

-- all names go
abbrev pub names_reset : Sheet → Acted
names_reset s = finished (editing.with_names map.empty s)

-- the cells of a span become blank
abbrev pub erased_span : Extent → Scene → Sheet → Acted
erased_span span scene s = written (cells_of span) (editing.erased span s) scene s

-- the labels of a span alone are written
abbrev pub labelled_span : LabelPrefix → Extent → Scene → Sheet → Acted
labelled_span prefix span scene s =
    written (written_cells (relabelled prefix span s.grid))
    (editing.all_written (relabelled prefix span s.grid) s) scene s

-- a copy onto a span, where it lies in the sheet
abbrev pub copied_onto : Option Extent → Extent → Scene → Sheet → Acted
copied_onto None from scene s = refused (error.OutOfSheet from) s
copied_onto (Some target) from scene s = written (cells_of target) (editing.copied from target s) scene s

module _ (answers : List (List ℕ)) (scene : Scene) (s : Sheet) where
  -- a span is erased
  abbrev pub erased : Acted
  erased = with_span answers s 0 (λ span. erased_span span scene s)

  -- the labels of a span take another prefix
  abbrev pub labelled : LabelPrefix → Acted
  labelled prefix = with_span answers s 0 (λ span. labelled_span prefix span scene s)

  -- a source of one column or one row is repeated over the target
  abbrev pub copied : Acted
  copied = with_span answers s 0 (λ from. with_span answers s 1 (λ to. copied_onto (target_of from to) from scene s))

  -- a span is moved to a cell
  abbrev pub moved : Acted
  moved = with_span answers s 0 (λ from. given (cell_at s.names answers 1) (λ to. moved_by (Block from to) scene s) s)

  -- the values of a span are written, laid out from a cell on
  abbrev pub valued : Layout → Acted
  valued l = with_span answers s 0 (λ from. given (cell_at s.names answers 1) (λ to. valued_from l from to scene s) s)

  -- what a command below Range does
  abbrev pub act : RangeAction → Acted
  act range.Erase = erased
  act range.Protect = marked answers s true
  act range.Unprotect = marked answers s false
  act range.Value = valued layout.Straight
  act range.Transpose = valued layout.Turned
  act range.Fixed = with_decimals answers s range.Fixed choice.Fixed
  act range.Currency = with_decimals answers s range.Currency choice.Currency
  act range.Comma = with_decimals answers s range.Comma choice.Comma
  act range.General = formatted answers s choice.General 0
  act range.Percent = with_decimals answers s range.Percent choice.Percent
  act range.Text = formatted answers s choice.Text 0
  act range.Hidden = formatted answers s choice.Hidden 0
  act range.Reset = formatted answers s choice.Default 0
  act range.Date1 = formatted answers s choice.Date1 0
  act range.Date2 = formatted answers s choice.Date2 0
  act range.Date3 = formatted answers s choice.Date3 0
  act range.LabelLeft = labelled Left
  act range.LabelRight = labelled Right
  act range.LabelCenter = labelled Center
  act range.NameCreate = name_created answers s
  act range.NameDelete = name_deleted (line_at answers 0) s
  act range.NameReset = names_reset s
