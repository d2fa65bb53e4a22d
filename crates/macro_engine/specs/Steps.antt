-- One step of a macro: its next unit, carried out over the sheet.
use Rattle.std.specs.Prelude.{◌≡◌, ℕ, Bool, true, false, [], ◌∷◌, Option, None, Some, Ok, Err, option_map}
use Rattle.lics_text.specs.Ascii as ascii
use Rattle.formula_parts.specs.declared.look.Scene.{Scene}
use Rattle.formula_text.specs.Words.{named_span}
use Rattle.grid_address.specs.Place.{Place}
use Rattle.macro_text.specs.Units.{next_unit, Next}
use Rattle.macro_text.specs.declared.position.Position.{Position}
use Rattle.macro_text.specs.declared.unit.MacroFault.{MacroFault}
use Rattle.macro_text.specs.declared.unit.Unit.{Unit}
use Rattle.macro_text.specs.declared.unit.Unit.TheVariants as unit
use Rattle.macro_words.specs.Moves.{moved}
use Rattle.macro_words.specs.Rows.{return_row, row, Row}
use Rattle.macro_words.specs.declared.running.Change.{Change}
use Rattle.macro_words.specs.declared.running.Change.TheVariants as change
use Rattle.macro_words.specs.declared.running.Deed.{Deed}
use Rattle.macro_words.specs.declared.running.Move.{Move}
use Rattle.macro_words.specs.declared.running.Move.TheVariants as move
use Rattle.macro_words.specs.declared.running.Running.{Running}
use Rattle.range_names.specs.Names.{NameMap}
use Rattle.work_sheet.specs.Did.{Did}
use Rattle.work_sheet.specs.Doing.{quiet, Done}
use Rattle.work_sheet.specs.Seen.{Sheet}
use Rattle.work_sheet.specs.Sheets.{Worksheet}
use Rattle.macro_engine.specs.Changes.{changed, changed_cells, refused_cell, outlook_in}
use Rattle.macro_engine.specs.declared.steps.StepEnd.{StepEnd}
use Rattle.macro_engine.specs.declared.steps.StepEnd.TheVariants.{Faulty, Files, Indicates, Moves, Refused, Types, Works}

-- what a step came to, the macro behind it, which stopped where there is none, and what was done to the sheet
pub record MacroStep : Type 0 where
  pub end : StepEnd
  pub running : Option Running
  pub done : Done

-- a fault stops the macro, and changes nothing; its cell is that of the word
abbrev pub faulty : MacroFault → Place → Sheet → MacroStep
faulty f c s = record { end = Faulty f c; running = None; done = quiet s }

-- the sheet stays, and so does the macro
abbrev pub idle : StepEnd → Running → Sheet → MacroStep
idle end r s = record { end = end; running = Some r; done = quiet s }

-- a protected cell refuses what was to be written, and the macro stays
abbrev pub unless_protected : Option Place → MacroStep → Running → Sheet → MacroStep
unless_protected None step r s = step
unless_protected (Some c) step r s = idle (Refused c) r s

-- what a word comes to that changes this of the sheet
abbrev pub worked : Change → StepEnd
worked change.Nothing = Moves
worked _ = Works

-- what a word comes to: it may have a text for the mode's place, or ask for something of a text file
abbrev pub ended : Change → Move → StepEnd
ended x (move.Indicate t) = Indicates t
ended x (move.Files d) = Files d
ended x _ = worked x

-- a word changes the sheet, and moves the macro
abbrev pub deed_step : Scene → Running → Deed → Sheet → MacroStep
deed_step scene r d s = unless_protected (refused_cell s (changed_cells d.change))
    (record { end = ended d.change d.after; running = moved d.after r; done = changed scene d.change s }) r s

-- what the word in a cell does, or its fault
abbrev pub row_step : Scene → Running → Place → Row → Sheet → MacroStep
row_step scene r c (Ok d) s = deed_step scene r d s
row_step scene r c (Err f) s = faulty f c s

-- the cell in which a macro is read
abbrev pub cell_of : Running → Place
cell_of r = r.position.spot.cell

-- the format of a sheet
abbrev pub format_in : Sheet → ℕ
format_in s = s.settings.format

-- A unit of a macro, which stands behind it already. A key is typed, and changes nothing itself.
abbrev pub unit_step : Scene → Running → Unit → Sheet → MacroStep
unit_step scene r (unit.Key k) s = idle (Types k) r s
unit_step scene r (unit.Command at) s = row_step scene r at.cell (row (outlook_in scene s) (format_in s) r at) s
unit_step scene r unit.Down s = idle Moves r s
unit_step scene r unit.Return s = row_step scene r (cell_of r) (return_row (outlook_in scene s) r) s
unit_step scene r (unit.Fault f) s = faulty f (cell_of r) s

-- the macro goes on at a position
abbrev pub placed : Running → Position → Running
placed r p = record r { position = p }

-- the next unit of a macro
abbrev pub next_step : Scene → Running → Next → Sheet → MacroStep
next_step scene r n s = unit_step scene (placed r n.1) n.0 s

-- One step of the macro that runs, by the sheet as it now stands. Where none runs there is nothing to do.
unfoldable pub macro_step : Scene → Option Running → Sheet → MacroStep
macro_step scene None s = record { end = Works; running = None; done = quiet s }
macro_step scene (Some r) s = next_step scene r (next_unit (outlook_in scene s) r.position) s

-- The macro that runs does a deed, behind a step that asked for something of a text file. Where none runs there is
-- nothing to do.
unfoldable pub carried_step : Scene → Deed → Option Running → Sheet → MacroStep
carried_step scene d None s = record { end = Works; running = None; done = quiet s }
carried_step scene d (Some r) s = deed_step scene r d s

-- whether a step that came to this surely left the sheet as it was
abbrev pub leaves_sheet : StepEnd → Bool
leaves_sheet (Types k) = true
leaves_sheet Moves = true
leaves_sheet Works = false
leaves_sheet (Indicates t) = false
leaves_sheet (Files d) = false
leaves_sheet (Faulty f c) = true
leaves_sheet (Refused c) = true

-- A step that came to this end left this macro, made of a worksheet another, and of a count of evaluations another.
pub record HasStepped (x : MacroStep) (came : StepEnd) (now : Option Running) (v w : Worksheet) (m n : ℕ) : Type 0 where
  pub end : came ≡ x.end
  pub running : now ≡ x.running
  pub did : Did x.done v w m n

-- ---- the beginning of a macro

-- the macro of a letter begins at the first cell of the name that is a backslash and the letter
abbrev pub macro_named : NameMap → ℕ → Option Place
macro_named names letter = option_map (λ span. span.first) (named_span names (ascii.backslash ∷ letter ∷ []))
