-- The commands below Worksheet.
use Rattle.std.specs.Prelude.{ℕ, Bool, true, false, List, [], ◌∷◌, Option, None, Some, Result, Ok, Err}
use Rattle.std.specs.List.{range_with_len}
use Rattle.command_desk.specs.Acting.{edited, finished, given, moved_by, Acted}
use Rattle.command_desk.specs.Answered.{span_at, whole_at}
use Rattle.command_desk.specs.Formats.{code_of}
use Rattle.command_desk.specs.declared.formats.FormatChoice.{FormatChoice}
use Rattle.command_desk.specs.declared.formats.FormatChoice.TheVariants as choice
use Rattle.commands_worksheet.specs.declared.lines.LineEdit.{LineEdit}
use Rattle.commands_worksheet.specs.declared.lines.LineEdit.TheVariants as lines
use Rattle.desk_errors.specs.declared.error.CommandError.{CommandError}
use Rattle.formula_parts.specs.declared.look.Scene.{Scene}
use Rattle.grid_address.specs.Place.{height_of, width_of, Extent}
use Rattle.lics_text.specs.declared.prefix.LabelPrefix.TheVariants.{Left, Right, Center}
use Rattle.menu_tree.specs.declared.menu.Action.TheVariants as action
use Rattle.menu_tree.specs.declared.menu.WorksheetAction.{WorksheetAction}
use Rattle.menu_tree.specs.declared.menu.WorksheetAction.TheVariants as worksheet
use Rattle.ref_adjust.specs.declared.change.Change.{Change}
use Rattle.ref_adjust.specs.declared.change.Change.TheVariants.{InsertRows, InsertColumns, DeleteRows, DeleteColumns}
use Rattle.sheet_shifts.specs.declared.shift.Shift.TheVariants.{Lines}
use Rattle.sheet_store.specs.Choices.{Choices}
use Rattle.sheet_store.specs.Grid.{set_hidden_of, Grid}
use Rattle.sheet_store.specs.declared.order.Order.TheVariants as order
use Rattle.work_sheet.specs.Doing.{quiet, Done}
use Rattle.work_sheet.specs.Editing.{reordered, restored, with_settings, with_width}
use Rattle.work_sheet.specs.Seen.{fresh_sheet, Sheet}

-- the sheet's format
abbrev pub with_format : FormatChoice → Choices → Choices
with_format f s = record s { format = code_of f }

-- settings that a number changes, or the error of its answer
abbrev pub changed_by : Result ℕ CommandError → (ℕ → Choices) → Result Choices CommandError
changed_by (Ok n) change = Ok (change n)
changed_by (Err e) change = Err e

-- the settings once the command's number is given
abbrev pub numbered : WorksheetAction → List (List ℕ) → (ℕ → Choices) → Result Choices CommandError
numbered a answers change = changed_by (whole_at (action.Worksheet a) answers 0) change

-- the settings once the decimals of the sheet's format are given
abbrev pub with_decimals : WorksheetAction → List (List ℕ) → (ℕ → FormatChoice) → Choices → Result Choices CommandError
with_decimals a answers f s = numbered a answers (λ n. with_format (f n) s)

-- the settings after a command that changes nothing else; any other command leaves them
abbrev pub settings_after : WorksheetAction → List (List ℕ) → Choices → Result Choices CommandError
settings_after worksheet.GlobalWidth answers s = numbered worksheet.GlobalWidth answers (λ n. record s { width = n })
settings_after worksheet.GlobalFixed answers s = with_decimals worksheet.GlobalFixed answers choice.Fixed s
settings_after worksheet.GlobalCurrency answers s = with_decimals worksheet.GlobalCurrency answers choice.Currency s
settings_after worksheet.GlobalComma answers s = with_decimals worksheet.GlobalComma answers choice.Comma s
settings_after worksheet.GlobalGeneral answers s = Ok (with_format choice.General s)
settings_after worksheet.GlobalPercent answers s = with_decimals worksheet.GlobalPercent answers choice.Percent s
settings_after worksheet.GlobalText answers s = Ok (with_format choice.Text s)
settings_after worksheet.GlobalHidden answers s = Ok (with_format choice.Hidden s)
settings_after worksheet.GlobalDate1 answers s = Ok (with_format choice.Date1 s)
settings_after worksheet.GlobalDate2 answers s = Ok (with_format choice.Date2 s)
settings_after worksheet.GlobalDate3 answers s = Ok (with_format choice.Date3 s)
settings_after worksheet.GlobalLeft answers s = Ok (record s { prefix = Left })
settings_after worksheet.GlobalRight answers s = Ok (record s { prefix = Right })
settings_after worksheet.GlobalCenter answers s = Ok (record s { prefix = Center })
settings_after worksheet.Automatic answers s = Ok (record s { automatic = true })
settings_after worksheet.Manual answers s = Ok (record s { automatic = false })
settings_after worksheet.Iteration answers s = numbered worksheet.Iteration answers (λ n. record s { passes = n })
settings_after worksheet.Enable answers s = Ok (record s { protection = true })
settings_after worksheet.Disable answers s = Ok (record s { protection = false })
settings_after a answers s = Ok s

-- the settings are changed
abbrev pub sets : WorksheetAction → List (List ℕ) → Sheet → Acted
sets a answers s = given (settings_after a answers s.settings) (λ settings. finished (with_settings settings s)) s

-- the columns of a span
abbrev pub columns_of : Extent → List ℕ
columns_of span = range_with_len span.first.col (width_of span)

-- columns are hidden, or shown
abbrev pub all_hidden : List ℕ → Bool → Grid → Grid
all_hidden [] hidden g = g
all_hidden (c ∷ cs) hidden g = all_hidden cs hidden (set_hidden_of g c hidden)

-- the columns of a span are hidden, or shown
abbrev pub hidden_in : Bool → Extent → Sheet → Done
hidden_in hidden span s = quiet (record s { grid = all_hidden (columns_of span) hidden s.grid })

-- hiding, and showing
abbrev pub hides : Bool → List (List ℕ) → Sheet → Acted
hides hidden answers s = given (span_at s.names answers 0) (λ span. finished (hidden_in hidden span s)) s

-- the pointer's column has a width of its own, or none
abbrev pub widened : Option ℕ → Sheet → Acted
widened width s = finished (with_width s.settings.pointer.col width s)

-- the pointer's column takes the width that is asked for
abbrev pub widens : List (List ℕ) → Sheet → Acted
widens answers s = given (whole_at (action.Worksheet worksheet.SetWidth) answers 0) (λ n. widened (Some n) s) s

-- what becomes of the columns or the rows of a span
abbrev pub change_of : LineEdit → Extent → Change
change_of lines.InsertColumns span = InsertColumns span.first.col (width_of span)
change_of lines.InsertRows span = InsertRows span.first.row (height_of span)
change_of lines.DeleteColumns span = DeleteColumns span.first.col (width_of span)
change_of lines.DeleteRows span = DeleteRows span.first.row (height_of span)

-- columns or rows come in or go, as many as a span has
abbrev pub line_edited : LineEdit → List (List ℕ) → Scene → Sheet → Acted
line_edited edit answers scene s =
    given (span_at s.names answers 0) (λ span. moved_by (Lines (change_of edit span)) scene s) s

-- a fresh sheet
abbrev pub erased : Scene → Sheet → Acted
erased scene s = edited scene (restored fresh_sheet.grid fresh_sheet.names fresh_sheet.settings s)

-- what a command below Worksheet does
abbrev pub act : WorksheetAction → List (List ℕ) → Scene → Sheet → Acted
act worksheet.Natural answers scene s = finished (reordered order.Natural s)
act worksheet.Columnwise answers scene s = finished (reordered order.Columnwise s)
act worksheet.Rowwise answers scene s = finished (reordered order.Rowwise s)
act worksheet.InsertColumn answers scene s = line_edited lines.InsertColumns answers scene s
act worksheet.InsertRow answers scene s = line_edited lines.InsertRows answers scene s
act worksheet.DeleteColumn answers scene s = line_edited lines.DeleteColumns answers scene s
act worksheet.DeleteRow answers scene s = line_edited lines.DeleteRows answers scene s
act worksheet.SetWidth answers scene s = widens answers s
act worksheet.ResetWidth answers scene s = widened None s
act worksheet.Hide answers scene s = hides true answers s
act worksheet.Display answers scene s = hides false answers s
act worksheet.Erase answers scene s = erased scene s
act a answers scene s = sets a answers s
