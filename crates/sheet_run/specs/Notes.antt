-- The notes of a run.
use Rattle.std.specs.Prelude.{◌≡◌, ℕ, ◌+◌, ◌-◌, ◌≤◌, ◌⊎◌, Bool, Err, List, [], ◌∷◌, ◌++◌, length, take, Option, Some, None, codes, if◌then◌else◌}
use Rattle.std.specs.Option.{unwrap_or}
use Rattle.lics_text.specs.Ascii as ascii
use Rattle.grid_address.specs.Address.{decimal}
use Rattle.fixed_value.specs.Written.{short}
use Rattle.formula_tree.specs.declared.value.Value.{Value}
use Rattle.formula_tree.specs.declared.value.Value.TheVariants as value
use Rattle.grid_address.specs.Place.{Place}
use Rattle.file_faults.specs.Faults.{fault_text}
use Rattle.outside_world.specs.Causes.{Rose}
use Rattle.session_core.specs.Machine.{sheet_of, State}
use Rattle.session_core.specs.Standing.{left_in, refused}
use Rattle.sheet_store.specs.Grid.{Grid}
use Rattle.work_sheet.specs.Sheets.{value_told}
use Rattle.work_sheet.specs.Work.{Work}
use Rattle.sheet_run.specs.declared.drive.Ending.{Ending}
use Rattle.sheet_run.specs.declared.drive.Ending.TheVariants.{Undone, Refused, BadWord, KeysFailed, Stopped, NoMemory}
use Rattle.sheet_run.specs.declared.opening.NotRead.{NotRead}
use Rattle.sheet_run.specs.declared.opening.NotRead.TheVariants.{NoSuchFile, Faulty, DiskError}
use Rattle.sheet_run.specs.declared.options.Options.{Options}
use Rattle.sheet_run.specs.declared.options.Start.{Start}
use Rattle.sheet_run.specs.declared.options.Start.TheVariants as given

-- a line that begins with the program's name
abbrev pub note : List ℕ → List ℕ
note text = codes "1-2-3: " ++ text ++ ascii.line_feed ∷ []

-- the note on a refused word
abbrev pub refused_note : List ℕ → List ℕ
refused_note word = note (codes "bad word: " ++ word)

-- the note where memory ran out
abbrev pub memory_note : List ℕ
memory_note = note (codes "memory full")

-- why a start file isn't read
abbrev pub reason : NotRead → List ℕ
reason NoSuchFile = codes "no such file"
reason (Faulty f) = fault_text f
reason DiskError = codes "disk error"

-- the note on a start file that isn't read
abbrev pub file_note : List ℕ → NotRead → List ℕ
file_note name why = note (name ++ codes ": " ++ reason why)

-- the status where the start file isn't read
abbrev pub file_status : NotRead → ℕ
file_status DiskError = 6
file_status _ = 2

-- how many formulas were evaluated, where the words ask for it
abbrev pub count_of : Options → Work → Option ℕ
count_of o w = if o.count then Some w.count else None

-- the note on the count, where it is asked for
abbrev pub count_note : Option ℕ → List ℕ
count_note None = []
count_note (Some n) = note (codes "evaluations " ++ decimal n)

-- a value as a note tells it: a number with the places that it needs, a text as its bytes
abbrev pub told_value : Option Value → List ℕ
told_value (Some (value.Num n)) = short n 6
told_value (Some (value.Str text)) = text
told_value (Some value.Err) = codes "ERR"
told_value (Some value.Na) = codes "NA"
told_value _ = []

-- the cell with the sum of all rows of a generated sheet
abbrev pub sum_cell : ℕ → Place
sum_cell rows = record { row = rows - 1; col = 2 }

-- that cell's address, and the value that it then has
abbrev pub sum_text : ℕ → Option Value → List ℕ
sum_text rows v = codes "C" ++ decimal rows ++ ascii.space ∷ told_value v

-- the note on the sum of all rows
abbrev pub sum_note : ℕ → Grid → List ℕ
sum_note rows g = note (sum_text rows (value_told g (sum_cell rows)))

-- the note on how many rows there are
abbrev pub row_count_note : ℕ → List ℕ
row_count_note rows = note (codes "rows " ++ decimal rows)

-- the notes on a generated sheet: its rows, and the sum of all of them
abbrev pub generated_notes : ℕ → Grid → List ℕ
generated_notes rows g = row_count_note rows ++ sum_note rows g

-- they are told where the sheet was generated
abbrev pub rows_notes : Start → State → List ℕ
rows_notes (given.Rows rows) s = generated_notes rows (sheet_of s).grid
rows_notes _ s = []

-- the notes on the session, for which the words ask: those on a generated sheet, and the count of evaluations
abbrev pub session_notes : Options → State → Work → List ℕ
session_notes o s w = rows_notes o.start s ++ count_note (count_of o w)

-- the note where a display failed, as the flag says
abbrev pub display_note : Bool → List ℕ
display_note moved = if moved then note (codes "display failed") else []

-- the status where nothing else is found, by whether a display failed
abbrev pub display_status : Bool → ℕ
display_status moved = if moved then 7 else 0

-- the note on where a strict run stopped: behind so many steps and bytes, and why
abbrev pub stop_note : ℕ → ℕ → List ℕ → List ℕ
stop_note count at why = note (codes "step " ++ decimal count ++ codes " at byte " ++ decimal at ++ codes ": " ++ why)

-- The note of an ending that leaves a session in this state; the flag says whether a display failed.
abbrev pub ending_note : ℕ → State → Bool → Ending → List ℕ
ending_note limit s moved (Undone count at) = stop_note count at (codes "ended in " ++ left_in s)
ending_note limit s moved (Refused count at) = stop_note count at (unwrap_or (refused s) [])
ending_note limit s moved (BadWord at) = note (codes "bad key word at byte " ++ decimal at)
ending_note limit s moved KeysFailed = note (codes "keys failed")
ending_note limit s moved Stopped = note (codes "stopped after " ++ decimal limit ++ codes " steps")
ending_note limit s moved NoMemory = memory_note
ending_note limit s moved _ = display_note moved

-- the status of an ending; the flag says whether a display failed
abbrev pub ending_status : Bool → Ending → ℕ
ending_status moved (Undone count at) = 10
ending_status moved (Refused count at) = 10
ending_status moved (BadWord at) = 4
ending_status moved KeysFailed = 5
ending_status moved Stopped = 3
ending_status moved NoMemory = 9
ending_status moved _ = display_status moved

-- an ending that leaves a session that goes on
abbrev pub LeavesSession : Ending → Type 0
LeavesSession NoMemory = ⊥
LeavesSession _ = Unit {0}

-- where the notes tell their bytes, this text was added
abbrev pub AddsText : List ℕ → Option (List ℕ) → Option (List ℕ) → Type 0
AddsText text None now = now ≡ None
AddsText text (Some old) now = now ≡ Some (old ++ text)

-- where they tell them, a part of it was added, from its beginning on
abbrev pub AddsPart : List ℕ → Option (List ℕ) → Option (List ℕ) → Type 0
AddsPart text None now = now ≡ None
AddsPart text (Some old) now = (n : ℕ) × (n ≤ length text) × (now ≡ Some (old ++ take n text))

-- the text was written, or a write of it failed and no more was written
abbrev pub Tried : List ℕ → Option (List ℕ) → Option (List ℕ) → ℕ → ℕ → Type 0
Tried text before now faults faults' = (AddsText text before now × (faults' ≡ faults))
    ⊎ (AddsPart text before now × Rose faults faults')

-- the text was written and the status is the one found, or a write failed and the status is 8
abbrev pub Tells : List ℕ → ℕ → Option (List ℕ) → Option (List ℕ) → ℕ → ℕ → ℕ → Type 0
Tells text found before now faults faults' status = ((status ≡ found) × AddsText text before now × (faults' ≡ faults))
    ⊎ ((status ≡ 8) × AddsPart text before now × Rose faults faults')
