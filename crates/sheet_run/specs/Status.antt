-- What a run did, by its status.
use Rattle.std.specs.Prelude.{◌≡◌, ℕ, Bool, true, false, List, [], ◌∷◌, ◌++◌, Option, Some, Ok, Err}
use Rattle.std.specs.List.{filter}
use Rattle.commands_file.specs.Calls.{HaveAnswered, ShelfView}
use Rattle.serial_date.specs.declared.moment.Moment.{Moment}
use Rattle.work_sheet.specs.Work.{no_work, HasWorked, Work}
use Rattle.sheet_run.specs.Displays.{HasClosed, HasFailed, Partitions, Watched, same_kind, views_of}
use Rattle.sheet_run.specs.Run.{HasEnded}
use Rattle.sheet_run.specs.Notes.{LeavesSession, Tells, Tried, ending_note, ending_status, file_note, file_status, memory_note, refused_note, session_notes}
use Rattle.sheet_run.specs.Opening.{answer_of, asked_for, opening, BreaksOff, HasOpened, StartSheet}
use Rattle.sheet_run.specs.Options.{bounds_of, limit_of, shown_kind, words_read}
use Rattle.sheet_run.specs.Run.{after, happened, screens, Outside, RanOutOfMemory, Step}
use Rattle.sheet_run.specs.declared.drive.Ending.{Ending}
use Rattle.sheet_run.specs.declared.opening.NotRead.{NotRead}
use Rattle.sheet_run.specs.declared.options.Options.{Options}
use Rattle.sheet_run.specs.declared.options.Start.TheVariants as given

-- the outside, with the notes
pub record Surroundings : Type 0 where
  pub outside : Outside
  pub notes : Option (List ℕ)
  pub note_faults : ℕ

-- the surroundings of these parts
abbrev pub surroundings : Outside → Option (List ℕ) → ℕ → Surroundings
surroundings outside notes note_faults = record { outside = outside; notes = notes; note_faults = note_faults }

-- the outside where the displays of other kinds were dropped
abbrev pub asked : Options → Outside → Outside
asked o before = record before { displays = filter (λ v. same_kind v.kind (shown_kind o)) before.displays }

-- whether there is one
abbrev pub is_any : List Watched → Bool
is_any [] = false
is_any (d ∷ ds) = true

-- the outside once the displays that were left are closed
abbrev pub closed_outside : Outside → List Watched → List Watched → Outside
closed_outside middle left out = record middle { displays = views_of left; failed = middle.failed ++ views_of out }

-- the outside where the shelf was called, and nothing else but that displays of other kinds were dropped
abbrev pub shelved : Options → ShelfView → Outside → Outside
shelved o shelf before = record (asked o before) { shelf = shelf }

-- The run was opened, steps were made up to an ending that leaves the session, and each display that was left was
-- closed. The status is found, and the text is that of the notes.
pub record HasFinished (options : Options) (before now : Outside) (found : ℕ) (text : List ℕ) : Type 0 where
  pub start : StartSheet
  pub first : Moment
  pub begun : Outside
  pub opened : HasOpened options.start start first (asked options before) begun
  pub ending : Ending
  pub leaves : LeavesSession ending
  pub steps : List Step
  pub left : List Watched
  pub out : List Watched
  pub middle : Outside
  pub ended : HasEnded (bounds_of options) (opening start first).state steps left out begun middle ending
  pub work : Work
  pub worked : HasWorked ((opening start first).log ++ happened (opening start first).state steps) no_work work
  pub left_now : List Watched
  pub out_now : List Watched
  pub closed : Partitions (HasClosed (screens (opening start first).state steps))
      (HasFailed (screens (opening start first).state steps)) left left_now out_now
  pub now_is : now ≡ closed_outside middle left_now out_now
  pub found_is : found ≡ ending_status (is_any (out ++ out_now)) ending
  pub text_is : text ≡ session_notes options (after (opening start first).state steps) work
      ++ ending_note (limit_of options) (after (opening start first).state steps) (is_any (out ++ out_now)) ending

-- what a run with these options did, by its status
pub data RunsWith (options : Options) (before now : Surroundings) : ℕ → Type 0 where
  finished : (found : ℕ) (text : List ℕ) {status : ℕ} → HasFinished options before.outside now.outside found text →
      Tells text found before.notes now.notes before.note_faults now.note_faults status →
      RunsWith options before now status
  -- the start file was asked for and is no sheet, and no reading was taken
  not_read : (name : List ℕ) (why : NotRead) (shelf : ShelfView) {status : ℕ} → options.start ≡ given.File name →
      HaveAnswered (asked_for name (answer_of why)) before.outside.shelf shelf →
      now.outside ≡ shelved options shelf before.outside →
      Tells (file_note name why) (file_status why) before.notes now.notes before.note_faults now.note_faults status →
      RunsWith options before now status
  -- memory ran out before room was there for each display
  no_room : now.outside ≡ before.outside →
      Tried memory_note before.notes now.notes before.note_faults now.note_faults → RunsWith options before now 9
  -- memory ran out before the sheet was there, and no reading was taken
  no_sheet : (shelf : ShelfView) → BreaksOff options.start before.outside.shelf shelf →
      now.outside ≡ shelved options shelf before.outside →
      Tried memory_note before.notes now.notes before.note_faults now.note_faults → RunsWith options before now 9
  -- memory ran out while the sheet was recalculated, before the first step
  no_session : (start : StartSheet) (first : Moment) →
      HasOpened options.start start first (asked options before.outside) now.outside →
      Tried memory_note before.notes now.notes before.note_faults now.note_faults → RunsWith options before now 9
  -- memory ran out in a step; the displays have the screens of the finished steps
  no_memory : (start : StartSheet) (first : Moment) (begun : Outside) (steps : List Step)
      (left out : List Watched) → HasOpened options.start start first (asked options before.outside) begun →
      RanOutOfMemory (bounds_of options) (opening start first).state steps left out begun now.outside →
      Tried memory_note before.notes now.notes before.note_faults now.note_faults → RunsWith options before now 9

-- What a run did, by its status. Where the words are refused nothing but the notes was called.
pub data IsRun (words : List (List ℕ)) (before now : Surroundings) : ℕ → Type 0 where
  refused : (word : List ℕ) {status : ℕ} → words_read words ≡ Err word → now.outside ≡ before.outside →
      Tells (refused_note word) 1 before.notes now.notes before.note_faults now.note_faults status →
      IsRun words before now status
  ran : (options : Options) {status : ℕ} → words_read words ≡ Ok options → RunsWith options before now status →
      IsRun words before now status
  -- memory ran out while the note on the refused word was made
  no_note : (word : List ℕ) → words_read words ≡ Err word → now.outside ≡ before.outside →
      Tried memory_note before.notes now.notes before.note_faults now.note_faults → IsRun words before now 9
