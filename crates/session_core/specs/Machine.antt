-- The session as a machine over one map of cells, in which every formula is evaluated at each recalculation.
use Rattle.std.specs.Prelude.{◌≡◌, ℕ, Bool, false, is_some, not, ◌||◌, Option, None, List, [], ◌++◌}
use Rattle.cell_pointer.specs.Moves.{home}
use Rattle.command_desk.specs.Desks.{on_sheet, Desk}
use Rattle.commands_file.specs.Calls.{Asked, Reply}
use Rattle.formula_parts.specs.declared.look.Scene.{Scene}
use Rattle.grid_address.specs.Place.{Place}
use Rattle.macro_engine.specs.Keys.{awaits_key}
use Rattle.macro_words.specs.declared.running.Running.{Running}
use Rattle.serial_date.specs.declared.moment.Moment.{Moment}
use Rattle.session_rooms.specs.declared.rooms.Room.{Room}
use Rattle.session_rooms.specs.declared.rooms.Room.TheVariants.{Ready}
use Rattle.session_core.specs.declared.refusal.Refusal.{Refusal}
use Rattle.session_core.specs.declared.refusal.Refusal.TheVariants as refusal
use Rattle.sheet_undo.specs.Histories.{no_history, History}
use Rattle.text_channel.specs.declared.attached.Attached.{Attached}
use Rattle.work_sheet.specs.Doing.{with_pointer, Done, Happened}
use Rattle.work_sheet.specs.Seen.{Sheet}
use Rattle.work_sheet.specs.Work.{HasWorked, Work}

-- the screens whose lines stand still, where a macro has switched the panel or the windows off: lines 0 to 2 of the
-- one, and lines 3 to 23 of the other
pub record FrozenAreas : Type 0 where
  pub panel : Option (List (List ℕ))
  pub windows : Option (List (List ℕ))

-- The desk with the worksheet and its pointer, the cell at the top left of the screen, what the session is doing,
-- whether END waits for a moving key, the macro that runs, the text file that macros have attached, the text that a
-- macro put in the mode's place, what of the screen stands still, what the last step refused beside an error, the
-- states of the worksheet before the last commands, and the day and the second of the last step.
pub record State : Type 0 where
  pub desk : Desk
  pub corner : Place
  pub room : Room
  pub end : Bool
  pub running : Option Running
  pub channel : Option Attached
  pub indicate : List ℕ
  pub frozen : FrozenAreas
  pub refusal : Refusal
  pub history : History
  pub day : Option ℕ
  pub second : ℕ

-- a session: the machine's state, the work that was done, and whether memory ran out
pub record SessionView : Type 0 where
  pub state : State
  pub work : Work
  pub spent : Bool

-- nothing stands still
abbrev pub unfrozen : FrozenAreas
unfrozen = record { panel = None; windows = None }

-- the state of a session that begins with a desk
abbrev pub begun_with : Desk → State
begun_with d = record {
  desk = d;
  corner = home;
  room = Ready;
  end = false;
  running = None;
  channel = None;
  indicate = [];
  frozen = unfrozen;
  refusal = refusal.Nothing;
  history = no_history;
  day = None;
  second = 0;
}

-- a session that begins with a desk, and with the work that was done on it
abbrev pub begun : Desk → Work → SessionView
begun d w = record { state = begun_with d; work = w; spent = false }

-- a macro runs
abbrev pub is_running : State → Bool
is_running s = is_some s.running

-- it wants a key where no macro runs, or the one that runs waits for a key
abbrev pub wants_key : State → Bool
wants_key s = not (is_running s) || awaits_key s.running

-- the worksheet
abbrev pub sheet_of : State → Sheet
sheet_of s = s.desk.sheet

-- the worksheet becomes this one
abbrev pub with_sheet : Sheet → State → State
with_sheet sheet s = record s { desk = on_sheet s.desk sheet }

-- the pointer's cell
abbrev pub pointer_of : State → Place
pointer_of s = (sheet_of s).settings.pointer

-- the moment, and where the pointer stands before it moves
abbrev pub scene_at : State → Moment → Scene
scene_at s now = record { cursor = pointer_of s; now = now }

-- the session does this now
abbrev pub in_room : Room → State → State
in_room r s = record s { room = r }

-- in READY, without END's mark
abbrev pub idle : State → State
idle s = record s { room = Ready; end = false }

-- nothing is refused yet
abbrev pub afresh : State → State
afresh s = record s { refusal = refusal.Nothing }

-- this text file is attached, or none
abbrev pub with_channel : Option Attached → State → State
with_channel c s = record s { channel = c }

-- this macro runs, or none
abbrev pub with_macro : Option Running → State → State
with_macro r s = record s { running = r }

-- the pointer stands in a cell
abbrev pub pointing_at : Place → State → State
pointing_at p s = with_sheet (with_pointer p (sheet_of s)) s

-- what is made of a state: the next one, what happened in the sheet, whether the run ends, and the calls of the shelf
-- that were made, with their answers
pub record Outcome : Type 0 where
  pub state : State
  pub log : List Happened
  pub ends : Bool
  pub calls : List Asked

-- what the shelf answers in a step: whether the file is there that a command may replace, or how the text file is put
-- that a macro finishes; and the own call of the command or of the macro's word. Where no call is made any answer
-- serves.
pub record Replies : Type 0 where
  pub look : Reply
  pub act : Reply

-- nothing happens in the sheet
abbrev pub quiet : State → Outcome
quiet s = record { state = s; log = []; ends = false; calls = [] }

-- the sheet becomes what was done to it
abbrev pub with_done : Done → State → Outcome
with_done d s = record { state = with_sheet d.sheet s; log = d.log; ends = false; calls = [] }

-- an outcome's state is changed further, and nothing more happens in the sheet
abbrev pub and_further : Outcome → (State → State) → Outcome
and_further o change = record o { state = change o.state }

-- what follows an outcome, and happens behind it
abbrev pub followed_by : Outcome → (State → Outcome) → Outcome
followed_by o next = record {
  state = (next o.state).state;
  log = o.log ++ (next o.state).log;
  ends = (next o.state).ends;
  calls = o.calls ++ (next o.state).calls;
}

-- a session goes on to an outcome, with the work of what happened
pub record Follows (o : Outcome) (a b : SessionView) : Type 0 where
  pub state : b.state ≡ o.state
  pub work : HasWorked o.log a.work b.work
  pub spent : b.spent ≡ a.spent
