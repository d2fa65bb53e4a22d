-- One step of the session.
use Rattle.std.specs.Prelude.{◌≡◌, Bool, true, false, Option, None, Some, if◌then◌else◌}
use Rattle.commands_file.specs.Calls.{HasBrokenOver, HaveAnswered, ShelfView}
use Rattle.desk_errors.specs.declared.error.CommandError.TheVariants as error
use Rattle.formula_parts.specs.declared.look.Scene.{Scene}
use Rattle.key_words.specs.declared.key.Key.{Key}
use Rattle.key_words.specs.declared.key.Key.TheVariants as key
use Rattle.macro_engine.specs.Keys.{broken_off, key_step, takes_key}
use Rattle.file_words.specs.Serving.{served_word, target_of, Served}
use Rattle.grid_address.specs.Place.{Place}
use Rattle.macro_engine.specs.Steps.{carried_step, macro_step, MacroStep}
use Rattle.macro_engine.specs.declared.steps.StepEnd.{StepEnd}
use Rattle.macro_engine.specs.declared.steps.StepEnd.TheVariants.{Faulty, Files, Indicates, Moves, Refused, Types, Works}
use Rattle.macro_words.specs.declared.files.FileDeed.{FileDeed}
use Rattle.macro_words.specs.declared.running.Deed.{Deed}
use Rattle.screen_layout.specs.Corner.{corner_for}
use Rattle.sheet_edits.specs.Edits.{is_protected}
use Rattle.serial_date.specs.declared.moment.Moment.{Moment}
use Rattle.session_core.specs.Carrying.{behind_calls, carried, failed, recalculated, told}
use Rattle.session_core.specs.Faults.{fault_message}
use Rattle.session_core.specs.Keeping.{begun_for, command_ended, TellsChange}
use Rattle.session_core.specs.Machine.{afresh, and_further, followed_by, idle, pointer_of, quiet, scene_at, sheet_of}
use Rattle.session_core.specs.Machine.{with_channel, with_done, with_macro, Follows, Outcome, Replies, SessionView, State}
use Rattle.session_core.specs.Pressing.{turn_of}
use Rattle.session_core.specs.Refusing.{key_refused}
use Rattle.session_rooms.specs.declared.turn.Turn.{Turn}
use Rattle.session_core.specs.Frozen.{frozen_after, switches_of}
use Rattle.session_core.specs.Screen.{screen}
use Rattle.session_core.specs.declared.event.Event.{Event}
use Rattle.session_core.specs.declared.event.Event.TheVariants.{Key as KeyEvent, Unit as UnitEvent}

-- in READY, without END's mark, with what is refused of a key
abbrev pub typed_into : Key → State → State
typed_into k s = record (idle s) { refusal = key_refused k s.room }

-- what a key came to is carried out, where a command is begun if that can change the sheet
abbrev pub begun_and_carried : Turn → Replies → Scene → State → Outcome
begun_and_carried t replies scene s = carried t replies scene (begun_for t s)

-- What the key comes to is carried out in READY, without END's mark, whether it is pressed or a macro types it.
abbrev pub by_key : Key → Replies → Scene → State → Outcome
by_key k replies scene s = begun_and_carried (turn_of k s.room s.end s.desk) replies scene (typed_into k s)

-- seen from where the pointer now stands
abbrev pub seen_from : Scene → State → Scene
seen_from scene s = record scene { cursor = pointer_of s }

-- the cell that a word on a text file would write, where it is protected
abbrev pub protected_target : Option Place → State → Option Place
protected_target None s = None
protected_target (Some c) s = if is_protected (sheet_of s).settings (sheet_of s).grid c then Some c else None

-- the macro's own step, which makes no call
abbrev pub by_step : MacroStep → State → Outcome
by_step x s = with_done x.done (with_macro x.running s)

-- the macro does what its word on a text file came to; where the shelf failed that is an error
abbrev pub served_as : Option Deed → Scene → State → Outcome
served_as None scene s = failed error.DiskError scene s
served_as (Some d) scene s = by_step (carried_step scene d s.running (sheet_of s)) s

-- a word on a text file was carried out: its calls were made, and this is attached
abbrev pub behind_word : Served → Scene → State → Outcome
behind_word x scene s = behind_calls x.calls (served_as x.deed scene (with_channel x.channel s))

-- a word on a text file is carried out, by what is attached
abbrev pub by_word : FileDeed → Replies → Scene → State → Outcome
by_word d replies scene s = behind_word (served_word d replies.look replies.act s.channel) scene s

-- the same, unless the cell is protected that it would write
abbrev pub on_file : Option Place → FileDeed → Replies → Scene → State → Outcome
on_file (Some c) d replies scene s = failed (error.Protected c) scene s
on_file None d replies scene s = by_word d replies scene s

-- A word on a text file: where the cell is protected that it would write, that is an error before anything is done.
abbrev pub by_file : FileDeed → Replies → Scene → State → Outcome
by_file d replies scene s = on_file (protected_target (target_of d.word) s) d replies scene s

-- What follows behind a macro's step, by what it came to: a key that the macro types is taken, a word on a text file is
-- carried out, a fault stops the macro and is told, and a protected cell is an error.
abbrev pub come_to : StepEnd → Replies → Scene → State → Outcome
come_to (Types k) replies scene s = by_key k replies scene s
come_to Moves replies scene s = quiet s
come_to Works replies scene s = quiet s
come_to (Indicates t) replies scene s = quiet (record s { indicate = t })
come_to (Files d) replies scene s = by_file d replies scene s
come_to (Faulty f c) replies scene s = quiet (told (fault_message f c) s)
come_to (Refused c) replies scene s = failed (error.Protected c) scene s

-- a macro's step, and what follows it, seen from where the pointer then stands
abbrev pub stepped : MacroStep → Replies → Scene → State → Outcome
stepped x replies scene s =
    followed_by (by_step x s) (λ t. come_to x.end replies (seen_from scene t) t)

-- the macro that waits takes the key, which takes END's mark away; what the session is doing stays
abbrev pub by_waiting_macro : Key → Replies → Scene → State → Outcome
by_waiting_macro k replies scene s =
    stepped (key_step scene k s.running (sheet_of s)) replies scene (record s { end = false })

-- a key is the macro's, where that waits for it, or else the session's
abbrev pub given : Key → Replies → Scene → State → Outcome
given k replies scene s =
    if takes_key k s.running then by_waiting_macro k replies scene s else by_key k replies scene s

-- a key is pressed: BREAK is the session's, and stops a macro that hasn't switched it off
abbrev pub pressed_key : Key → Replies → Scene → State → Outcome
pressed_key key.Break replies scene s = by_key key.Break replies scene (with_macro (broken_off s.running) s)
pressed_key k replies scene s = given k replies scene s

-- the macro that runs makes its next step
abbrev pub run_on : Replies → Scene → State → Outcome
run_on replies scene s = stepped (macro_step scene s.running (sheet_of s)) replies scene s

-- the moment is this one
abbrev pub timed : Moment → State → State
timed now s = record s { day = now.day; second = now.second }

-- what is switched off stands still as the session shows it, unless it does already
abbrev pub frozen_as_shown : State → State
frozen_as_shown s = record s { frozen = frozen_after (screen s) (switches_of s.running) s.frozen }

-- the pointer's cell is shown, at this moment; what is switched off stands still as the session shows it before that
abbrev pub framed : Moment → State → State
framed now s = timed now (record (frozen_as_shown s) { corner = corner_for (sheet_of s) s.corner })

-- a key is pressed, or the macro that runs makes its next step
abbrev pub event_taken : Event → Replies → Scene → State → Outcome
event_taken (KeyEvent k) replies scene s = pressed_key k replies scene s
event_taken UnitEvent replies scene s = run_on replies scene s

-- a step before the screen follows it: where a command is at its end, it is kept if it changed the sheet
abbrev pub event_done : Event → Replies → Bool → Scene → State → Outcome
event_done event replies changed scene s = and_further (event_taken event replies scene s) (command_ended changed)

-- the answer tells whether a command that an event ends changed the sheet
abbrev pub EventTells : Event → Moment → Replies → Bool → State → Type 0
EventTells event now replies changed s = TellsChange changed (event_taken event replies (scene_at s now) s).state

-- the answer tells whether a command that a step ends changed the sheet
abbrev pub StepTells : Event → Moment → Replies → Bool → State → Type 0
StepTells event now replies changed s = EventTells event now replies changed (afresh s)

-- One step, over what the shelf answers in it and whether a command that it ends changed the sheet, and then the screen
-- follows it.
abbrev pub step : Event → Moment → Replies → Bool → State → Outcome
step event now replies changed s =
    and_further (event_done event replies changed (scene_at s now) (afresh s)) (framed now)

-- before the first step the sheet is recalculated, at this moment
abbrev pub loaded : Moment → State → Outcome
loaded now s = and_further (recalculated (scene_at s now) s) (timed now)

-- whether a key is pressed
abbrev pub is_key : Event → Bool
is_key (KeyEvent k) = true
is_key UnitEvent = false

-- A session made a step that ends the run or doesn't, over some answers of the shelf, which are those that what the
-- shelf holds gives, and over whether a command that it ends changed the sheet; its calls leave the shelf so.
pub record HasTakenStep (event : Event) (now : Moment) (ending : Bool) (a b : SessionView)
    (before after : ShelfView) : Type 0 where
  pub replies : Replies
  pub changed : Bool
  pub tells : StepTells event now replies changed a.state
  pub follows : Follows (step event now replies changed a.state) a b
  pub ends : (step event now replies changed a.state).ends ≡ ending
  pub answered : HaveAnswered (step event now replies changed a.state).calls before after

-- memory ran out in a step of the session, over some answers of the shelf
abbrev pub HasBrokenStep : Event → Moment → State → ShelfView → ShelfView → Type 0
HasBrokenStep event now s before after = HasBrokenOver (λ replies. (step event now replies false s).calls) before after
