-- What no event changes: what stands still.
use Rattle.std.proofs.Common.{◌≡◌, ℕ, Bool, true, false, Option, Some, None, refl, sym, ap, ◌∙◌}
use Rattle.std.specs.Prelude.{if◌then◌else◌, List, [], ◌∷◌}
use Rattle.cell_pointer.specs.declared.way.Way.{Way}
use Rattle.command_desk.specs.declared.ending.CommandEnd.{CommandEnd}
use Rattle.command_desk.specs.declared.ending.CommandEnd.TheVariants.{Finished, Quits, Refused}
use Rattle.commands_file.specs.Calls.{Reply}
use Rattle.commands_file.specs.Commands.{looked, FileActed}
use Rattle.commands_file.specs.declared.looking.Looked.{Looked}
use Rattle.commands_file.specs.declared.looking.Looked.TheVariants.{There, Unknown}
use Rattle.desk_errors.specs.declared.error.CommandError.{CommandError}
use Rattle.desk_errors.specs.declared.error.CommandError.TheVariants as error
use Rattle.entry_line.specs.Line.{Entry}
use Rattle.file_words.specs.Serving.{served_word, target_of, Served}
use Rattle.formula_eval.specs.Mean.{mean}
use Rattle.formula_parts.specs.declared.look.Scene.{Scene}
use Rattle.formula_tree.specs.declared.value.Content.{Content}
use Rattle.grid_address.specs.Place.{Place}
use Rattle.key_words.specs.declared.key.Key.{Key}
use Rattle.key_words.specs.declared.key.Key.TheVariants as key
use Rattle.macro_engine.specs.Keys.{broken_off, key_step, takes_key}
use Rattle.macro_engine.specs.Steps.{macro_named, macro_step, MacroStep}
use Rattle.macro_engine.specs.declared.steps.StepEnd.{StepEnd}
use Rattle.macro_engine.specs.declared.steps.StepEnd.TheVariants.{Faulty, Files, Indicates, Moves, Refused as Protects}
use Rattle.macro_engine.specs.declared.steps.StepEnd.TheVariants.{Types, Works}
use Rattle.macro_words.specs.declared.files.FileDeed.{FileDeed}
use Rattle.macro_words.specs.declared.running.Deed.{Deed}
use Rattle.menu_tree.specs.declared.menu.Action.{Action}
use Rattle.room_keys.specs.prompt.Opening.{opening}
use Rattle.room_keys.specs.declared.prompt.following.WhatFollows.{WhatFollows}
use Rattle.room_keys.specs.declared.prompt.following.WhatFollows.TheVariants.{Asks, Looks, Acts}
use Rattle.session_rooms.specs.declared.answers.AnsweredCommand.{AnsweredCommand}
use Rattle.session_rooms.specs.declared.turn.Turn.{Turn}
use Rattle.session_rooms.specs.declared.turn.Turn.TheVariants as turn
use Rattle.work_sheet.specs.Doing as doing
use Rattle.work_sheet.specs.Seen.{Sheet}
use Rattle.session_core.specs.Act.{act}
use Rattle.session_core.specs.Carrying.{acted, asked, behind, carried, done_by, entered, failed, finished, finished_as}
use Rattle.session_core.specs.Carrying.{going, is_pointer_protected, left_by, looked_as, looking, opened, started}
use Rattle.session_core.specs.Carrying.{started_at, undone_to}
use Rattle.session_core.specs.Entering.{meaning_of}
use Rattle.session_core.specs.Keeping.{begun_for}
use Rattle.session_core.specs.Machine.{and_further, is_running, pointer_of, quiet, sheet_of, with_channel, with_done}
use Rattle.session_core.specs.Machine.{with_macro, FrozenAreas, Outcome, Replies, State}
use Rattle.session_core.specs.Pressing.{turn_of}
use Rattle.session_core.specs.Step.{by_waiting_macro, come_to, event_done, event_taken, given, on_file, pressed_key}
use Rattle.session_core.specs.Step.{protected_target, run_on, seen_from, served_as, stepped, by_key, typed_into}
use Rattle.session_core.specs.declared.entering.Meant.{Meant}
use Rattle.session_core.specs.declared.entering.Meant.TheVariants.{Means, Faulty as Misread}
use Rattle.session_core.specs.declared.event.Event.{Event}
use Rattle.session_core.specs.declared.event.Event.TheVariants.{Key as KeyEvent, Unit as UnitEvent}
use Rattle.session_core.proofs.Begun.{begun_beside, ended_beside}

-- of two outcomes that leave it
either : (b : Bool) (p q : Outcome) (f : FrozenAreas) → p.state.frozen ≡ f → q.state.frozen ≡ f
    → (if b then p else q).state.frozen ≡ f
either true p q f one other = one
either false p q f one other = other

by_failing : (e : CommandError) (scene : Scene) (s : State) → (failed e scene s).state.frozen ≡ s.frozen
unfolding failed
by_failing e scene s = refl

by_entering : (x : Content) (way : Way) (scene : Scene) (s : State) → (entered x way scene s).state.frozen ≡ s.frozen
by_entering x way scene s =
    either (is_pointer_protected s) (failed (error.Protected (pointer_of s)) scene s)
    (and_further (with_done (doing.with_entry mean scene (pointer_of s) x (sheet_of s)) s) (going way)) s.frozen
    (by_failing (error.Protected (pointer_of s)) scene s) refl

by_meaning : (m : Meant) (way : Way) (line : Entry) (scene : Scene) (s : State)
    → (finished_as m way line scene s).state.frozen ≡ s.frozen
by_meaning (Means x) way line scene s = by_entering x way scene s
by_meaning (Misread at) way line scene s = refl

by_leaving : (end : CommandEnd) (a : Action) (scene : Scene) (s : State)
    → (left_by end a scene s).state.frozen ≡ s.frozen
by_leaving Finished a scene s = refl
by_leaving Quits a scene s = refl
by_leaving (Refused e) a scene s = by_failing e scene s

by_acting : (c : AnsweredCommand) (reply : Reply) (scene : Scene) (s : State)
    → (acted c reply scene s).state.frozen ≡ s.frozen
by_acting c reply scene s =
    let d : FileActed = act c.action c.answers scene s.desk reply in
    by_leaving d.acted.end c.action scene (done_by d s).state

by_looking : (k : Looked) (c : AnsweredCommand) (reply : Reply) (scene : Scene) (s : State)
    → (looked_as k c reply scene s).state.frozen ≡ s.frozen
by_looking (There true) c reply scene s = refl
by_looking (There false) c reply scene s = by_acting c reply scene s
by_looking (Unknown e) c reply scene s = by_failing e scene s

by_opening : (w : WhatFollows) (c : AnsweredCommand) (replies : Replies) (scene : Scene) (s : State)
    → (opened w c replies scene s).state.frozen ≡ s.frozen
by_opening (Asks how) c replies scene s = refl
by_opening Looks c replies scene s = by_looking (looked c.action c.answers replies.look).came c replies.act scene s
by_opening Acts c replies scene s = by_acting c replies.act scene s

by_start : (cell : Option Place) (s : State) → (started_at cell s).frozen ≡ s.frozen
by_start None s = refl
by_start (Some c) s = refl

by_starting : (b : Bool) (cell : Option Place) (s : State) → (if b then s else started_at cell s).frozen ≡ s.frozen
by_starting true cell s = refl
by_starting false cell s = by_start cell s

by_back : (kept : List Sheet) (scene : Scene) (s : State) → (undone_to kept scene s).state.frozen ≡ s.frozen
by_back [] scene s = by_failing error.NothingToUndo scene s
by_back (latest ∷ earlier) scene s = refl

by_turn : (t : Turn) (replies : Replies) (scene : Scene) (s : State)
    → (carried t replies scene s).state.frozen ≡ s.frozen
by_turn (turn.Become r) replies scene s = refl
by_turn (turn.Move way) replies scene s = refl
by_turn turn.Mark replies scene s = refl
by_turn (turn.Finish way line) replies scene s =
    by_meaning (meaning_of line.text (sheet_of s) (pointer_of s)) way line scene s
by_turn (turn.Ask c) replies scene s = by_opening (opening c (pointer_of s) s.desk.file_name) c replies scene s
by_turn (turn.Act c) replies scene s = by_acting c replies.act scene s
by_turn turn.Recalculate replies scene s = refl
by_turn (turn.Start letter) replies scene s = by_starting (is_running s) (macro_named (sheet_of s).names letter) s
by_turn turn.Undo replies scene s =
    either (is_running s) (quiet s) (undone_to s.history.kept scene s) s.frozen refl (by_back s.history.kept scene s)
by_turn (turn.Fail e) replies scene s = by_failing e scene s

by_taking : (k : Key) (replies : Replies) (scene : Scene) (s : State)
    → (by_key k replies scene s).state.frozen ≡ s.frozen
by_taking k replies scene s =
    let t : Turn = turn_of k s.room s.end s.desk in
    by_turn t replies scene (begun_for t (typed_into k s))
    ∙ ap (λ (u : State). u.frozen) (begun_beside t (typed_into k s)).is

by_serving : (x : Option Deed) (scene : Scene) (s : State) → (served_as x scene s).state.frozen ≡ s.frozen
by_serving None scene s = by_failing error.DiskError scene s
by_serving (Some d) scene s = refl

by_file : (cell : Option Place) (d : FileDeed) (replies : Replies) (scene : Scene) (s : State)
    → (on_file cell d replies scene s).state.frozen ≡ s.frozen
by_file (Some c) d replies scene s = by_failing (error.Protected c) scene s
by_file None d replies scene s =
    let x : Served = served_word d replies.look replies.act s.channel in
    by_serving x.deed scene (with_channel x.channel s)

by_end : (e : StepEnd) (replies : Replies) (scene : Scene) (s : State)
    → (come_to e replies scene s).state.frozen ≡ s.frozen
by_end (Types k) replies scene s = by_taking k replies scene s
by_end Moves replies scene s = refl
by_end Works replies scene s = refl
by_end (Indicates t) replies scene s = refl
by_end (Files d) replies scene s = by_file (protected_target (target_of d.word) s) d replies scene s
by_end (Faulty f c) replies scene s = refl
by_end (Protects c) replies scene s = by_failing (error.Protected c) scene s

by_step : (x : MacroStep) (replies : Replies) (scene : Scene) (s : State)
    → (stepped x replies scene s).state.frozen ≡ s.frozen
by_step x replies scene s =
    let t : State = (with_done x.done (with_macro x.running s)).state in
    by_end x.end replies (seen_from scene t) t

by_giving : (k : Key) (replies : Replies) (scene : Scene) (s : State)
    → (given k replies scene s).state.frozen ≡ s.frozen
by_giving k replies scene s =
    either (takes_key k s.running) (by_waiting_macro k replies scene s) (by_key k replies scene s) s.frozen
    (by_step (key_step scene k s.running (sheet_of s)) replies scene (record s { end = false }))
    (by_taking k replies scene s)

by_pressing : (k : Key) (replies : Replies) (scene : Scene) (s : State)
    → (pressed_key k replies scene s).state.frozen ≡ s.frozen
by_pressing key.Break replies scene s = by_taking key.Break replies scene (with_macro (broken_off s.running) s)
by_pressing (key.Byte b) replies scene s = by_giving (key.Byte b) replies scene s
by_pressing (key.Alt letter) replies scene s = by_giving (key.Alt letter) replies scene s
by_pressing key.Enter replies scene s = by_giving key.Enter replies scene s
by_pressing key.Up replies scene s = by_giving key.Up replies scene s
by_pressing key.Down replies scene s = by_giving key.Down replies scene s
by_pressing key.Left replies scene s = by_giving key.Left replies scene s
by_pressing key.Right replies scene s = by_giving key.Right replies scene s
by_pressing key.Home replies scene s = by_giving key.Home replies scene s
by_pressing key.End replies scene s = by_giving key.End replies scene s
by_pressing key.PgUp replies scene s = by_giving key.PgUp replies scene s
by_pressing key.PgDn replies scene s = by_giving key.PgDn replies scene s
by_pressing key.BigLeft replies scene s = by_giving key.BigLeft replies scene s
by_pressing key.BigRight replies scene s = by_giving key.BigRight replies scene s
by_pressing key.Esc replies scene s = by_giving key.Esc replies scene s
by_pressing key.Bs replies scene s = by_giving key.Bs replies scene s
by_pressing key.Del replies scene s = by_giving key.Del replies scene s
by_pressing key.Edit replies scene s = by_giving key.Edit replies scene s
by_pressing key.Name replies scene s = by_giving key.Name replies scene s
by_pressing key.Abs replies scene s = by_giving key.Abs replies scene s
by_pressing key.Goto replies scene s = by_giving key.Goto replies scene s
by_pressing key.Window replies scene s = by_giving key.Window replies scene s
by_pressing key.Query replies scene s = by_giving key.Query replies scene s
by_pressing key.Table replies scene s = by_giving key.Table replies scene s
by_pressing key.Calc replies scene s = by_giving key.Calc replies scene s
by_pressing key.Graph replies scene s = by_giving key.Graph replies scene s
by_pressing key.Undo replies scene s = by_giving key.Undo replies scene s

-- an event
pub by_event : (e : Event) (replies : Replies) (scene : Scene) (s : State)
    → (event_taken e replies scene s).state.frozen ≡ s.frozen
by_event (KeyEvent k) replies scene s = by_pressing k replies scene s
by_event UnitEvent replies scene s = by_step (macro_step scene s.running (sheet_of s)) replies scene s

-- and the end of a command
pub by_done : (e : Event) (replies : Replies) (changed : Bool) (scene : Scene) (s : State) →
    (event_done e replies changed scene s).state.frozen ≡ s.frozen
by_done e replies changed scene s =
    ap (λ (u : State). u.frozen) (ended_beside changed (event_taken e replies scene s).state).is
    ∙ by_event e replies scene s
