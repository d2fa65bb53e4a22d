-- A step has one outcome, over the files that the shelf holds.
use Rattle.std.proofs.Common.{◌≡◌, Bool, true, false, List, Option, None, Some, ap, refl, subst, sym, ◌∙◌}
use Rattle.std.specs.Prelude.{if◌then◌else◌}
use Rattle.commands_file.specs.Alike.{HoldAlike}
use Rattle.commands_file.specs.Calls.{Asked, Reply, ShelfView}
use Rattle.commands_file.specs.Commands.{looked, Looking}
use Rattle.commands_file.specs.declared.looking.Looked.{Looked}
use Rattle.commands_file.specs.declared.looking.Looked.TheVariants.{There, Unknown}
use Rattle.file_words.specs.Serving.{served_word, target_of, Served}
use Rattle.formula_parts.specs.declared.look.Scene.{Scene}
use Rattle.grid_address.specs.Place.{Place}
use Rattle.key_words.specs.declared.key.Key.{Key}
use Rattle.key_words.specs.declared.key.Key.TheVariants as key
use Rattle.macro_engine.specs.Keys.{broken_off, key_step, takes_key}
use Rattle.macro_engine.specs.Steps.{macro_step, MacroStep}
use Rattle.macro_engine.specs.declared.steps.StepEnd.{StepEnd}
use Rattle.macro_engine.specs.declared.steps.StepEnd.TheVariants.{Faulty, Files, Indicates, Moves, Refused, Types}
use Rattle.macro_engine.specs.declared.steps.StepEnd.TheVariants.{Works}
use Rattle.macro_words.specs.declared.files.FileDeed.{FileDeed}
use Rattle.room_keys.specs.prompt.Opening.{opening}
use Rattle.room_keys.specs.declared.prompt.following.WhatFollows.{WhatFollows}
use Rattle.room_keys.specs.declared.prompt.following.WhatFollows.TheVariants.{Asks, Looks, Acts}
use Rattle.serial_date.specs.declared.moment.Moment.{Moment}
use Rattle.session_core.specs.Act.{act}
use Rattle.session_core.specs.Carrying.{acted, behind, behind_calls, carried, done_by, left_by, looked_as}
use Rattle.session_core.specs.Carrying.{looking, opened}
use Rattle.session_core.specs.Keeping.{begun_for, command_ended, is_at_end, TellsChange}
use Rattle.session_core.specs.Machine.{afresh, and_further, followed_by, pointer_of, scene_at, sheet_of, with_channel}
use Rattle.session_core.specs.Machine.{with_macro, Outcome, Replies, State}
use Rattle.session_core.specs.Pressing.{turn_of}
use Rattle.session_core.specs.Step.{by_waiting_macro, behind_word, by_step, by_word, come_to, event_taken, framed}
use Rattle.session_core.specs.Step.{given, on_file, pressed_key, protected_target, seen_from, served_as, step}
use Rattle.session_core.specs.Step.{stepped, by_key, typed_into, StepTells}
use Rattle.session_core.specs.Unfailing.{WereAnswered}
use Rattle.session_core.specs.declared.event.Event.{Event}
use Rattle.session_core.specs.declared.event.Event.TheVariants.{Key as KeyEvent, Unit as UnitEvent}
use Rattle.session_rooms.specs.declared.answers.AnsweredCommand.{AnsweredCommand}
use Rattle.session_rooms.specs.declared.turn.Turn.{Turn}
use Rattle.session_rooms.specs.declared.turn.Turn.TheVariants as turn
use Rattle.sheet_undo.specs.Histories.{Tells}
use Rattle.work_sheet.specs.Seen.{Sheet}
use Rattle.session_core.proofs.Begun.{not_over}
use Rattle.session_core.proofs.OneCommand.{act_one, file_calls, look_calls, look_one}
use Rattle.session_core.proofs.OneResult.{behind_one, by_act, left_alike, made_of, one_by_one, IsOne}
use Rattle.session_core.proofs.OneServing.{served_calls, served_one}

-- the calls of an outcome
abbrev outcome_calls : Outcome → List Asked
outcome_calls o = o.calls

-- a command is carried out
acted_one : (c : AnsweredCommand) (scene : Scene) (s : State) → IsOne outcome_calls (λ (r : Reply). acted c r scene s)
acted_one c scene s =
    behind_one file_calls outcome_calls (λ d. (left_by d.acted.end c.action scene (done_by d s).state).calls)
    (λ (r : Reply). act c.action c.answers scene s.desk r) (λ d. behind d c.action scene s)
    (act_one c.action c.answers scene s.desk) (λ d. refl)

-- what a look came to, and what follows it
came_one : (came : Looked) (c : AnsweredCommand) (scene : Scene) (s : State) →
    IsOne outcome_calls (λ (r : Reply). looked_as came c r scene s)
came_one (There true) c scene s = λ r q x y z u alike w w'. refl
came_one (There false) c scene s = acted_one c scene s
came_one (Unknown e) c scene s = λ r q x y z u alike w w'. refl

looking_one : (c : AnsweredCommand) (scene : Scene) (s : State) →
    IsOne outcome_calls (λ (rs : Replies). looking c rs scene s)
looking_one c scene s =
    one_by_one look_calls outcome_calls outcome_calls (looked c.action c.answers)
    (λ (look : Looking) (r : Reply). looked_as look.came c r scene s)
    (λ (look : Looking) (o : Outcome). behind_calls look.calls o)
    (look_one c.action c.answers) (λ look. came_one look.came c scene s) (λ look r. refl)

opened_one : (follows : WhatFollows) (c : AnsweredCommand) (scene : Scene) (s : State) →
    IsOne outcome_calls (λ (rs : Replies). opened follows c rs scene s)
opened_one (Asks how) c scene s = λ r q x y z u alike w w'. refl
opened_one Looks c scene s = looking_one c scene s
opened_one Acts c scene s = by_act outcome_calls (λ (r : Reply). acted c r scene s) (acted_one c scene s)

-- what a key comes to is carried out
carried_one : (t : Turn) (scene : Scene) (s : State) → IsOne outcome_calls (λ (rs : Replies). carried t rs scene s)
carried_one (turn.Become r) scene s = λ rs qs x y z u alike w w'. refl
carried_one (turn.Move way) scene s = λ rs qs x y z u alike w w'. refl
carried_one turn.Mark scene s = λ rs qs x y z u alike w w'. refl
carried_one (turn.Finish way line) scene s = λ rs qs x y z u alike w w'. refl
carried_one (turn.Ask c) scene s = opened_one (opening c (pointer_of s) s.desk.file_name) c scene s
carried_one (turn.Act c) scene s = by_act outcome_calls (λ (r : Reply). acted c r scene s) (acted_one c scene s)
carried_one turn.Recalculate scene s = λ rs qs x y z u alike w w'. refl
carried_one (turn.Start letter) scene s = λ rs qs x y z u alike w w'. refl
carried_one turn.Undo scene s = λ rs qs x y z u alike w w'. refl
carried_one (turn.Fail e) scene s = λ rs qs x y z u alike w w'. refl

taken_one : (k : Key) (scene : Scene) (s : State) → IsOne outcome_calls (λ (rs : Replies). by_key k rs scene s)
taken_one k scene s =
    let t : Turn = turn_of k s.room s.end s.desk in
    carried_one t scene (begun_for t (typed_into k s))

-- a word on a text file is carried out
word_one : (d : FileDeed) (scene : Scene) (s : State) → IsOne outcome_calls (λ (rs : Replies). by_word d rs scene s)
word_one d scene s =
    behind_one served_calls outcome_calls (λ (x : Served). (served_as x.deed scene (with_channel x.channel s)).calls)
    (λ (rs : Replies). served_word d rs.look rs.act s.channel) (λ (x : Served). behind_word x scene s)
    (served_one d.word d.done s.channel) (λ x. refl)

file_one : (target : Option Place) (d : FileDeed) (scene : Scene) (s : State) →
    IsOne outcome_calls (λ (rs : Replies). on_file target d rs scene s)
file_one (Some c) d scene s = λ rs qs x y z u alike w w'. refl
file_one None d scene s = word_one d scene s

-- what follows behind a macro's step
come_to_one : (e : StepEnd) (scene : Scene) (s : State) → IsOne outcome_calls (λ (rs : Replies). come_to e rs scene s)
come_to_one (Types k) scene s = taken_one k scene s
come_to_one Moves scene s = λ rs qs x y z u alike w w'. refl
come_to_one Works scene s = λ rs qs x y z u alike w w'. refl
come_to_one (Indicates t) scene s = λ rs qs x y z u alike w w'. refl
come_to_one (Files d) scene s = file_one (protected_target (target_of d.word) s) d scene s
come_to_one (Faulty f c) scene s = λ rs qs x y z u alike w w'. refl
come_to_one (Refused c) scene s = λ rs qs x y z u alike w w'. refl

stepped_one : (x : MacroStep) (scene : Scene) (s : State) → IsOne outcome_calls (λ (rs : Replies). stepped x rs scene s)
stepped_one x scene s =
    let behind_step : State = (by_step x s).state in
    made_of outcome_calls outcome_calls (λ (rs : Replies). come_to x.end rs (seen_from scene behind_step) behind_step)
    (λ (o : Outcome). followed_by (by_step x s) (λ t. o))
    (come_to_one x.end (seen_from scene behind_step) behind_step) (λ o. refl)

-- one of two things
either_one : (b : Bool) (f g : Replies → Outcome) → IsOne outcome_calls f → IsOne outcome_calls g →
    IsOne outcome_calls (λ (rs : Replies). if b then f rs else g rs)
either_one true f g one other = one
either_one false f g one other = other

given_one : (k : Key) (scene : Scene) (s : State) → IsOne outcome_calls (λ (rs : Replies). given k rs scene s)
given_one k scene s =
    either_one (takes_key k s.running) (λ (rs : Replies). by_waiting_macro k rs scene s)
    (λ (rs : Replies). by_key k rs scene s)
    (stepped_one (key_step scene k s.running (sheet_of s)) scene (record s { end = false })) (taken_one k scene s)

pressed_one : (k : Key) (scene : Scene) (s : State) → IsOne outcome_calls (λ (rs : Replies). pressed_key k rs scene s)
pressed_one key.Break scene s = taken_one key.Break scene (with_macro (broken_off s.running) s)
pressed_one (key.Byte b) scene s = given_one (key.Byte b) scene s
pressed_one key.Enter scene s = given_one key.Enter scene s
pressed_one key.Up scene s = given_one key.Up scene s
pressed_one key.Down scene s = given_one key.Down scene s
pressed_one key.Left scene s = given_one key.Left scene s
pressed_one key.Right scene s = given_one key.Right scene s
pressed_one key.Home scene s = given_one key.Home scene s
pressed_one key.End scene s = given_one key.End scene s
pressed_one key.PgUp scene s = given_one key.PgUp scene s
pressed_one key.PgDn scene s = given_one key.PgDn scene s
pressed_one key.BigLeft scene s = given_one key.BigLeft scene s
pressed_one key.BigRight scene s = given_one key.BigRight scene s
pressed_one key.Esc scene s = given_one key.Esc scene s
pressed_one key.Bs scene s = given_one key.Bs scene s
pressed_one key.Del scene s = given_one key.Del scene s
pressed_one key.Edit scene s = given_one key.Edit scene s
pressed_one key.Name scene s = given_one key.Name scene s
pressed_one key.Abs scene s = given_one key.Abs scene s
pressed_one key.Goto scene s = given_one key.Goto scene s
pressed_one key.Window scene s = given_one key.Window scene s
pressed_one key.Query scene s = given_one key.Query scene s
pressed_one key.Table scene s = given_one key.Table scene s
pressed_one key.Calc scene s = given_one key.Calc scene s
pressed_one key.Graph scene s = given_one key.Graph scene s
pressed_one key.Undo scene s = given_one key.Undo scene s
pressed_one (key.Alt letter) scene s = given_one (key.Alt letter) scene s

event_one : (event : Event) (scene : Scene) (s : State) →
    IsOne outcome_calls (λ (rs : Replies). event_taken event rs scene s)
event_one (KeyEvent k) scene s = pressed_one k scene s
event_one UnitEvent scene s = stepped_one (macro_step scene s.running (sheet_of s)) scene s

-- whether a command changed the sheet has one answer
tells_one : (p q : Bool) (begun now : Sheet) → Tells p (Some begun) now → Tells q (Some begun) now → p ≡ q
tells_one true true begun now tells other = refl
tells_one true false begun now tells other = absurd (tells other)
tells_one false true begun now tells other = absurd (other tells)
tells_one false false begun now tells other = refl

told_one : (p q : Bool) (begun : Option Sheet) (now : Sheet) → Tells p begun now → Tells q begun now → p ≡ q
told_one p q None now tells other = absurd tells
told_one p q (Some begun) now tells other = tells_one p q begun now tells other

-- so it ends in one way
ended_one : (e p q : Bool) (s : State) → is_at_end s ≡ e → TellsChange p s → TellsChange q s →
    command_ended p s ≡ command_ended q s
ended_one true p q s is tells other =
    ap (λ (c : Bool). command_ended c s) (told_one p q s.history.begun (sheet_of s) (tells is) (other is))
ended_one false p q s is tells other = not_over p s is ∙ sym (not_over q s is)

-- a step, behind the event and the end of its command
abbrev finished_step : Moment → State → Bool → Outcome → Outcome
finished_step now s changed o = and_further (and_further o (command_ended changed)) (framed now)

steps_one : (now : Moment) (s : State) (o : Outcome) (p q : Bool) → TellsChange p o.state → TellsChange q o.state →
    finished_step now s p o ≡ finished_step now s q o
steps_one now s o p q tells other =
    ap (λ (t : State). and_further (and_further o (λ u. t)) (framed now))
    (ended_one (is_at_end o.state) p q o.state refl tells other)

-- a step, and it leaves the same files
pub one_outcome : (event : Event) (now : Moment) (s : State) (one other : Replies) (p q : Bool) (a b c d : ShelfView) →
    HoldAlike a b → StepTells event now one p s → StepTells event now other q s →
    WereAnswered (step event now one p s).calls a c → WereAnswered (step event now other q s).calls b d →
    (step event now one p s ≡ step event now other q s) × HoldAlike c d
one_outcome event now s one other p q a b c d alike tells tells' had had' =
    let taken : Replies → Outcome = λ (rs : Replies). event_taken event rs (scene_at s now) (afresh s) in
    let same : taken one ≡ taken other = event_one event (scene_at s now) (afresh s) one other a b c d alike had had' in
    let here : WereAnswered (taken one).calls b d =
    subst (λ (o : Outcome). WereAnswered o.calls b d) (sym same) had' in
    let told : TellsChange q (taken one).state = subst (λ (o : Outcome). TellsChange q o.state) (sym same) tells' in (
      steps_one now s (taken one) p q tells told ∙ ap (finished_step now s q) same,
      left_alike (taken one).calls a b c d alike had.had here.had had.fine,
    )
