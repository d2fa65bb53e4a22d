-- Memory that runs out in what the session carries out.
use Rattle.std.specs.Prelude.{if◌then◌else◌}
use Rattle.std.proofs.Common.{◌≡◌, ℕ, Bool, false, true, Option, ap, subst, sym, ◌∙◌}
use Rattle.command_desk.specs.Desks.{of_desk, Desk}
use Rattle.command_desk.specs.declared.desk.Desk as declared
use Rattle.command_desk.specs.declared.ending.CommandEnd.{CommandEnd}
use Rattle.commands_file.proofs.Broken.{answered_broken, broken_before, broken_behind}
use Rattle.commands_file.specs.Calls.{failed, HasBrokenOver, HaveAnswered, HaveBrokenOff, Reply, ShelfView}
use Rattle.commands_file.specs.Commands.{looked, FileActed, HasActedOver, HasBrokenIn}
use Rattle.commands_file.specs.declared.looking.Looked.{Looked}
use Rattle.file_words.specs.Serving.{served_word, target_of, HasBrokenWord, Served, WasServed}
use Rattle.formula_parts.specs.declared.look.Scene.{Scene}
use Rattle.grid_address.specs.Place.{Place}
use Rattle.key_words.specs.declared.key.Key.{Key}
use Rattle.key_words.specs.declared.key.Key.TheVariants as key
use Rattle.macro_engine.specs.Keys.{broken_off, takes_key}
use Rattle.macro_engine.specs.Steps.{HasStepped, MacroStep}
use Rattle.macro_engine.specs.declared.steps.StepEnd.{StepEnd}
use Rattle.macro_words.specs.declared.files.FileDeed.{FileDeed}
use Rattle.macro_words.specs.declared.running.Deed.{Deed}
use Rattle.macro_words.specs.declared.running.Running.{Running}
use Rattle.menu_tree.specs.declared.menu.Action.{Action}
use Rattle.serial_date.specs.declared.moment.Moment.{Moment}
use Rattle.session_rooms.specs.declared.answers.AnsweredCommand.{AnsweredCommand}
use Rattle.session_rooms.specs.declared.turn.Turn.{Turn}
use Rattle.text_channel.specs.declared.attached.Attached.{Attached}
use Rattle.work_sheet.specs.Seen.{of_worksheet, Sheet}
use Rattle.work_sheet.specs.Sheets.{Worksheet}
use Rattle.session_core.specs.Carrying.{behind, carried, looked_as, looking}
use Rattle.session_core.specs.Keeping.{begun_for}
use Rattle.session_core.specs.Machine.{afresh, scene_at, sheet_of, with_macro, Outcome, Replies, State}
use Rattle.session_core.specs.inner.Leading.{BreaksOver, LeadsOver, Worked}
use Rattle.session_core.specs.Pressing.{turn_of}
use Rattle.session_core.specs.Step.{by_waiting_macro, by_file, by_word, come_to, event_taken, given, on_file}
use Rattle.session_core.specs.Step.{pressed_key}
use Rattle.session_core.specs.Step.{protected_target, by_key, typed_into, HasBrokenStep}
use Rattle.session_core.specs.declared.event.Event.{Event}
use Rattle.session_core.proofs.Begun.{begun_beside}
use Rattle.session_core.proofs.Stepping.{over_step, over_steps, over_work, pressed_given, work_stays}

-- a command that acted broke off behind its calls
pub acted_broken : (act : Reply → FileActed) (came : CommandEnd) (v w : declared.Desk) (m n : ℕ) (x y : ShelfView)
    → HasActedOver act came v w m n x y → HasBrokenIn act x y
acted_broken act came v w m n x y h =
    record { answers = h.reply; broke = answered_broken (act h.reply).calls x y h.answered }

-- memory ran out in a command, or behind it
pub acting_breaks : (acts : Scene → Desk → Reply → FileActed) (action : Action) (now : Moment) (s : State)
    (scene : Scene) (v : declared.Desk) (x y : ShelfView) → scene ≡ scene_at s now → of_desk v ≡ s.desk
    → HasBrokenIn (acts scene (of_desk v)) x y
    → BreaksOver (λ replies there t. behind (acts there t.desk replies.act) action there t) now s x y
acting_breaks acts action now s scene v x y scene_is desk_is h =
    let there : Scene = scene_at s now in
    let here : HasBrokenIn (acts there s.desk) x y =
    subst (λ (d : Desk). HasBrokenIn (acts there d) x y) desk_is
    (subst (λ (c : Scene). HasBrokenIn (acts c (of_desk v)) x y) scene_is h) in
    record {
      answers = record { look = failed; act = here.answers };
      broke = broken_before (acts there s.desk here.answers).calls _ x y here.broke;
    }

-- memory ran out in a look
pub looking_breaks : (command : AnsweredCommand) (now : Moment) (s : State) (x y : ShelfView)
    → HasBrokenOver (λ reply. (looked command.action command.answers reply).calls) x y
    → BreaksOver (looking command) now s x y
looking_breaks command now s x y h = record {
  answers = record { look = h.answers; act = failed };
  broke = broken_before (looked command.action command.answers h.answers).calls _ x y h.broke;
}

-- memory ran out behind a look
pub looked_breaks : (command : AnsweredCommand) (now : Moment) (s : State) (x y z : ShelfView) (reply act : Reply)
    (came : Looked) → came ≡ (looked command.action command.answers reply).came
    → HaveAnswered (looked command.action command.answers reply).calls x y
    → HaveBrokenOff (looked_as came command act (scene_at s now) s).calls y z → BreaksOver (looking command) now s x z
looked_breaks command now s x y z reply act came is had broke = record {
  answers = record { look = reply; act = act };
  broke =
      broken_behind (looked command.action command.answers reply).calls _ x y z had
      (subst (λ (k : Looked). HaveBrokenOff (looked_as k command act (scene_at s now) s).calls y z) is broke);
}

-- memory ran out behind a macro's step, of which nothing is called
pub stepped_breaks : (made : Scene → Option Running → Sheet → MacroStep) (now : Moment) (s t : State) (scene : Scene)
    (running new_running : Option Running) (came : StepEnd) (v w : Worksheet) (m n : ℕ) (x y : ShelfView)
    → scene ≡ scene_at s now → running ≡ s.running → of_worksheet v ≡ sheet_of s → v.history ≡ s.history
    → t ≡ over_work s w new_running
    → HasStepped (made scene running (of_worksheet v)) came new_running v w m n → BreaksOver (come_to came) now t x y
    → BreaksOver (over_steps made) now s x y
stepped_breaks made now s t scene running new_running came v w m n x y scene_is running_is sheet_is history_is
    state_is h broke =
    let there : Scene = scene_at s now in
    let step : MacroStep = made there s.running (sheet_of s) in
    let here : HasStepped step came new_running v w m n =
    subst (λ (k : Sheet). HasStepped (made there s.running k) came new_running v w m n) sheet_is
    (subst (λ (r : Option Running). HasStepped (made there r (of_worksheet v)) came new_running v w m n) running_is
    (subst (λ (c : Scene). HasStepped (made c running (of_worksheet v)) came new_running v w m n) scene_is h)) in
    let behind_it : State = over_step s step.done.sheet step.running in
    let is : t ≡ behind_it =
    state_is ∙ work_stays s v w new_running here.did.history history_is
    ∙ ap (λ (k : Sheet). over_step s k new_running) here.did.sheet
    ∙ ap (over_step s step.done.sheet) here.running in
    let next : StepEnd → State → Outcome = λ (e : StepEnd) (u : State). come_to e broke.answers (scene_at u now) u in
    record {
      answers = broke.answers;
      broke =
          subst (λ (u : State). HaveBrokenOff (next step.end u).calls x y) is
          (subst (λ (e : StepEnd). HaveBrokenOff (next e t).calls x y) here.end broke.broke);
    }

-- memory ran out where a key was given, by whether the macro takes it
pub given_answered_breaks : (k : Key) (now : Moment) (s : State) (x y : ShelfView) → takes_key k s.running ≡ true
    → BreaksOver (by_waiting_macro k) now s x y → BreaksOver (given k) now s x y
given_answered_breaks k now s x y is broke = record {
  answers = broke.answers;
  broke =
      subst (λ (b : Bool). HaveBrokenOff (if b then by_waiting_macro k broke.answers (scene_at s now) s
      else by_key k broke.answers (scene_at s now) s).calls x y) (sym is) broke.broke;
}

-- memory ran out where a key was given that no macro takes
pub given_taken_breaks : (k : Key) (now : Moment) (s : State) (x y : ShelfView) → takes_key k s.running ≡ false
    → BreaksOver (by_key k) now s x y → BreaksOver (given k) now s x y
given_taken_breaks k now s x y is broke = record {
  answers = broke.answers;
  broke =
      subst (λ (b : Bool). HaveBrokenOff (if b then by_waiting_macro k broke.answers (scene_at s now) s
      else by_key k broke.answers (scene_at s now) s).calls x y) (sym is) broke.broke;
}

-- any key but BREAK is the macro's or the session's
pub pressed_breaks : (k : Key) (now : Moment) (s : State) (x y : ShelfView) → (k ≡ key.Break → ⊥)
    → BreaksOver (given k) now s x y → BreaksOver (pressed_key k) now s x y
pressed_breaks k now s x y other broke =
    subst (λ (act : Replies → Scene → State → Outcome). BreaksOver act now s x y) (sym (pressed_given k other)) broke

-- memory ran out where BREAK was taken
pub break_breaks : (now : Moment) (s t : State) (x y : ShelfView) → t ≡ with_macro (broken_off s.running) s
    → BreaksOver (by_key key.Break) now t x y → BreaksOver (pressed_key key.Break) now s x y
break_breaks now s t x y is broke =
    let there : BreaksOver (by_key key.Break) now (with_macro (broken_off s.running) s) x y =
    subst (λ (u : State). BreaksOver (by_key key.Break) now u x y) is broke in
    record { answers = there.answers; broke = there.broke }

-- memory ran out in what a key came to
pub taken_breaks : (k : Key) (turn : Turn) (now : Moment) (s t : State) (x y : ShelfView)
    → turn ≡ turn_of k s.room s.end s.desk → t ≡ begun_for turn (typed_into k s)
    → BreaksOver (carried turn) now t x y → BreaksOver (by_key k) now s x y
taken_breaks k turn now s t x y turn_is is broke =
    let came : Turn = turn_of k s.room s.end s.desk in
    let u : State = begun_for came (typed_into k s) in
    let state_is : t ≡ u = is ∙ ap (λ (o : Turn). begun_for o (typed_into k s)) turn_is in
    let there : BreaksOver (carried came) now u x y =
    subst (λ (v : State). BreaksOver (carried came) now v x y) state_is
    (subst (λ (o : Turn). BreaksOver (carried o) now t x y) turn_is broke) in
    record {
      answers = there.answers;
      broke =
          subst (λ (c : Scene). HaveBrokenOff (carried came there.answers c u).calls x y)
          (ap (λ (v : State). scene_at v now) (begun_beside came (typed_into k s)).is) there.broke;
    }

-- memory ran out in a word on a text file, or behind it
pub word_breaks : (d : FileDeed) (now : Moment) (s : State) (old : Option Attached) (x y : ShelfView)
    → old ≡ s.channel → HasBrokenWord (served_word d) old x y → BreaksOver (by_word d) now s x y
word_breaks d now s old x y old_is h =
    let here : HasBrokenWord (served_word d) s.channel x y =
    subst (λ (o : Option Attached). HasBrokenWord (served_word d) o x y) old_is h in
    let served : Served = served_word d here.answers.0 here.answers.1 s.channel in
    record {
      answers = record { look = here.answers.0; act = here.answers.1 };
      broke = broken_before served.calls _ x y here.broke;
    }

-- a word that was carried out broke off behind its calls
pub served_broken : (d : FileDeed) (came : Option Deed) (old now : Option Attached) (x y : ShelfView)
    → WasServed (served_word d) came old now x y → HasBrokenWord (served_word d) old x y
served_broken d came old now x y h = record {
  answers = (h.first, h.second);
  broke = answered_broken (served_word d h.first h.second old).calls x y h.answered;
}

-- memory ran out where no cell is protected that the word would write, or one is
pub guarded_breaks : (d : FileDeed) (now : Moment) (s : State) (x y : ShelfView) (o : Option Place)
    → o ≡ protected_target (target_of d.word) s → BreaksOver (on_file o d) now s x y → BreaksOver (by_file d) now s x y
guarded_breaks d now s x y o is broke = record {
  answers = broke.answers;
  broke =
      subst (λ (p : Option Place). HaveBrokenOff (on_file p d broke.answers (scene_at s now) s).calls x y) is
      broke.broke;
}

-- memory ran out behind an event, whose calls were made
pub event_answered : (event : Event) (now : Moment) (told : Bool) (a b : Worked) (x y : ShelfView)
    → LeadsOver (event_taken event) now told a b x y → BreaksOver (event_taken event) now a.state x y
event_answered event now told a b x y l = record {
  answers = l.replies;
  broke = answered_broken (event_taken event l.replies (scene_at a.state now) a.state).calls x y l.answered;
}

-- memory ran out in a step
pub event_breaks : (event : Event) (now : Moment) (s t : State) (x y : ShelfView) → t ≡ afresh s
    → BreaksOver (event_taken event) now t x y → HasBrokenStep event now s x y
event_breaks event now s t x y is broke =
    let there : BreaksOver (event_taken event) now (afresh s) x y =
    subst (λ (u : State). BreaksOver (event_taken event) now u x y) is broke in
    record { answers = there.answers; broke = there.broke }
