-- What follows behind a macro's step.
use Rattle.std.specs.Prelude.{if◌then◌else◌}
use Rattle.std.proofs.Common.{◌≡◌, ℕ, Bool, false, true, refl, Option, ap, sym, subst, ◌∙◌}
use Rattle.commands_file.specs.Calls.{HaveAnswered, ShelfView}
use Rattle.formula_parts.specs.declared.look.Scene.{Scene}
use Rattle.key_words.specs.declared.key.Key.{Key}
use Rattle.key_words.specs.declared.key.Key.TheVariants as key
use Rattle.macro_engine.specs.Keys.{broken_off, key_step, takes_key}
use Rattle.macro_engine.specs.Steps.{HasStepped, MacroStep}
use Rattle.macro_engine.specs.declared.steps.StepEnd.{StepEnd}
use Rattle.macro_words.specs.declared.running.Running.{Running}
use Rattle.serial_date.specs.declared.moment.Moment.{Moment}
use Rattle.work_sheet.proofs.OneWork.{worked_both}
use Rattle.work_sheet.specs.Did.{work_of}
use Rattle.work_sheet.specs.Seen.{of_worksheet, Sheet}
use Rattle.work_sheet.specs.Sheets.{Worksheet}
use Rattle.work_sheet.specs.Work.{HasWorked, Work}
use Rattle.sheet_undo.specs.Histories.{History}
use Rattle.session_core.specs.Keeping.{with_history}
use Rattle.session_core.specs.Machine.{scene_at, sheet_of, with_macro, with_sheet, Outcome, Replies, State}
use Rattle.session_core.specs.inner.Leading.{Leads, LeadsOver, Worked}
use Rattle.session_core.specs.Moving.{OnlyMovesByPress, OnlyMovesGiven}
use Rattle.session_core.specs.Step.{by_waiting_macro, come_to, given, pressed_key, stepped, by_key}

-- the state over the sheet and the macro that a step leaves
abbrev pub over_step : State → Sheet → Option Running → State
over_step s sheet r = with_sheet sheet (with_macro r s)

-- the same over a worksheet, with its history
abbrev pub over_work : State → Worksheet → Option Running → State
over_work s w r = with_history w.history (over_step s (of_worksheet w) r)

-- where the history stays it is no other
pub work_stays : (s : State) (v w : Worksheet) (r : Option Running) → w.history ≡ v.history → v.history ≡ s.history →
    over_work s w r ≡ over_step s (of_worksheet w) r
work_stays s v w r stays is = ap (λ (h : History). with_history h (over_step s (of_worksheet w) r)) (stays ∙ is)

-- the macro's step, made of the moment, the macro and the sheet, and what follows it
abbrev pub over_steps : (Scene → Option Running → Sheet → MacroStep) → Replies → Scene → State → Outcome
over_steps made replies scene s = stepped (made scene s.running (sheet_of s)) replies scene s

-- A macro made a step that came to this end, and what follows by that end leads on.
pub stepped_over : (made : Scene → Option Running → Sheet → MacroStep) (now : Moment) (told : Bool) (a mid b : Worked)
    (scene : Scene) (running new_running : Option Running) (came : StepEnd) (v w : Worksheet) (m n : ℕ)
    (x y : ShelfView) → scene ≡ scene_at a.state now → running ≡ a.state.running → of_worksheet v ≡ sheet_of a.state
    → v.history ≡ a.state.history → work_of v m ≡ a.work → mid.state ≡ over_work a.state w new_running
    → mid.work ≡ work_of w n → HasStepped (made scene running (of_worksheet v)) came new_running v w m n
    → LeadsOver (come_to came) now told mid b x y → LeadsOver (over_steps made) now told a b x y
stepped_over made now told a mid b scene running new_running came v w m n x y scene_is running_is sheet_is history_is
    work_is mid_is mid_work h l =
    let there : Scene = scene_at a.state now in
    let step : MacroStep = made there a.state.running (sheet_of a.state) in
    let here : HasStepped step came new_running v w m n =
    subst (λ (s : Sheet). HasStepped (made there a.state.running s) came new_running v w m n) sheet_is
    (subst (λ (r : Option Running). HasStepped (made there r (of_worksheet v)) came new_running v w m n) running_is
    (subst (λ (c : Scene). HasStepped (made c running (of_worksheet v)) came new_running v w m n) scene_is h)) in
    let behind : State = over_step a.state step.done.sheet step.running in
    let is : mid.state ≡ behind =
    mid_is ∙ work_stays a.state v w new_running here.did.history history_is
    ∙ ap (λ (s : Sheet). over_step a.state s new_running) here.did.sheet
    ∙ ap (over_step a.state step.done.sheet) here.running in
    let next : StepEnd → State → Outcome = λ (e : StepEnd) (s : State). come_to e l.replies (scene_at s now) s in
    let later : Leads (next step.end behind) told mid b =
    subst (λ (s : State). Leads (next step.end s) told mid b) is
    (subst (λ (e : StepEnd). Leads (next e mid.state) told mid b) here.end l.leads) in
    let first : HasWorked step.done.log a.work mid.work =
    subst (λ (u : Work). HasWorked step.done.log u mid.work) work_is
    (subst (λ (u : Work). HasWorked step.done.log (work_of v m) u) (sym mid_work) here.did.work) in
    record {
      replies = l.replies;
      leads = record {
        state = later.state;
        work = worked_both step.done.log (next step.end behind).log a.work mid.work b.work first later.work;
        ends = later.ends;
      };
      answered = subst (λ (s : State). HaveAnswered (next step.end s).calls x y) is
          (subst (λ (e : StepEnd). HaveAnswered (next e mid.state).calls x y) here.end l.answered);
    }

-- the same without END's mark
abbrev pub unmarked : Worked → Worked
unmarked a = record { state = record a.state { end = false }; work = a.work }

-- a key that the macro takes leads on as its step does
pub answered_over : (k : Key) (now : Moment) (told : Bool) (a b : Worked) (x y : ShelfView) →
    LeadsOver (over_steps (λ scene. key_step scene k)) now told (unmarked a) b x y
    → LeadsOver (by_waiting_macro k) now told a b x y
answered_over k now told a b x y l = record {
  replies = l.replies;
  leads = record { state = l.leads.state; work = l.leads.work; ends = l.leads.ends };
  answered = l.answered;
}

-- BREAK leads on behind the macro that it stops
pub broken_over : (now : Moment) (told : Bool) (a mid b : Worked) (x y : ShelfView)
    → mid.state ≡ with_macro (broken_off a.state.running) a.state → mid.work ≡ a.work →
    LeadsOver (by_key key.Break) now told mid b x y → LeadsOver (pressed_key key.Break) now told a b x y
broken_over now told a mid b x y state_is work_is l =
    let behind : Worked = record { state = with_macro (broken_off a.state.running) a.state; work = a.work } in
    let is : mid ≡ behind = λ i. record { state = state_is i; work = work_is i } in
    let there : LeadsOver (by_key key.Break) now told behind b x y =
    subst (λ (w : Worked). LeadsOver (by_key key.Break) now told w b x y) is l in
    record {
      replies = there.replies;
      leads = record { state = there.leads.state; work = there.leads.work; ends = there.leads.ends };
      answered = there.answered;
    }

-- a key that the macro takes is answered
pub given_answered : (k : Key) (now : Moment) (told : Bool) (a b : Worked) (x y : ShelfView)
    → takes_key k a.state.running ≡ true →
    LeadsOver (by_waiting_macro k) now told a b x y → LeadsOver (given k) now told a b x y
given_answered k now told a b x y is l =
    let scene : Scene = scene_at a.state now in
    let same : given k l.replies scene a.state ≡ by_waiting_macro k l.replies scene a.state =
    ap (λ (t : Bool). if t then by_waiting_macro k l.replies scene a.state else by_key k l.replies scene a.state) is in
    record {
      replies = l.replies;
      leads = subst (λ (o : Outcome). Leads o told a b) (sym same) l.leads;
      answered = subst (λ (o : Outcome). HaveAnswered o.calls x y) (sym same) l.answered;
    }

-- any other key is taken in the room
pub given_taken : (k : Key) (now : Moment) (told : Bool) (a b : Worked) (x y : ShelfView)
    → takes_key k a.state.running ≡ false →
    LeadsOver (by_key k) now told a b x y → LeadsOver (given k) now told a b x y
given_taken k now told a b x y is l =
    let scene : Scene = scene_at a.state now in
    let same : given k l.replies scene a.state ≡ by_key k l.replies scene a.state =
    ap (λ (t : Bool). if t then by_waiting_macro k l.replies scene a.state else by_key k l.replies scene a.state) is in
    record {
      replies = l.replies;
      leads = subst (λ (o : Outcome). Leads o told a b) (sym same) l.leads;
      answered = subst (λ (o : Outcome). HaveAnswered o.calls x y) (sym same) l.answered;
    }

-- any key but BREAK is the macro's or the session's
pub pressed_given : (k : Key) → (k ≡ key.Break → ⊥) → pressed_key k ≡ given k
pressed_given key.Break other = absurd (other refl)
pressed_given (key.Byte b) other = refl
pressed_given key.Enter other = refl
pressed_given key.Up other = refl
pressed_given key.Down other = refl
pressed_given key.Left other = refl
pressed_given key.Right other = refl
pressed_given key.Home other = refl
pressed_given key.End other = refl
pressed_given key.PgUp other = refl
pressed_given key.PgDn other = refl
pressed_given key.BigLeft other = refl
pressed_given key.BigRight other = refl
pressed_given key.Esc other = refl
pressed_given key.Bs other = refl
pressed_given key.Del other = refl
pressed_given key.Edit other = refl
pressed_given key.Name other = refl
pressed_given key.Abs other = refl
pressed_given key.Goto other = refl
pressed_given key.Window other = refl
pressed_given key.Query other = refl
pressed_given key.Table other = refl
pressed_given key.Calc other = refl
pressed_given key.Graph other = refl
pressed_given key.Undo other = refl
pressed_given (key.Alt letter) other = refl

-- it leads on so
pub pressed_over : (k : Key) (now : Moment) (told : Bool) (a b : Worked) (x y : ShelfView) → (k ≡ key.Break → ⊥)
    → LeadsOver (given k) now told a b x y → LeadsOver (pressed_key k) now told a b x y
pressed_over k now told a b x y other l =
    subst (λ (act : Replies → Scene → State → Outcome). LeadsOver act now told a b x y) (sym (pressed_given k other)) l

-- and moves no more
pub only_given : (k : Key) (s : State) → (k ≡ key.Break → ⊥) → OnlyMovesByPress k s → OnlyMovesGiven k s
only_given key.Break s other h = absurd (other refl)
only_given (key.Byte b) s other h = h
only_given key.Enter s other h = h
only_given key.Up s other h = h
only_given key.Down s other h = h
only_given key.Left s other h = h
only_given key.Right s other h = h
only_given key.Home s other h = h
only_given key.End s other h = h
only_given key.PgUp s other h = h
only_given key.PgDn s other h = h
only_given key.BigLeft s other h = h
only_given key.BigRight s other h = h
only_given key.Esc s other h = h
only_given key.Bs s other h = h
only_given key.Del s other h = h
only_given key.Edit s other h = h
only_given key.Name s other h = h
only_given key.Abs s other h = h
only_given key.Goto s other h = h
only_given key.Window s other h = h
only_given key.Query s other h = h
only_given key.Table s other h = h
only_given key.Calc s other h = h
only_given key.Graph s other h = h
only_given key.Undo s other h = h
only_given (key.Alt letter) s other h = h

-- what is told of the run's end may be told otherwise that is the same
pub ends_as : (act : Replies → Scene → State → Outcome) (now : Moment) (told other : Bool) (a b : Worked)
    (x y : ShelfView) → other ≡ told → LeadsOver act now told a b x y → LeadsOver act now other a b x y
ends_as act now told other a b x y is l = subst (λ (e : Bool). LeadsOver act now e a b x y) (sym is) l
