-- Words on a text file, as the session carries them out.
use Rattle.std.proofs.Common.{◌≡◌, ℕ, Bool, false, List, [], OnOk, Option, None, Some, Result, Ok, Err, refl, sym, ap}
use Rattle.std.proofs.Common.{subst, ◌∙◌}
use Rattle.commands_file.specs.Calls.{Asked, HaveAnswered, ShelfView}
use Rattle.desk_errors.specs.declared.error.CommandError.TheVariants as error
use Rattle.file_words.specs.Serving.{served_word, target_of, Served, WasServed}
use Rattle.formula_parts.specs.declared.look.Scene.{Scene}
use Rattle.grid_address.specs.Place.{Place}
use Rattle.macro_engine.specs.Steps.{carried_step, HasStepped, MacroStep}
use Rattle.macro_engine.specs.declared.steps.StepEnd.{StepEnd}
use Rattle.macro_words.specs.declared.files.FileDeed.{FileDeed}
use Rattle.macro_words.specs.declared.running.Deed.{Deed}
use Rattle.macro_words.specs.declared.running.Running.{Running}
use Rattle.serial_date.specs.declared.moment.Moment.{Moment}
use Rattle.text_channel.specs.declared.attached.Attached.{Attached}
use Rattle.work_sheet.specs.Did.{work_of}
use Rattle.work_sheet.specs.Seen.{of_worksheet, Sheet}
use Rattle.work_sheet.specs.Sheets.{Worksheet}
use Rattle.work_sheet.specs.Work.{HasWorked, Work}
use Rattle.sheet_undo.specs.Histories.{History}
use Rattle.session_core.specs.Keeping.{with_history}
use Rattle.session_core.specs.Machine.{scene_at, sheet_of, with_channel, State}
use Rattle.session_core.specs.inner.Leading.{Leads, LeadsOver, Worked}
use Rattle.session_core.specs.Step.{by_file, by_word, on_file, protected_target, served_as}
use Rattle.commands_file.proofs.Answered.{answered_then}
use Rattle.session_core.proofs.Failing.{failed_calls}
use Rattle.session_core.proofs.Stepping.{over_step, over_work}

-- what follows from what holds of a good answer holds of it too
pub on_ok_map : {A E P Q : Type 0} (r : Result A E) → (P → Q) → OnOk r P → OnOk r Q
on_ok_map (Ok x) f p = f p
on_ok_map (Err e) f p = p

-- a deed of the macro leads on
pub carried_leads : (scene : Scene) (d : Deed) (a b : Worked) (running new_running : Option Running)
    (came : StepEnd) (v w : Worksheet) (m n : ℕ) → running ≡ a.state.running → of_worksheet v ≡ sheet_of a.state
    → v.history ≡ a.state.history → work_of v m ≡ a.work → b.state ≡ over_work a.state w new_running
    → b.work ≡ work_of w n → HasStepped (carried_step scene d running (of_worksheet v)) came new_running v w m n
    → Leads (served_as (Some d) scene a.state) false a b
carried_leads scene d a b running new_running came v w m n running_is sheet_is history_is work_is state_is done_is h =
    let step : MacroStep = carried_step scene d a.state.running (sheet_of a.state) in
    let here : HasStepped step came new_running v w m n =
    subst (λ (s : Sheet). HasStepped (carried_step scene d a.state.running s) came new_running v w m n) sheet_is
    (subst (λ (r : Option Running). HasStepped (carried_step scene d r (of_worksheet v)) came new_running v w m n)
    running_is h) in
    record {
      state = state_is ∙ ap (λ (k : History). with_history k (over_step a.state (of_worksheet w) new_running))
          (here.did.history ∙ history_is)
          ∙ ap (λ (s : Sheet). over_step a.state s new_running) here.did.sheet
          ∙ ap (over_step a.state step.done.sheet) here.running;
      work = subst (λ (u : Work). HasWorked step.done.log u b.work) work_is
          (subst (λ (u : Work). HasWorked step.done.log (work_of v m) u) (sym done_is) here.did.work);
      ends = refl;
    }

-- behind the word itself no call is made
served_calls : (x : Option Deed) (scene : Scene) (s : State) → (served_as x scene s).calls ≡ []
served_calls None scene s = failed_calls error.DiskError scene s
served_calls (Some d) scene s = refl

-- a word was carried out, and what it came to leads on
pub served_over : (d : FileDeed) (now : Moment) (a mid b : Worked) (scene : Scene) (came : Option Deed)
    (old channel : Option Attached) (x y : ShelfView) → scene ≡ scene_at a.state now → old ≡ a.state.channel
    → mid.state ≡ with_channel channel a.state → mid.work ≡ a.work → WasServed (served_word d) came old channel x y
    → Leads (served_as came scene mid.state) false mid b → LeadsOver (by_word d) now false a b x y
served_over d now a mid b scene came old channel x y scene_is old_is state_is work_is was l =
    let there : Scene = scene_at a.state now in
    let h : WasServed (served_word d) came a.state.channel channel x y =
    subst (λ (o : Option Attached). WasServed (served_word d) came o channel x y) old_is was in
    let served : Served = served_word d h.first h.second a.state.channel in
    let behind : State = with_channel served.channel a.state in
    let is : mid.state ≡ behind = state_is ∙ ap (λ (c : Option Attached). with_channel c a.state) h.channel_so in
    let later : Leads (served_as served.deed there behind) false mid b =
    subst (λ (s : State). Leads (served_as served.deed there s) false mid b) is
    (subst (λ (c : Scene). Leads (served_as served.deed c mid.state) false mid b) scene_is
    (subst (λ (o : Option Deed). Leads (served_as o scene mid.state) false mid b) h.deed_so l)) in
    record {
      replies = record { look = h.first; act = h.second };
      leads = record {
        state = later.state;
        work = subst (λ (u : Work). HasWorked (served_as served.deed there behind).log u b.work) work_is later.work;
        ends = later.ends;
      };
      answered = answered_then served.calls (served_as served.deed there behind).calls x y y h.answered
          (subst (λ (cs : List Asked). HaveAnswered cs y y) (sym (served_calls served.deed there behind)) refl);
    }

-- a word, by the protected cell that it would write, if there is one
pub guarded_over : (d : FileDeed) (now : Moment) (told : Bool) (a b : Worked) (x y : ShelfView) (o : Option Place)
    → o ≡ protected_target (target_of d.word) a.state →
    LeadsOver (on_file o d) now told a b x y → LeadsOver (by_file d) now told a b x y
guarded_over d now told a b x y o is l = record {
  replies = l.replies;
  leads =
      subst (λ (p : Option Place). Leads (on_file p d l.replies (scene_at a.state now) a.state) told a b) is l.leads;
  answered = subst (λ (p : Option Place). HaveAnswered (on_file p d l.replies (scene_at a.state now) a.state).calls x y)
      is l.answered;
}
