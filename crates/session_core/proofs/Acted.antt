-- How the session goes on behind a command.
use Rattle.std.proofs.Common.{◌≡◌, ℕ, Bool, List, [], ap, refl, sym, subst, ◌∙◌}
use Rattle.command_desk.specs.Desks.{of_desk, Desk}
use Rattle.command_desk.specs.declared.desk.Desk as declared
use Rattle.command_desk.specs.declared.ending.CommandEnd.{CommandEnd}
use Rattle.commands_file.specs.Calls.{failed, Asked, HaveAnswered, Reply, ShelfView}
use Rattle.commands_file.specs.Commands.{FileActed, HasActedOver}
use Rattle.formula_parts.specs.declared.look.Scene.{Scene}
use Rattle.menu_tree.specs.declared.menu.Action.{Action}
use Rattle.serial_date.specs.declared.moment.Moment.{Moment}
use Rattle.work_sheet.proofs.OneWork.{worked_both}
use Rattle.work_sheet.specs.Did.{work_of}
use Rattle.work_sheet.specs.Work.{HasWorked, Work}
use Rattle.session_core.specs.Carrying.{behind, left_by}
use Rattle.sheet_undo.specs.Histories.{History}
use Rattle.session_core.specs.Keeping.{with_history}
use Rattle.session_core.specs.Machine.{scene_at, Outcome, State}
use Rattle.session_core.specs.inner.Leading.{Leads, LeadsOver, Worked}
use Rattle.commands_file.proofs.Answered.{answered_then}

-- the state over the desk that a command leaves
abbrev over_desk : State → Desk → State
over_desk s desk = record s { desk = desk }

-- the same over a desk, with the history of its worksheet
abbrev pub over_work : State → declared.Desk → State
over_work s d = with_history d.sheet.history (over_desk s (of_desk d))

-- what an act and what follows it come to, over some answer of the shelf
record IsBehind (act : Reply → FileActed) (action : Action) (scene : Scene) (told : Bool) (a b : Worked)
    (x y : ShelfView) : Type 0 where
  reply : Reply
  leads : Leads (behind (act reply) action scene a.state) told a b
  answered : HaveAnswered (behind (act reply) action scene a.state).calls x y

behind_act : (act : Reply → FileActed) (action : Action) (scene : Scene) (told : Bool) (a mid b : Worked)
    (came : CommandEnd) (v w : declared.Desk) (m n : ℕ) (x y : ShelfView) → work_of v.sheet m ≡ a.work
    → v.sheet.history ≡ a.state.history → mid.state ≡ over_work a.state w → mid.work ≡ work_of w.sheet n
    → Leads (left_by came action scene mid.state) told mid b → (left_by came action scene mid.state).calls ≡ []
    → HasActedOver act came v w m n x y → IsBehind act action scene told a b x y
behind_act act action scene told a mid b came v w m n x y work_is history_is mid_is mid_work leads none h =
    let d : FileActed = act h.reply in
    let next : CommandEnd → State → Outcome = λ (e : CommandEnd) (s : State). left_by e action scene s in
    let same : next came mid.state ≡ next d.acted.end (over_desk a.state d.acted.desk) =
    ap (λ (e : CommandEnd). next e mid.state) h.acted.end ∙ ap (next d.acted.end)
    (mid_is ∙ ap (λ (k : History). with_history k (over_desk a.state (of_desk w))) (h.acted.history ∙ history_is)
    ∙ ap (over_desk a.state) h.acted.desk) in
    let later : Leads (next d.acted.end (over_desk a.state d.acted.desk)) told mid b =
    subst (λ (o : Outcome). Leads o told mid b) same leads in
    let first : HasWorked d.acted.log a.work mid.work =
    subst (λ (u : Work). HasWorked d.acted.log u mid.work) work_is
    (subst (λ (u : Work). HasWorked d.acted.log (work_of v.sheet m) u) (sym mid_work) h.acted.work) in
    let calls : (next d.acted.end (over_desk a.state d.acted.desk)).calls ≡ [] =
    sym (ap (λ (o : Outcome). o.calls) same) ∙ none in
    record {
      reply = h.reply;
      leads = record {
        state = later.state;
        work = worked_both d.acted.log (next d.acted.end (over_desk a.state d.acted.desk)).log a.work mid.work b.work
            first later.work;
        ends = later.ends;
      };
      answered = answered_then d.calls (next d.acted.end (over_desk a.state d.acted.desk)).calls x y y h.answered
          (subst (λ (cs : List Asked). HaveAnswered cs y y) (sym calls) refl);
    }

-- A command that acts so over some answer of the shelf, and what the session then comes to by its end, lead it so.
pub acted_over : (acts : Scene → Desk → Reply
    → FileActed) (action : Action) (now : Moment) (told : Bool) (a mid b : Worked) (scene : Scene) (came : CommandEnd)
    (v w : declared.Desk) (m n : ℕ) (x y : ShelfView) → scene ≡ scene_at a.state now → of_desk v ≡ a.state.desk
    → v.sheet.history ≡ a.state.history → work_of v.sheet m ≡ a.work →
    mid.state ≡ over_work a.state w → mid.work ≡ work_of w.sheet n
    → Leads (left_by came action scene mid.state) told mid b →
    (left_by came action scene mid.state).calls ≡ [] → HasActedOver (acts scene (of_desk v)) came v w m n x y →
    LeadsOver (λ replies there s. behind (acts there s.desk replies.act) action there s) now told a b x y
acted_over acts action now told a mid b scene came v w m n x y scene_is desk_is history_is work_is mid_is mid_work
    leads none h =
    let there : Scene = scene_at a.state now in
    let here : HasActedOver (acts there a.state.desk) came v w m n x y =
    subst (λ (d : Desk). HasActedOver (acts there d) came v w m n x y) desk_is
    (subst (λ (c : Scene). HasActedOver (acts c (of_desk v)) came v w m n x y) scene_is h) in
    let by : IsBehind (acts there a.state.desk) action there told a b x y = behind_act
    (acts there a.state.desk) action there told a mid b came v w m n x y work_is history_is mid_is mid_work
    (subst (λ (c : Scene). Leads (left_by came action c mid.state) told mid b) scene_is leads)
    (subst (λ (c : Scene). (left_by came action c mid.state).calls ≡ []) scene_is none) here in
    record { replies = record { look = failed; act = by.reply }; leads = by.leads; answered = by.answered }
