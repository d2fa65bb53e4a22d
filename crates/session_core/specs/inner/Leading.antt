-- What the machine's own calls lead to.
use Rattle.std.specs.Prelude.{◌≡◌, Bool}
use Rattle.commands_file.specs.Calls.{HasBrokenOver, HaveAnswered, ShelfView}
use Rattle.formula_parts.specs.declared.look.Scene.{Scene}
use Rattle.serial_date.specs.declared.moment.Moment.{Moment}
use Rattle.work_sheet.specs.Work.{HasWorked, Work}
use Rattle.session_core.specs.Machine.{State, scene_at, Outcome, Replies}
use Rattle.session_core.specs.Step.{event_done, EventTells}
use Rattle.session_core.specs.declared.event.Event.{Event}

-- the machine's state, and the work that was done
pub record Worked : Type 0 where
  pub state : State
  pub work : Work

-- the machine goes on to an outcome, with the work of what happened, and is told whether the run ends
pub record Leads (o : Outcome) (told : Bool) (a b : Worked) : Type 0 where
  pub state : b.state ≡ o.state
  pub work : HasWorked o.log a.work b.work
  pub ends : told ≡ o.ends

-- it goes on to what an act makes of its state, over this moment and where the pointer stands before
abbrev pub LeadsBy : (Scene → State → Outcome) → Moment → Bool → Worked → Worked → Type 0
LeadsBy act now told a b = Leads (act (scene_at a.state now) a.state) told a b

-- It goes on to what an act makes of its state over some answers of the shelf, which are those that what the shelf
-- holds gives, and the calls leave the shelf so.
pub record LeadsOver (act : Replies → Scene → State → Outcome) (now : Moment) (told : Bool) (a b : Worked)
    (before after : ShelfView) : Type 0 where
  pub replies : Replies
  pub leads : Leads (act replies (scene_at a.state now) a.state) told a b
  pub answered : HaveAnswered (act replies (scene_at a.state now) a.state).calls before after

-- memory ran out in an act, over this moment and where the pointer stands before
abbrev pub BreaksOver : (Replies → Scene → State → Outcome) → Moment → State → ShelfView → ShelfView → Type 0
BreaksOver act now s before after = HasBrokenOver (λ replies. (act replies (scene_at s now) s).calls) before after

-- An event was taken over some answers of the shelf, which are those that what the shelf holds gives, and a command
-- that it ends was kept if it changed the sheet; the calls leave the shelf so.
pub record HasDone (event : Event) (now : Moment) (told : Bool) (a b : Worked) (before after : ShelfView) : Type 0 where
  pub replies : Replies
  pub changed : Bool
  pub tells : EventTells event now replies changed a.state
  pub leads : Leads (event_done event replies changed (scene_at a.state now) a.state) told a b
  pub answered : HaveAnswered (event_done event replies changed (scene_at a.state now) a.state).calls before after
